-- Which of the objects that a clean-up listed are committed at its report.
use Rattle.std.proofs.Common.{◌≡◌, refl, sym, ap, ◌∙◌, subst, ℕ, ◌≤◌, ◌<◌, ◌==◌, nat_lt, Bool, true, false, not, ◌&&◌, ◌||◌, cond, List, [], ◌∷◌, ◌++◌, length, Option, Some, None, append_assoc, arith}
use Rattle.std.specs.Prelude.{is_some, filter, All, Contains, if◌then◌else◌}
use Rattle.std.specs.List.{concat, list_any}
use Rattle.std.proofs.lemmas.Bool.Decides.{nat_tests}
use Rattle.std.proofs.lemmas.List.Elements.{All-nil, All-cons, All-append, All-weaker, All-head, All-tail, All-map, All-filter}
use Rattle.lo_base.specs.declared.request.Request.{Request}
use Rattle.lo_base.specs.declared.request.Request.TheVariants.{Vacuumlo}
use Rattle.lo_model.specs.declared.owner.Owner.{Owner}
use Rattle.lo_model.specs.declared.owner.Owner.TheVariants.{Running, Committed}
use Rattle.lo_model.specs.declared.viewer.Viewer.TheVariants.{Nobody, Whole}
use Rattle.lo_model.specs.Edit.{Deed, Create, Write, Cut, Unlink, Put, Delete, Edit, deeds}
use Rattle.lo_model.specs.Listing.{has_object}
use Rattle.lo_model.specs.Object.{object_after, object_after_all, object_in}
use Rattle.lo_model.specs.Transaction.{top_level, is_open}
use Rattle.lo_model.specs.View.{sees_edit, has_owner, view}
use Rattle.lo_model.proofs.ListingLaws.{oids_are}
use Rattle.orphan_sweep.specs.declared.act.SweepAct.TheVariants as acts
use Rattle.orphan_sweep.specs.History.{is_commit}
use Rattle.orphan_sweep.specs.Plan.{unlinked_by, unlinks}
use Rattle.orphan_sweep.proofs.Rests.{has-from, has-to}
use Rattle.lo_machine.specs.Run.{Moment, next_line, moment_after, end_from}
use Rattle.lo_machine.specs.State.{State, now, edits, session_of, view_of, committed_edits}
use Rattle.lo_machine.specs.SweepRows.{act_of}
use Rattle.lo_machine.specs.Well.{IsOwner, IsPast}
use Rattle.lo_machine.specs.SweepLaw.{Done, does_act, done_at, acts_by, acts_of, HasEdit, AreCommitted, commit_clocks, Sweeping, IsSweeping, IsLeftToIt, IsMadeAgain, beginning, end, done, listed, rest}
use Rattle.lo_machine.proofs.SweepGroups.{IsOutside, was_outside}
use Rattle.lo_machine.proofs.SweepPast.{ArePast}
use Rattle.lo_machine.proofs.SweepViews.{advance_same, committed_stays, now_later, is_unlink_of, AllMore, there_in_more}

pub and_both : (a b : Bool) → (a && b) ≡ true → (a ≡ true) × (b ≡ true)
and_both true b h = (refl, h)
and_both false b h = cc

pub both_and : (a b : Bool) → a ≡ true → b ≡ true → (a && b) ≡ true
both_and true b h k = k
both_and false b h k = cc

-- The list was made of what was committed: the session had no open edits.

none_open_of : (st : State) (s : ℕ) → IsOutside st s → (e : Edit Deed) → IsPast (now st) (session_of st) e → sees_edit (now st) (Whole s) e ≡ sees_edit (now st) Nobody e
none_open_of st s outside e past = ap (λ b. nat_lt e.clock (now st) && b) (by e.owner past.owner)
  where
    empty : (levels : List (Option (List ℕ))) → is_open (record { levels = levels; failed = (session_of st s).transaction.failed }) ≡ false → length levels ≡ 0
    empty [] is = refl
    empty (level ∷ levels) is = cc

    by : (o : Owner) → IsOwner (now st) (session_of st) o → (elim o as (λ x. Bool) [ Running t l ↦ t == s | Committed c ↦ nat_lt c (now st) ]) ≡ (elim o as (λ x. Bool) [ Running t l ↦ false | Committed c ↦ nat_lt c (now st) ])
    by (Committed c) own = refl
    by (Running t l) own = test (t == s) refl
      where
        test : (b : Bool) → (t == s) ≡ b → (t == s) ≡ false
        test false is = is
        test true is =
            let same : t ≡ s = grind (arith, nat_tests, is) in
            let low : l ≤ top_level (session_of st s).transaction = subst (λ u. l ≤ top_level (session_of st u).transaction) same own.1 in
            absurd (omega (arith, low, own.0, empty (session_of st s).transaction.levels outside))

all_agree : (p q : Edit Deed → Bool) (P : Edit Deed → Type 0) → ((e : Edit Deed) → P e → p e ≡ q e) → (es : List (Edit Deed)) → All P es → filter p es ≡ filter q es
all_agree p q P each [] all = refl
all_agree p q P each (e ∷ es) all =
    ap (λ b. cond b (e ∷ filter p es) (filter p es)) (each e (All-head P e es all))
    ∙ ap (λ xs. cond (q e) (e ∷ xs) xs) (all_agree p q P each es (All-tail P e es all))

listed_view : (w : Sweeping) → IsOutside w.moment.state w.session → ArePast w.moment.state → view_of w.moment.state w.session ≡ committed_edits w.moment.state
listed_view w outside past =
    all_agree (sees_edit (now w.moment.state) (Whole w.session)) (sees_edit (now w.moment.state) Nobody) (IsPast (now w.moment.state) (session_of w.moment.state))
    (none_open_of w.moment.state w.session outside) (edits w.moment.state) past.past

pub began_later : (w : Sweeping) → now w.moment.state ≤ now (beginning w).state
began_later w = omega arith

then_stays : (w : Sweeping) → view (now w.moment.state) Nobody (edits (end w).state) ≡ committed_edits w.moment.state
then_stays w =
    committed_stays (now w.moment.state) w.programs (beginning w) w.since (began_later w)
    ∙ advance_same (now w.moment.state) w.moment w.session (Some (Vacuumlo w.dry w.limit)) (omega arith)

ends_later : (programs : List (List Request)) (m : Moment) (schedule : List ℕ) → now m.state ≤ now (end_from programs m schedule).state
ends_later programs m [] = omega arith
ends_later programs m (t ∷ schedule) = omega (arith, now_later m t (next_line programs m t), ends_later programs (moment_after m t (next_line programs m t)) schedule)

-- An act that was done is among the acts.

pub unlinked_in : (ds before : List Done) (d : Done) (after : List Done) (o : ℕ) → ds ≡ before ++ d ∷ after → d.act ≡ acts.Unlink o → list_any (λ n. n == o) (unlinks (acts_of ds)) ≡ true
unlinked_in ds before d after o split is =
    let itself : (o == o) ≡ true = grind (arith, nat_tests) in
    ap (λ xs. list_any (λ n. n == o) (unlinks (acts_of xs))) split ∙ by before
  where
    right : (a b : Bool) → b ≡ true → (a || b) ≡ true
    right true b h = refl
    right false b h = h

    among : (xs ys : List ℕ) → list_any (λ n. n == o) ys ≡ true → list_any (λ n. n == o) (xs ++ ys) ≡ true
    among [] ys h = h
    among (x ∷ xs) ys h = right (x == o) (list_any (λ n. n == o) (xs ++ ys)) (among xs ys h)

    by : (xs : List Done) → list_any (λ n. n == o) (unlinks (acts_of (xs ++ d ∷ after))) ≡ true
    by [] =
        let itself : (o == o) ≡ true = grind (arith, nat_tests) in
        ap (λ a. list_any (λ n. n == o) (unlinked_by a ++ unlinks (acts_of after))) is ∙ ap (λ b. b || list_any (λ n. n == o) (unlinks (acts_of after))) itself
    by (x ∷ xs) = among (unlinked_by x.act) (unlinks (acts_of (xs ++ d ∷ after))) (by xs)

-- An unlink of an object, and a creation of it.

pub unlink_is : (o : ℕ) (d : Deed) → is_unlink_of o d ≡ true → d ≡ Unlink o
unlink_is o (Unlink p) h = let same : p ≡ o = grind (arith, nat_tests, h) in ap (λ n. Unlink n) same
unlink_is o (Create p) h = cc
unlink_is o (Write p at new) h = cc
unlink_is o (Cut p size) h = cc
unlink_is o (Put t i values stored) h = cc
unlink_is o (Delete t i) h = cc

abbrev is_create_of : (oid : ℕ) → Deed → Bool
is_create_of o (Create p) = p == o
is_create_of o _ = false

create_is : (o : ℕ) (d : Deed) → is_create_of o d ≡ true → d ≡ Create o
create_is o (Create p) h = let same : p ≡ o = grind (arith, nat_tests, h) in ap (λ n. Create n) same
create_is o (Unlink p) h = cc
create_is o (Write p at new) h = cc
create_is o (Cut p size) h = cc
create_is o (Put t i values stored) h = cc
create_is o (Delete t i) h = cc

none_chosen : (b : Bool) → let gone : Option (List ℕ) = None in (if b then gone else gone) ≡ gone
none_chosen true = refl
none_chosen false = refl

not_made : (o : ℕ) (d : Deed) → is_create_of o d ≡ false → object_after o None d ≡ None
not_made o (Create p) other = ap (λ b. if b then Some [] else None) other
not_made o (Unlink p) other = none_chosen (p == o)
not_made o (Write p at new) other = none_chosen (p == o)
not_made o (Cut p size) other = none_chosen (p == o)
not_made o (Put t i values stored) other = refl
not_made o (Delete t i) other = refl

-- What a scan found is kept.

sees_later : (n n' : ℕ) (e : Edit Deed) → n ≤ n' → sees_edit n Nobody e ≡ true → sees_edit n' Nobody e ≡ true
sees_later n n' e later sees = by e.owner sees
  where
    by : (o : Owner) → (nat_lt e.clock n && (elim o as (λ x. Bool) [ Running t l ↦ false | Committed c ↦ nat_lt c n ])) ≡ true → (nat_lt e.clock n' && (elim o as (λ x. Bool) [ Running t l ↦ false | Committed c ↦ nat_lt c n' ])) ≡ true
    by (Running t l) h = absurd (let both = and_both (nat_lt e.clock n) false h in let e' = both.1 in cc)
    by (Committed c) h =
        let both = and_both (nat_lt e.clock n) (nat_lt c n) h in
        let made : nat_lt e.clock n' ≡ true = grind (arith, nat_tests, later, both.0) in
        let committed' : nat_lt c n' ≡ true = grind (arith, nat_tests, later, both.1) in
        both_and (nat_lt e.clock n') (nat_lt c n') made committed'

module _ (w : Sweeping) (o : ℕ) where
  abbrev pub earlier : Edit Deed → Bool
  earlier e = sees_edit (now w.moment.state) Nobody e

  abbrev pub at_end : Edit Deed → Bool
  at_end e = sees_edit (now (end w).state) Nobody e

  end_later : now w.moment.state ≤ now (end w).state
  end_later = omega (arith, began_later w, ends_later w.programs (beginning w) w.since)

  all_more : unlinks (acts_of (done w)) ≡ rest w → ¬ Contains (rest w) o → IsLeftToIt w o → (before es : List (Edit Deed)) → edits (end w).state ≡ before ++ es → AllMore o earlier at_end es
  all_more each other left before [] split = tt
  all_more each other left before (e ∷ es) split = (
    record {
      more = λ sees. sees_later (now w.moment.state) (now (end w).state) e end_later sees;
      none = λ past present. by (is_unlink_of o e.deed) refl past present;
    },
    all_more each other left (before ++ e ∷ []) es (split ∙ sym (append_assoc before (e ∷ []) es)),
  )
    where
      by : (b : Bool) → is_unlink_of o e.deed ≡ b → earlier e ≡ false → at_end e ≡ true → is_unlink_of o e.deed ≡ false
      by false is past present = is
      by true is past present =
          let did = left before es e split (both_and (at_end e) (not (earlier e)) present (ap not past)) (unlink_is o e.deed is) in
          absurd (other (has-to (rest w) o (ap (list_any (λ n. n == o)) (sym each) ∙ unlinked_in (done w) did.before did.it did.after o did.split did.act_of)))

  pub kept_there : IsSweeping w → ArePast w.moment.state → unlinks (acts_of (done w)) ≡ rest w → Contains (listed w) o → ¬ Contains (rest w) o → IsLeftToIt w o → has_object (committed_edits (end w).state) o ≡ true
  kept_there is past each inside other left =
      let there : has_object (view_of w.moment.state w.session) o ≡ true = sym (oids_are (view_of w.moment.state w.session) o) ∙ has-from (listed w) o inside in
      let then_there : has_object (view (now w.moment.state) Nobody (edits (end w).state)) o ≡ true =
      ap (λ v. has_object v o) (then_stays w ∙ sym (listed_view w (was_outside w is) past)) ∙ there in
      there_in_more o earlier at_end None None (edits (end w).state) (all_more each other left [] (edits (end w).state) refl) (λ h. h) then_there

-- What is of the rest is gone.

pub record UnlinkedSince (es : List (Edit Deed)) (n o : ℕ) : Type 0 where
  pub clock : ℕ
  pub has : HasEdit es (Unlink o) (Committed clock)
  pub since : n ≤ clock

pub all_unlinked : (es : List (Edit Deed)) (n : ℕ) (gs : List (List ℕ)) (clocks : List ℕ) → AreCommitted es gs clocks → All (λ c. n ≤ c) clocks → All (UnlinkedSince es n) (concat gs)
all_unlinked es n [] clocks are late = All-nil (UnlinkedSince es n)
all_unlinked es n (g ∷ gs) [] are late = absurd are
all_unlinked es n (g ∷ gs) (c ∷ clocks) are late =
    All-append (UnlinkedSince es n) g (concat gs)
    (All-weaker (λ o. HasEdit es (Unlink o) (Committed c)) (UnlinkedSince es n) (λ o has. record { clock = c; has = has; since = All-head (λ k. n ≤ k) c clocks late }) g are.0)
    (all_unlinked es n gs clocks are.1 (All-tail (λ k. n ≤ k) c clocks late))

done_later : (n s : ℕ) (m : Moment) (line : Option Request) → n ≤ now m.state → All (λ (d : Done). n ≤ now d.state) (done_at m.state s line)
done_later n s m None late = All-nil (λ (d : Done). n ≤ now d.state)
done_later n s m (Some r) late = by (does_act m.state s (Some r))
  where
    by : (b : Bool) → All (λ (d : Done). n ≤ now d.state) (if b then record { act = act_of m.state s; line = r; state = m.state } ∷ [] else [])
    by false = All-nil (λ (d : Done). n ≤ now d.state)
    by true = All-cons (λ (d : Done). n ≤ now d.state) (record { act = act_of m.state s; line = r; state = m.state }) [] late (All-nil (λ (d : Done). n ≤ now d.state))

pub acts_later : (n s : ℕ) (programs : List (List Request)) (m : Moment) (since : List ℕ) → n ≤ now m.state → All (λ (d : Done). n ≤ now d.state) (acts_by s programs m since)
acts_later n s programs m [] late = All-nil (λ (d : Done). n ≤ now d.state)
acts_later n s programs m (t ∷ since) late =
    All-append (λ (d : Done). n ≤ now d.state) (if t == s then done_at m.state t (next_line programs m t) else []) (acts_by s programs (moment_after m t (next_line programs m t)) since)
    (by (t == s))
    (acts_later n s programs (moment_after m t (next_line programs m t)) since (omega (arith, late, now_later m t (next_line programs m t))))
  where
    by : (b : Bool) → All (λ (d : Done). n ≤ now d.state) (if b then done_at m.state t (next_line programs m t) else [])
    by true = done_later n t m (next_line programs m t) late
    by false = All-nil (λ (d : Done). n ≤ now d.state)

pub clocks_later : (n : ℕ) (ds : List Done) → All (λ (d : Done). n ≤ now d.state) ds → All (λ c. n ≤ c) (commit_clocks ds)
clocks_later n ds late =
    All-map (λ c. n ≤ c) (λ (d : Done). now d.state) (filter (λ (d : Done). is_commit d.act) ds)
    (All-filter (λ (d : Done). is_commit d.act) (λ (d : Done). n ≤ now d.state) ds late)

all_middle : (P : Edit Deed → Type 0) (before : List (Edit Deed)) (e : Edit Deed) (after : List (Edit Deed)) → All P (before ++ e ∷ after) → P e
all_middle P [] e after all = All-head P e after all
all_middle P (x ∷ before) e after all = all_middle P before e after (All-tail P x (before ++ e ∷ after) all)

module _ (o : ℕ) (q : Edit Deed → Bool) where
  abbrev pub left_by : Option (List ℕ) → List (Edit Deed) → Option (List ℕ)
  left_by old es = object_after_all o old (deeds (filter q es))

  pub one_left : (old : Option (List ℕ)) (e : Edit Deed) (es : List (Edit Deed)) → q e ≡ true → left_by old (e ∷ es) ≡ left_by (object_after o old e.deed) es
  one_left old e es is = ap (λ b. object_after_all o old (deeds (cond b (e ∷ filter q es) (filter q es)))) is

  pub none_left : (old : Option (List ℕ)) (e : Edit Deed) (es : List (Edit Deed)) → q e ≡ false → left_by old (e ∷ es) ≡ left_by old es
  none_left old e es is = ap (λ b. object_after_all o old (deeds (cond b (e ∷ filter q es) (filter q es)))) is

  pub parts_left : (old : Option (List ℕ)) (xs ys : List (Edit Deed)) → left_by old (xs ++ ys) ≡ left_by (left_by old xs) ys
  parts_left old [] ys = refl
  parts_left old (x ∷ xs) ys = by (q x) refl (λ before. parts_left before xs ys)
    where
      by : (b : Bool) → q x ≡ b → ((before : Option (List ℕ)) → left_by before (xs ++ ys) ≡ left_by (left_by before xs) ys) → left_by old (x ∷ (xs ++ ys)) ≡ left_by (left_by old (x ∷ xs)) ys
      by true is on = one_left old x (xs ++ ys) is ∙ (on (object_after o old x.deed) ∙ ap (λ before. left_by before ys) (sym (one_left old x xs is)))
      by false is on = none_left old x (xs ++ ys) is ∙ (on old ∙ ap (λ before. left_by before ys) (sym (none_left old x xs is)))

  never_made : (es : List (Edit Deed)) → ((xs : List (Edit Deed)) (e : Edit Deed) (ys : List (Edit Deed)) → es ≡ xs ++ e ∷ ys → e.deed ≡ Create o → q e ≡ true → ⊥) → left_by None es ≡ None
  never_made [] no_creation = refl
  never_made (e ∷ es) no_creation = by (q e) (is_create_of o e.deed) refl refl (never_made es (λ xs c ys split. no_creation (e ∷ xs) c ys (ap (λ zs. e ∷ zs) split)))
    where
      by : (b made : Bool) → q e ≡ b → is_create_of o e.deed ≡ made → left_by None es ≡ None → left_by None (e ∷ es) ≡ None
      by false made is creates on = none_left None e es is ∙ on
      by true true is creates on = absurd (no_creation [] e es refl (create_is o e.deed creates) is)
      by true false is creates on = one_left None e es is ∙ (ap (λ old. left_by old es) (not_made o e.deed creates) ∙ on)

module _ (w : Sweeping) (o : ℕ) (past : ArePast (end w).state) where
  pub unlinked_gone : UnlinkedSince (edits (end w).state) (now w.moment.state) o → ¬ IsMadeAgain w o → has_object (committed_edits (end w).state) o ≡ false
  unlinked_gone it never = ap is_some gone'
    where
      e : Edit Deed
      e = it.has.edit

      is_past : IsPast (now (end w).state) (session_of (end w).state) e
      is_past = all_middle (IsPast (now (end w).state) (session_of (end w).state)) it.has.before e it.has.after (subst (All (IsPast (now (end w).state) (session_of (end w).state))) it.has.is past.past)

      clock : it.clock < now (end w).state
      clock = subst (IsOwner (now (end w).state) (session_of (end w).state)) it.has.owned is_past.owner

      present : at_end w o e ≡ true
      present =
          let made : nat_lt e.clock (now (end w).state) ≡ true = (let low = is_past.made in grind (arith, nat_tests, low)) in
          let committed' : nat_lt it.clock (now (end w).state) ≡ true = grind (arith, nat_tests, clock) in
          both_and (nat_lt e.clock (now (end w).state)) _ made (ap (has_owner (now (end w).state) Nobody) it.has.owned ∙ committed')

      absent : earlier w o e ≡ false
      absent =
          let late : nat_lt it.clock (now w.moment.state) ≡ false = (let high = it.since in grind (arith, nat_tests, high)) in
          ap (λ b. nat_lt e.clock (now w.moment.state) && b) (ap (has_owner (now w.moment.state) Nobody) it.has.owned ∙ late) ∙ none (nat_lt e.clock (now w.moment.state))
        where
          none : (a : Bool) → (a && false) ≡ false
          none true = refl
          none false = refl

      unlinks_it : (old : Option (List ℕ)) → object_after o old e.deed ≡ None
      unlinks_it old =
          let itself : (o == o) ≡ true = grind (arith, nat_tests) in
          ap (object_after o old) it.has.does ∙ ap (λ b. if b then None else old) itself

      gone' : object_in o (committed_edits (end w).state) ≡ None
      gone' =
          ap (left_by o (at_end w o) None) it.has.is
          ∙ (parts_left o (at_end w o) None it.has.before (e ∷ it.has.after)
          ∙ (one_left o (at_end w o) (left_by o (at_end w o) None it.has.before) e it.has.after present
          ∙ (ap (λ old. left_by o (at_end w o) old it.has.after) (unlinks_it (left_by o (at_end w o) None it.has.before))
          ∙ never_made o (at_end w o) it.has.after (λ xs c ys split creates seen. never (record {
            before = it.has.before;
            unlink = e;
            between = xs;
            creation = c;
            after = ys;
            split = it.has.is ∙ ap (λ zs. it.has.before ++ e ∷ zs) split;
            unlinks = it.has.does;
            since = both_and (at_end w o e) (not (earlier w o e)) present (ap not absent);
            creates = creates;
            committed = seen;
          })))))
