-- What was committed at a clock stays so, and an object of a view stays where no unlink of it is added.
use Rattle.std.proofs.Common.{◌≡◌, refl, sym, ap, ◌∙◌, ℕ, ◌-◌, ◌≤◌, ◌==◌, nat_lt, Bool, true, false, not, ◌&&◌, cond, ◌⊎◌, inl, inr, List, [], ◌∷◌, ◌++◌, map, Option, Some, None, append-nil, arith}
use Rattle.std.specs.Prelude.{is_some, filter, option_map, if◌then◌else◌}
use Rattle.std.proofs.lemmas.Bool.Decides.{nat_tests}
use Rattle.std.proofs.lemmas.List.Elements.{filter-append}
use Rattle.lo_base.specs.declared.refusal.Refusal.{Refusal}
use Rattle.lo_base.specs.declared.request.Request.{Request}
use Rattle.lo_base.specs.declared.request.Request.TheVariants.{Begin, Commit, Rollback, Savepoint, Release, RollbackTo, Vacuum, Vacuumlo, Step, Finish}
use Rattle.lo_model.specs.declared.owner.Owner.{Owner}
use Rattle.lo_model.specs.declared.owner.Owner.TheVariants.{Running, Committed}
use Rattle.lo_model.specs.declared.viewer.Viewer.TheVariants.{Nobody}
use Rattle.lo_model.specs.Edit.{Deed, Create, Write, Cut, Unlink, Put, Delete, Edit, edits_by, deeds}
use Rattle.lo_model.specs.Levels.{is_from_level, owned_by, released_owner, released, undone, committed_owner, committed}
use Rattle.lo_model.specs.Object.{laid_over, at_size, object_after, object_after_all}
use Rattle.lo_model.specs.Transaction.{is_open, top_level}
use Rattle.lo_model.specs.View.{sees_edit, has_owner, view}
use Rattle.orphan_sweep.specs.declared.act.SweepAct.{SweepAct}
use Rattle.orphan_sweep.specs.declared.act.SweepAct.TheVariants as acts
use Rattle.lo_calls.specs.ObjectRows.{unlink_row}
use Rattle.lo_machine.specs.CallRow.{call_row}
use Rattle.lo_machine.specs.CallRows.{called, row_at}
use Rattle.lo_machine.specs.Row.{Granted, on_objects}
use Rattle.lo_machine.specs.Run.{Moment, next_line, moment_after, end_from}
use Rattle.lo_machine.specs.State.{State, Outcome, now, edits, session_of, refused, refused_in, owner_in}
use Rattle.lo_machine.specs.Step.{granted, refusal_of, granted_or_refused, state_after}
use Rattle.lo_machine.specs.SweepRows.{act_of, act_granted}
use Rattle.lo_machine.specs.TransactionRows.{level_named, level_or_0, begun, rolled_back, committed_in}
use Rattle.lo_machine.proofs.SweepEdits.{told_database}

-- Filters.

filter_one : (p q : Edit Deed → Bool) (a b : Edit Deed) (xs ys : List (Edit Deed)) → (p a ≡ false) × (q b ≡ false) ⊎ (p a ≡ q b) × (a ≡ b) → filter p xs ≡ filter q ys → filter p (a ∷ xs) ≡ filter q (b ∷ ys)
filter_one p q a b xs ys (inl none) same =
    ap (λ t. cond t (a ∷ filter p xs) (filter p xs)) none.0 ∙ (same ∙ ap (λ t. cond t (b ∷ filter q ys) (filter q ys)) (sym none.1))
filter_one p q a b xs ys (inr is) same =
    ap (λ t. cond t (a ∷ filter p xs) (filter p xs)) is.0 ∙ (ap (λ e. cond (q b) (e ∷ filter p xs) (filter p xs)) is.1 ∙ ap (λ zs. cond (q b) (b ∷ zs) zs) same)

and_false : (a : Bool) → (a && false) ≡ false
and_false true = refl
and_false false = refl

abbrev pub committed_at : ℕ → Edit Deed → Bool
committed_at n e = sees_edit n Nobody e

-- edits of open transactions are unseen
module _ (n s : ℕ) where
  owned_unseen : (e : Edit Deed) (change : Owner → Owner) → has_owner n Nobody (change e.owner) ≡ false → committed_at n (owned_by change e) ≡ false
  owned_unseen e change running = ap (λ b. nat_lt e.clock n && b) running ∙ and_false (nat_lt e.clock n)

  unseen : (e : Edit Deed) (k : ℕ) → is_from_level s k e.owner ≡ true → committed_at n e ≡ false
  unseen e k from = ap (λ b. nat_lt e.clock n && b) (by e.owner from) ∙ and_false (nat_lt e.clock n)
    where
      by : (o : Owner) → is_from_level s k o ≡ true → has_owner n Nobody o ≡ false
      by (Running t l) from = refl
      by (Committed c) from = cc

  view_changed : (change : Owner → Owner) (k : ℕ) → ((e : Edit Deed) → (is_from_level s k e.owner ≡ true) × (has_owner n Nobody (change e.owner) ≡ false) ⊎ (change e.owner ≡ e.owner)) → (es : List (Edit Deed)) → view n Nobody (map (owned_by change) es) ≡ view n Nobody es
  view_changed change k each [] = refl
  view_changed change k each (e ∷ es) =
      filter_one (committed_at n) (committed_at n) (owned_by change e) e (map (owned_by change) es) es (elim (each e) [
        | inl turned ↦ inl (owned_unseen e change turned.1, unseen e k turned.0)
        | inr same ↦ inr (ap (λ o. nat_lt e.clock n && has_owner n Nobody o) same, ap (λ o. let again : Edit Deed = record { clock = e.clock; owner = o; deed = e.deed } in again) same)
      ]) (view_changed change k each es)

  view_released : (k : ℕ) (es : List (Edit Deed)) → view n Nobody (released s k es) ≡ view n Nobody es
  view_released k es = view_changed (released_owner s k) k (λ e. by (is_from_level s k e.owner) refl) es
    where
      by : {o : Owner} (b : Bool) → is_from_level s k o ≡ b → (is_from_level s k o ≡ true) × (has_owner n Nobody (released_owner s k o) ≡ false) ⊎ (released_owner s k o ≡ o)
      by {o} true from = inl (from, ap (λ b. has_owner n Nobody (if b then Running s (k - 1) else o)) from)
      by {o} false from = inr (ap (λ b. if b then Running s (k - 1) else o) from)

  view_committed : (clock : ℕ) → n ≤ clock → (es : List (Edit Deed)) → view n Nobody (committed s clock es) ≡ view n Nobody es
  view_committed clock later es = view_changed (committed_owner s clock) 0 (λ e. by (is_from_level s 0 e.owner) refl) es
    where
      past : nat_lt clock n ≡ false
      past = grind (arith, nat_tests, later)

      by : {o : Owner} (b : Bool) → is_from_level s 0 o ≡ b → (is_from_level s 0 o ≡ true) × (has_owner n Nobody (committed_owner s clock o) ≡ false) ⊎ (committed_owner s clock o ≡ o)
      by {o} true from = inl (from, ap (λ b. has_owner n Nobody (if b then Committed clock else o)) from ∙ past)
      by {o} false from = inr (ap (λ b. if b then Committed clock else o) from)

  view_undone : (k : ℕ) (es : List (Edit Deed)) → view n Nobody (undone s k es) ≡ view n Nobody es
  view_undone k [] = refl
  view_undone k (e ∷ es) = by (is_from_level s k e.owner) refl (view_undone k es)
    where
      by : (b : Bool) → is_from_level s k e.owner ≡ b → view n Nobody (undone s k es) ≡ view n Nobody es → view n Nobody (undone s k (e ∷ es)) ≡ view n Nobody (e ∷ es)
      by true from same =
          ap (λ b. view n Nobody (cond (not b) (e ∷ undone s k es) (undone s k es))) from
          ∙ (same ∙ ap (λ b. cond b (e ∷ view n Nobody es) (view n Nobody es)) (sym (unseen e k from)))
      by false from same =
          ap (λ b. view n Nobody (cond (not b) (e ∷ undone s k es) (undone s k es))) from
          ∙ ap (λ xs. cond (committed_at n e) (e ∷ xs) xs) same

  -- and so are edits that are made later
  view_made : (clock : ℕ) → n ≤ clock → (owner : Owner) (ds : List Deed) → view n Nobody (edits_by clock owner ds) ≡ []
  view_made clock later owner [] = refl
  view_made clock later owner (d ∷ ds) =
      let past : nat_lt clock n ≡ false = grind (arith, nat_tests, later) in
      ap (λ b. cond (b && has_owner n Nobody owner) (record { clock = clock; owner = owner; deed = d } ∷ view n Nobody (edits_by clock owner ds)) (view n Nobody (edits_by clock owner ds))) past
      ∙ view_made clock later owner ds

  view_more : (clock : ℕ) → n ≤ clock → (es : List (Edit Deed)) (owner : Owner) (ds : List Deed) → view n Nobody (es ++ edits_by clock owner ds) ≡ view n Nobody es
  view_more clock later es owner ds =
      filter-append (committed_at n) es (edits_by clock owner ds) ∙ (ap (λ xs. view n Nobody es ++ xs) (view_made clock later owner ds) ∙ append-nil (view n Nobody es))

-- One request.

module _ (n : ℕ) (st : State) (s : ℕ) (later : n ≤ now st) where
  abbrev same : Outcome → Type 0
  same done = view n Nobody done.database.edits ≡ view n Nobody (edits st)

  refused_same : (r : Refusal) → same (refused st s r)
  refused_same r = by (is_open (session_of st s).transaction)
    where
      by : (inside : Bool) → same (refused_in st s inside r)
      by false = refl
      by true = view_undone n s (top_level (session_of st s).transaction) (edits st)

  begun_same : (inside : Bool) → same (begun st s inside)
  begun_same true = refl
  begun_same false = refl

  rolled_back_same : (inside : Bool) → same (rolled_back st s inside)
  rolled_back_same false = refl
  rolled_back_same true = view_undone n s 1 (edits st)

  committed_same : (inside failed : Bool) → same (committed_in st s inside failed)
  committed_same false failed = refl
  committed_same true true = rolled_back_same true
  committed_same true false = view_committed n s (now st) later (edits st)

  called_same : (by : Granted) → same (called st s by)
  called_same by = view_more n s (now st) later (edits st) (owner_in (now st) s (session_of st s).transaction.levels) by.deeds

  act_same : (act : SweepAct) → same (act_granted st s act)
  act_same (acts.Scan table column) = refl
  act_same acts.Begin = begun_same (is_open (session_of st s).transaction)
  act_same (acts.Unlink o) = called_same (row_at st s (on_objects (unlink_row o))).granted
  act_same acts.Commit = committed_same (is_open (session_of st s).transaction) (session_of st s).transaction.failed
  act_same acts.Rollback = rolled_back_same (is_open (session_of st s).transaction)
  act_same acts.Report = refl
  act_same acts.Idle = refl

  granted_same : (r : Request) → same (granted st s r)
  granted_same Begin = begun_same (is_open (session_of st s).transaction)
  granted_same Commit = committed_same (is_open (session_of st s).transaction) (session_of st s).transaction.failed
  granted_same Rollback = rolled_back_same (is_open (session_of st s).transaction)
  granted_same (Savepoint name) = refl
  granted_same (Release name) = view_released n s (level_or_0 (level_named st s name)) (edits st)
  granted_same (RollbackTo name) = view_undone n s (level_or_0 (level_named st s name)) (edits st)
  granted_same Vacuum = refl
  granted_same (Vacuumlo dry limit) = refl
  granted_same Step = act_same (act_of st s)
  granted_same Finish = act_same (act_of st s)
  granted_same r = called_same (row_at st s (call_row r)).granted

  done_same : (r : Request) (refusal : Option Refusal) → same (granted_or_refused st s r refusal)
  done_same r None = granted_same r
  done_same r (Some refusal) = refused_same refusal

  request_same : (r : Request) → view n Nobody (edits (state_after st s r)) ≡ view n Nobody (edits st)
  request_same r = ap (λ database. view n Nobody database.edits) (told_database st s r (is_some (refusal_of st s r)) (granted_or_refused st s r (refusal_of st s r))) ∙ done_same r (refusal_of st s r)

pub advance_same : (n : ℕ) (m : Moment) (s : ℕ) (line : Option Request) → n ≤ now m.state → view n Nobody (edits (moment_after m s line).state) ≡ view n Nobody (edits m.state)
advance_same n m s None later = refl
advance_same n m s (Some r) later = request_same n m.state s later r

pub now_later : (m : Moment) (s : ℕ) (line : Option Request) → now m.state ≤ now (moment_after m s line).state
now_later m s None = omega arith
now_later m s (Some r) = omega arith

-- What was committed at a clock stays what was committed at it.
pub committed_stays : (n : ℕ) (programs : List (List Request)) (m : Moment) (schedule : List ℕ) → n ≤ now m.state → view n Nobody (edits (end_from programs m schedule).state) ≡ view n Nobody (edits m.state)
committed_stays n programs m [] later = refl
committed_stays n programs m (t ∷ schedule) later =
    committed_stays n programs (moment_after m t (next_line programs m t)) schedule (omega (arith, later, now_later m t (next_line programs m t)))
    ∙ advance_same n m t (next_line programs m t) later

-- Objects.

abbrev pub is_unlink_of : (oid : ℕ) → Deed → Bool
is_unlink_of o (Unlink p) = p == o
is_unlink_of o _ = false

there_one : (o : ℕ) (old old' : Option (List ℕ)) (d : Deed) → (is_some old ≡ true → is_some old' ≡ true) → is_some (object_after o old d) ≡ true → is_some (object_after o old' d) ≡ true
there_one o old old' (Create p) more there = by (p == o) there
  where
    by : (b : Bool) → is_some (if b then Some [] else old) ≡ true → is_some (if b then Some [] else old') ≡ true
    by true h = refl
    by false h = more h
there_one o None None (Write p at new) more there = there
there_one o None (Some x) (Write p at new) more there = by (p == o)
  where
    by : (b : Bool) → is_some (if b then option_map (laid_over at new) (Some x) else Some x) ≡ true
    by true = refl
    by false = refl
there_one o (Some y) None (Write p at new) more there = absurd (let e = more refl in cc)
there_one o (Some y) (Some x) (Write p at new) more there = by (p == o)
  where
    by : (b : Bool) → is_some (if b then option_map (laid_over at new) (Some x) else Some x) ≡ true
    by true = refl
    by false = refl
there_one o None None (Cut p size) more there = there
there_one o None (Some x) (Cut p size) more there = by (p == o)
  where
    by : (b : Bool) → is_some (if b then option_map (at_size size) (Some x) else Some x) ≡ true
    by true = refl
    by false = refl
there_one o (Some y) None (Cut p size) more there = absurd (let e = more refl in cc)
there_one o (Some y) (Some x) (Cut p size) more there = by (p == o)
  where
    by : (b : Bool) → is_some (if b then option_map (at_size size) (Some x) else Some x) ≡ true
    by true = refl
    by false = refl
there_one o old old' (Unlink p) more there = by (p == o) there
  where
    by : (b : Bool) → is_some (if b then None else old) ≡ true → is_some (if b then None else old') ≡ true
    by true h = h
    by false h = more h
there_one o old old' (Put t i values stored) more there = more there
there_one o old old' (Delete t i) more there = more there

-- a deed other than its unlink takes no object away
pub there_still : (o : ℕ) (old : Option (List ℕ)) (d : Deed) → is_unlink_of o d ≡ false → is_some old ≡ true → is_some (object_after o old d) ≡ true
there_still o None d other there = cc
there_still o (Some x) (Create p) other there = by (p == o)
  where
    by : (b : Bool) → is_some (if b then Some [] else Some x) ≡ true
    by true = refl
    by false = refl
there_still o (Some x) (Write p at new) other there = by (p == o)
  where
    by : (b : Bool) → is_some (if b then option_map (laid_over at new) (Some x) else Some x) ≡ true
    by true = refl
    by false = refl
there_still o (Some x) (Cut p size) other there = by (p == o)
  where
    by : (b : Bool) → is_some (if b then option_map (at_size size) (Some x) else Some x) ≡ true
    by true = refl
    by false = refl
there_still o (Some x) (Unlink p) other there = ap (λ b. is_some (if b then None else Some x)) other
there_still o (Some x) (Put t i values stored) other there = refl
there_still o (Some x) (Delete t i) other there = refl

-- An object of a view is in one that has more, where no unlink of it is among what is more.
module _ (o : ℕ) (p q : Edit Deed → Bool) where
  abbrev pub fold : (Edit Deed → Bool) → Option (List ℕ) → List (Edit Deed) → Option (List ℕ)
  fold test old es = object_after_all o old (deeds (filter test es))

  pub record IsMore (e : Edit Deed) : Type 0 where
    pub more : p e ≡ true → q e ≡ true
    pub none : p e ≡ false → q e ≡ true → is_unlink_of o e.deed ≡ false

  abbrev pub AllMore : List (Edit Deed) → Type 0
  AllMore [] = Unit {0}
  AllMore (e ∷ es) = IsMore e × AllMore es

  pub there_in_more : (old old' : Option (List ℕ)) (es : List (Edit Deed)) → AllMore es → (is_some old ≡ true → is_some old' ≡ true) → is_some (fold p old es) ≡ true → is_some (fold q old' es) ≡ true
  there_in_more old old' [] all more there = more there
  there_in_more old old' (e ∷ es) all more there = by (p e) (q e) refl refl (λ a b. there_in_more a b es all.1)
    where
      by : (pe qe : Bool) → p e ≡ pe → q e ≡ qe → ((a b : Option (List ℕ)) → (is_some a ≡ true → is_some b ≡ true) → is_some (fold p a es) ≡ true → is_some (fold q b es) ≡ true) → is_some (fold q old' (e ∷ es)) ≡ true
      by true true ep eq on =
          ap (λ b. is_some (object_after_all o old' (deeds (cond b (e ∷ filter q es) (filter q es))))) eq
          ∙ on (object_after o old e.deed) (object_after o old' e.deed) (λ h. there_one o old old' e.deed more h)
          (sym (ap (λ b. is_some (object_after_all o old (deeds (cond b (e ∷ filter p es) (filter p es))))) ep) ∙ there)
      by true false ep eq on = absurd (let h = all.0.more ep in cc)
      by false true ep eq on =
          ap (λ b. is_some (object_after_all o old' (deeds (cond b (e ∷ filter q es) (filter q es))))) eq
          ∙ on old (object_after o old' e.deed) (λ h. there_still o old' e.deed (all.0.none ep eq) (more h))
          (sym (ap (λ b. is_some (object_after_all o old (deeds (cond b (e ∷ filter p es) (filter p es))))) ep) ∙ there)
      by false false ep eq on =
          ap (λ b. is_some (object_after_all o old' (deeds (cond b (e ∷ filter q es) (filter q es))))) eq
          ∙ on old old' more
          (sym (ap (λ b. is_some (object_after_all o old (deeds (cond b (e ∷ filter p es) (filter p es))))) ep) ∙ there)
