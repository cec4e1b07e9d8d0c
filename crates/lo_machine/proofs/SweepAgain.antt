-- An object that was made again is there, and so what is gone at a clean-up's report is said whole.
use Rattle.std.proofs.Common.{◌≡◌, refl, sym, ap, ◌∙◌, subst, ℕ, suc, ◌≤◌, ◌<◌, ◌==◌, nat_lt, Bool, true, false, not, ◌&&◌, ◌||◌, List, [], ◌∷◌, ◌++◌, Option, Some, None, append_assoc, arith}
use Rattle.std.specs.Prelude.{is_some, All, Contains, if◌then◌else◌}
use Rattle.std.specs.List.Sorted.{IsStrictlyIncreasing}
use Rattle.std.specs.List.{list_any}
use Rattle.std.proofs.lemmas.Bool.Decides.{nat_tests}
use Rattle.std.proofs.lemmas.List.Elements.{All-head, All-tail}
use Rattle.lo_base.specs.declared.request.Request.TheVariants.{Vacuumlo}
use Rattle.lo_model.specs.declared.viewer.Viewer.TheVariants.{Nobody}
use Rattle.lo_model.specs.Edit.{Deed, Edit}
use Rattle.lo_model.specs.Listing.{has_object}
use Rattle.lo_model.specs.Object.{object_after}
use Rattle.lo_model.specs.View.{has_owner}
use Rattle.lo_model.proofs.ListingLaws.{oids_ascend}
use Rattle.orphan_sweep.specs.declared.act.SweepAct.{SweepAct}
use Rattle.orphan_sweep.specs.declared.act.SweepAct.TheVariants as acts
use Rattle.orphan_sweep.specs.Plan.{unlinked_by, unlinks}
use Rattle.orphan_sweep.specs.Rest.{groups}
use Rattle.orphan_sweep.proofs.Rests.{are_groups, is_the_rest}
use Rattle.lo_machine.specs.Replay.{Play}
use Rattle.lo_machine.specs.Run.{Moment, start_from}
use Rattle.lo_machine.specs.State.{now, edits, view_of, committed_edits}
use Rattle.lo_machine.specs.SweepLaw.{Done, EndsAlone, is_denied, found, acts_of, commit_clocks, Sweeping, IsSweeping, DidAt, IsLeftToIt, IsMadeAgain, RemovesWhatItLists, RemovesInRun, is_stopped, beginning, end, done, listed, rest}
use Rattle.lo_machine.proofs.SweepAlone.{AloneAt, alone_done, alone_behind}
use Rattle.lo_machine.proofs.SweepGroups.{commits_whole}
use Rattle.lo_machine.proofs.SweepObjects.{both_and, unlinked_in, unlink_is, UnlinkedSince, all_unlinked, acts_later, clocks_later, began_later, left_by, one_left, none_left, parts_left, kept_there, unlinked_gone, earlier, at_end}
use Rattle.orphan_sweep.proofs.Merge.{IsFrom, Ascends, ascends_from}
use Rattle.lo_machine.proofs.SweepPast.{ArePast, past_from, past_opened, past_advance}
use Rattle.lo_machine.proofs.SweepReports.{both_false, removes}
use Rattle.lo_machine.proofs.SweepViews.{is_unlink_of, there_still}

-- No number is unlinked twice.

not_again : (least o : ℕ) (xs : List ℕ) → o < least → IsFrom least xs → list_any (λ n. n == o) xs ≡ true → ⊥
not_again least o [] low from inside = cc
not_again least o (x ∷ xs) low from inside =
    let differ : (x == o) ≡ false = (let high = from.0 in grind (arith, nat_tests, low, high)) in
    not_again least o xs low from.1 (sym (ap (λ b. b || list_any (λ n. n == o) xs) differ) ∙ inside)

ascends_after : (act : SweepAct) (xs : List ℕ) → Ascends (unlinked_by act ++ xs) → Ascends xs
ascends_after (acts.Scan t c) xs up = up
ascends_after acts.Begin xs up = up
ascends_after (acts.Unlink o) xs up = up.1
ascends_after acts.Commit xs up = up
ascends_after acts.Rollback xs up = up
ascends_after acts.Report xs up = up
ascends_after acts.Idle xs up = up

first_alone : (d : Done) (ds before : List Done) (e : Done) (after : List Done) (o : ℕ) → Ascends (unlinks (acts_of (d ∷ ds))) → d.act ≡ acts.Unlink o → ds ≡ before ++ e ∷ after → e.act ≡ acts.Unlink o → ⊥
first_alone d ds before e after o up is split is' =
    let all : Ascends (o ∷ unlinks (acts_of ds)) = subst (λ a. Ascends (unlinked_by a ++ unlinks (acts_of ds))) is up in
    not_again (suc o) o (unlinks (acts_of ds)) (omega arith) all.0 (unlinked_in ds before e after o split is')

same_clock : (ds b1 : List Done) (d1 : Done) (a1 b2 : List Done) (d2 : Done) (a2 : List Done) (o : ℕ) → Ascends (unlinks (acts_of ds)) → ds ≡ b1 ++ d1 ∷ a1 → ds ≡ b2 ++ d2 ∷ a2 → d1.act ≡ acts.Unlink o → d2.act ≡ acts.Unlink o → now d1.state ≡ now d2.state
same_clock [] [] d1 a1 b2 d2 a2 o up one two is is' = cc
same_clock [] (b ∷ b1) d1 a1 b2 d2 a2 o up one two is is' = cc
same_clock (d ∷ ds) [] d1 a1 [] d2 a2 o up one two is is' =
    let same : d1 ≡ d2 = cc in ap (λ (x : Done). now x.state) same
same_clock (d ∷ ds) [] d1 a1 (b ∷ b2) d2 a2 o up one two is is' =
    let first : d ≡ d1 = cc in
    let behind : ds ≡ b2 ++ d2 ∷ a2 = cc in
    absurd (first_alone d ds b2 d2 a2 o up (ap (λ (x : Done). x.act) first ∙ is) behind is')
same_clock (d ∷ ds) (b ∷ b1) d1 a1 [] d2 a2 o up one two is is' =
    let first : d ≡ d2 = cc in
    let behind : ds ≡ b1 ++ d1 ∷ a1 = cc in
    absurd (first_alone d ds b1 d1 a1 o up (ap (λ (x : Done). x.act) first ∙ is') behind is)
same_clock (d ∷ ds) (b ∷ b1) d1 a1 (c ∷ b2) d2 a2 o up one two is is' =
    let one' : ds ≡ b1 ++ d1 ∷ a1 = cc in
    let two' : ds ≡ b2 ++ d2 ∷ a2 = cc in
    same_clock ds b1 d1 a1 b2 d2 a2 o (ascends_after d.act (unlinks (acts_of ds)) up) one' two' is is'

-- Nothing unlinks the object behind its creation.

none_denied : (s : ℕ) (before : List Done) (d : Done) (after : List Done) → list_any (is_denied s) (before ++ d ∷ after) ≡ false → is_denied s d ≡ false
none_denied s [] d after none = (both_false (is_denied s d) (list_any (is_denied s) after) none).0
none_denied s (b ∷ before) d after none =
    none_denied s before d after (both_false (is_denied s b) (list_any (is_denied s) (before ++ d ∷ after)) none).1

module _ (o : ℕ) (q : Edit Deed → Bool) where
  still_there : (old : Option (List ℕ)) (es : List (Edit Deed)) → is_some old ≡ true → ((xs : List (Edit Deed)) (e : Edit Deed) (ys : List (Edit Deed)) → es ≡ xs ++ e ∷ ys → q e ≡ true → is_unlink_of o e.deed ≡ false) → is_some (left_by o q old es) ≡ true
  still_there old [] there each = there
  still_there old (e ∷ es) there each = by (q e) refl (λ old' there'. still_there old' es there' (λ xs x ys split. each (e ∷ xs) x ys (ap (λ zs. e ∷ zs) split)))
    where
      by : (b : Bool) → q e ≡ b → ((old' : Option (List ℕ)) → is_some old' ≡ true → is_some (left_by o q old' es) ≡ true) → is_some (left_by o q old (e ∷ es)) ≡ true
      by true is on = ap is_some (one_left o q old e es is) ∙ on (object_after o old e.deed) (there_still o old e.deed (each [] e es refl is) there)
      by false is on = ap is_some (none_left o q old e es is) ∙ on old there

middle : (P : Edit Deed → Type 0) (before : List (Edit Deed)) (e : Edit Deed) (after : List (Edit Deed)) → All P (before ++ e ∷ after) → P e
middle P [] e after all = All-head P e after all
middle P (x ∷ before) e after all = middle P before e after (All-tail P x (before ++ e ∷ after) all)

back : (P : Edit Deed → Type 0) (before after : List (Edit Deed)) → All P (before ++ after) → All P after
back P [] after all = all
back P (x ∷ before) after all = back P before after (All-tail P x (before ++ after) all)

all_of : (P : Done → Type 0) (before : List Done) (d : Done) (after : List Done) → All P (before ++ d ∷ after) → P d
all_of P [] d after all = All-head P d after all
all_of P (x ∷ before) d after all = all_of P before d after (All-tail P x (before ++ d ∷ after) all)

made_there : (w : Sweeping) (o : ℕ) → IsSweeping w → ArePast w.moment.state → unlinks (acts_of (done w)) ≡ rest w → is_stopped w ≡ false → IsLeftToIt w o → IsMadeAgain w o → has_object (committed_edits (end w).state) o ≡ true
made_there w o is past each granted left made = whole
  where
    q : Edit Deed → Bool
    q = at_end w o

    es : List (Edit Deed)
    es = edits (end w).state

    past_begun : ArePast (beginning w).state
    past_begun = past_advance w.moment w.session (Some (Vacuumlo w.dry w.limit)) past

    did : DidAt w (acts.Unlink o) made.unlink.clock
    did = left made.before (made.between ++ made.creation ∷ made.after) made.unlink made.split made.since made.unlinks

    alone : AloneAt (now did.it.state) es
    alone = alone_done w.session w.programs (beginning w) w.since o did.before did.it did.after past_begun did.split did.act_of
        (none_denied w.session did.before did.it did.after (sym (ap (list_any (is_denied w.session)) did.split) ∙ granted))

    newer : All (λ (x : Edit Deed). now did.it.state < x.clock) (made.between ++ made.creation ∷ made.after)
    newer = alone_behind (now did.it.state) es made.before made.unlink (made.between ++ made.creation ∷ made.after) alone made.split (sym did.clock_of)

    late : now w.moment.state ≤ now did.it.state
    late = all_of (λ (d : Done). now w.moment.state ≤ now d.state) did.before did.it did.after
        (subst (All (λ (d : Done). now w.moment.state ≤ now d.state)) did.split (acts_later (now w.moment.state) w.session w.programs (beginning w) w.since (began_later w)))

    ascending : Ascends (unlinks (acts_of (done w)))
    ascending = ascends_from (unlinks (acts_of (done w)))
        (subst IsStrictlyIncreasing (sym each) ((is_the_rest (listed w) (found w)).ascending (oids_ascend (view_of w.moment.state w.session))))

    none : (xs : List (Edit Deed)) (e : Edit Deed) (ys : List (Edit Deed)) → made.after ≡ xs ++ e ∷ ys → q e ≡ true → is_unlink_of o e.deed ≡ false
    none xs e ys split seen = by (is_unlink_of o e.deed) refl
      where
        where_it_is : es ≡ (made.before ++ made.unlink ∷ (made.between ++ made.creation ∷ xs)) ++ e ∷ ys
        where_it_is =
            made.split
            ∙ (ap (λ zs. made.before ++ made.unlink ∷ (made.between ++ made.creation ∷ zs)) split
            ∙ (ap (λ zs. made.before ++ made.unlink ∷ zs) (sym (append_assoc made.between (made.creation ∷ xs) (e ∷ ys)))
            ∙ sym (append_assoc made.before (made.unlink ∷ (made.between ++ made.creation ∷ xs)) (e ∷ ys))))

        behind : now did.it.state < e.clock
        behind =
            middle (λ (x : Edit Deed). now did.it.state < x.clock) xs e ys
            (subst (All (λ (x : Edit Deed). now did.it.state < x.clock)) split
            (All-tail (λ (x : Edit Deed). now did.it.state < x.clock) made.creation made.after (back (λ (x : Edit Deed). now did.it.state < x.clock) made.between (made.creation ∷ made.after) newer)))

        absent : earlier w o e ≡ false
        absent =
            let test : nat_lt e.clock (now w.moment.state) ≡ false = grind (arith, nat_tests, behind, late) in
            ap (λ b. b && has_owner (now w.moment.state) Nobody e.owner) test

        by : (b : Bool) → is_unlink_of o e.deed ≡ b → is_unlink_of o e.deed ≡ false
        by false no_unlink = no_unlink
        by true unlink =
            let other = left (made.before ++ made.unlink ∷ (made.between ++ made.creation ∷ xs)) ys e where_it_is (both_and (q e) (not (earlier w o e)) seen (ap not absent)) (unlink_is o e.deed unlink) in
            let same : now did.it.state ≡ now other.it.state = same_clock (done w) did.before did.it did.after other.before other.it other.after o ascending did.split other.split did.act_of other.act_of in
            absurd (omega (arith, same, behind, other.clock_of))

    created : (old : Option (List ℕ)) → is_some (object_after o old made.creation.deed) ≡ true
    created old =
        let itself : (o == o) ≡ true = grind (arith, nat_tests) in
        ap (λ d. is_some (object_after o old d)) made.creates ∙ ap (λ b. is_some (if b then Some [] else old)) itself

    whole : has_object (committed_edits (end w).state) o ≡ true
    whole =
        ap (λ xs. is_some (left_by o q None xs)) (made.split ∙ sym (append_assoc made.before (made.unlink ∷ made.between) (made.creation ∷ made.after)))
        ∙ (ap is_some (parts_left o q None (made.before ++ made.unlink ∷ made.between) (made.creation ∷ made.after))
        ∙ (ap is_some (one_left o q (left_by o q None (made.before ++ made.unlink ∷ made.between)) made.creation made.after made.committed)
        ∙ still_there o q (object_after o (left_by o q None (made.before ++ made.unlink ∷ made.between)) made.creation.deed) made.after (created (left_by o q None (made.before ++ made.unlink ∷ made.between))) none))

of_all : (P : ℕ → Type 0) (xs : List ℕ) (o : ℕ) → All P xs → Contains xs o → P o
of_all P xs o all inside = subst P inside.2 (all inside.0 o inside.1)

removes_listed : (w : Sweeping) → IsSweeping w → ArePast w.moment.state → EndsAlone w → RemovesWhatItLists w
removes_listed w is past ends = record {
  kept = λ o inside other left. kept_there w o is past wet_removes inside other left;
  again = λ o inside left made. made_there w o is past wet_removes ends.granted left made;
  gone = λ o inside never. unlinked_gone w o past_end (of_all (UnlinkedSince (edits (end w).state) (now w.moment.state)) (rest w) o unlinked inside) never;
}
  where
    wet_removes : unlinks (acts_of (done w)) ≡ rest w
    wet_removes = (removes w is ends.wet ends.granted ends.next).0.each

    past_end : ArePast (end w).state
    past_end = past_from w.programs (beginning w) w.since (past_advance w.moment w.session (Some (Vacuumlo w.dry w.limit)) past)

    unlinked : All (UnlinkedSince (edits (end w).state) (now w.moment.state)) (rest w)
    unlinked =
        subst (All (UnlinkedSince (edits (end w).state) (now w.moment.state))) (are_groups w.limit (rest w)).whole
        (all_unlinked (edits (end w).state) (now w.moment.state) (groups w.limit (rest w)) (commit_clocks (done w)) (commits_whole w is ends)
        (clocks_later (now w.moment.state) (done w) (acts_later (now w.moment.state) w.session w.programs (beginning w) w.since (began_later w))))

pub removes_in_run : (play : Play) (w : Sweeping) → RemovesInRun play w
removes_in_run play w of ends =
    removes_listed w of.sweeping (subst (λ (m : Moment). ArePast m.state) (sym of.moment) (past_from play.programs (start_from play.opening) of.before (past_opened play.opening))) ends
