-- A clean-up that is alone is refused nothing, so it is never stopped.
use Rattle.std.proofs.Common.{◌≡◌, refl, sym, ap, ◌∙◌, subst, ℕ, pos, suc, ◌+◌, ◌≤◌, ◌==◌, Bool, true, false, not, ◌&&◌, ◌||◌, List, [], ◌∷◌, ◌++◌, length, take, drop, map, Option, Some, None, append_assoc, arith}
use Rattle.std.specs.Prelude.{is_some, All, Contains, if◌then◌else◌}
use Rattle.std.specs.List.{list_any, flat_map}
use Rattle.std.proofs.lemmas.Bool.{or_from, true≢false}
use Rattle.std.proofs.lemmas.Bool.Decides.{nat_tests}
use Rattle.std.proofs.lemmas.List.{take-append-drop}
use Rattle.std.proofs.lemmas.List.Elements.{All-head, All-tail}
use Rattle.std.proofs.lemmas.List.Folds.{list_any-append}
use Rattle.lo_base.specs.declared.refusal.Cause.TheVariants.{Failed}
use Rattle.lo_base.specs.declared.request.Request.{Request}
use Rattle.lo_base.specs.declared.request.Request.TheVariants.{Vacuumlo}
use Rattle.lo_model.specs.Listing.{has_object}
use Rattle.lo_model.specs.Transaction.{is_open}
use Rattle.lo_model.proofs.ListingLaws.{oids_are, oids_ascend}
use Rattle.orphan_sweep.specs.declared.act.Scan.{Scan}
use Rattle.orphan_sweep.specs.declared.act.SweepAct.{SweepAct}
use Rattle.orphan_sweep.specs.declared.act.SweepAct.TheVariants as acts
use Rattle.orphan_sweep.specs.declared.act.Told.{Told}
use Rattle.orphan_sweep.specs.declared.act.Told.TheVariants.{Refused}
use Rattle.orphan_sweep.specs.History.{History, begun, next_act, numbers_found, rest_of}
use Rattle.orphan_sweep.specs.Law.{and_all_told, is_refused, IsTheRest}
use Rattle.orphan_sweep.specs.Plan.{scan_act, group_acts, removal, is_answer_to, unlinked_by, unlinks}
use Rattle.orphan_sweep.specs.Rest.{groups}
use Rattle.orphan_sweep.proofs.ActKinds.{the_refused}
use Rattle.orphan_sweep.proofs.AskedActs.{keeps_answers, asks_by_plan}
use Rattle.orphan_sweep.proofs.Groups.{none-work, unlinks-append, unlinks-removal, work}
use Rattle.orphan_sweep.proofs.Histories.{right_or}
use Rattle.orphan_sweep.proofs.Merge.{IsFrom, Ascends, ascends_from}
use Rattle.orphan_sweep.proofs.OneMoreAnswer.{plan_of}
use Rattle.orphan_sweep.proofs.Rests.{has-from, has-to, is_the_rest}
use Rattle.lo_machine.specs.Replay.{Play}
use Rattle.lo_machine.specs.Run.{Moment, next_line, moment_after, start_from}
use Rattle.lo_machine.specs.State.{Outcome, Player, session_of, view_of}
use Rattle.lo_machine.specs.Step.{failed, refusals, refusal_of, outcome}
use Rattle.lo_machine.specs.SweepRows.{act_of, is_idle, vacuumlo_granted}
use Rattle.lo_machine.specs.SweepLaw.{Done, is_act_line, does_act, done_at, acts_by, acts_of, is_denied, told_by, EachOwn, Sweeping, IsSweeping, IsAlone, IsSweepOf, is_stopped, beginning, done, listed, scans}
use Rattle.lo_machine.proofs.ActOutcomes.{vacuumlo_begun}
use Rattle.lo_machine.proofs.SweepActs.{Follows, own_player, other_player}
use Rattle.lo_machine.proofs.SweepGroups.{was_outside}
use Rattle.lo_machine.proofs.SweepObjects.{and_both}
use Rattle.lo_machine.proofs.SweepPast.{ArePast, past_advance, past_from, past_opened}
use Rattle.lo_machine.proofs.SweepReports.{both_false, told, acts_follow, answers_follow, refused_follow, follows_split}
use Rattle.lo_machine.proofs.SweepSpares.{AreClosed, IsReady, is_rollback, ready_after, unlink_unrefused, whole_view}
use Rattle.lo_machine.proofs.SweepStops.{FirstOf, the_first, the_refusal, told_so, front_done, none_in_front, scans_remove_none, dry_granted}
use Rattle.lo_machine.proofs.Unmet.{first_none, unmet}

abbrev is_in : ℕ → List ℕ → Bool
is_in o xs = list_any (λ n. n == o) xs

-- What was done before an act: nothing was refused, rolled back, or an unlink of the object.
record GoesOnward (s oid : ℕ) (before : List Done) : Type 0 where
  granted : list_any (is_denied s) before ≡ false
  onward : list_any is_rollback (acts_of before) ≡ false
  other : is_in oid (unlinks (acts_of before)) ≡ false

-- Then the state of the act is one with the object.
record IsReadyAt (s oid : ℕ) (d : Done) : Type 0 where
  does : does_act d.state s (Some d.line) ≡ true
  act : d.act ≡ act_of d.state s
  ready : IsReady d.state s oid

ready_own : (s o : ℕ) (m : Moment) (line : Option Request) (more before : List Done) (d : Done) (after : List Done) → IsReady m.state s o → does_act m.state s line ≡ true → done_at m.state s line ++ more ≡ before ++ d ∷ after → GoesOnward s o before → ((bs : List Done) → IsReady (moment_after m s line).state s o → more ≡ bs ++ d ∷ after → GoesOnward s o bs → IsReadyAt s o d) → IsReadyAt s o d
ready_own s o m None more before d after ready does split goes later = cc
ready_own s o m (Some r) more before d after ready does split goes later =
    by before (sym (ap (λ b. (if b then first ∷ [] else []) ++ more) does) ∙ split) goes
  where
    first : Done
    first = record { act = act_of m.state s; line = r; state = m.state }

    by : (bs : List Done) → first ∷ more ≡ bs ++ d ∷ after → GoesOnward s o bs → IsReadyAt s o d
    by [] split' goes' =
        let same : first ≡ d = cc in
        let at : IsReadyAt s o first = record { does = does; act = refl; ready = ready } in
        subst (IsReadyAt s o) same at
    by (b ∷ bs) split' goes' =
        let same : b ≡ first = cc in
        let behind : more ≡ bs ++ d ∷ after = cc in
        let here : GoesOnward s o (first ∷ bs) = subst (λ x. GoesOnward s o (x ∷ bs)) same goes' in
        let granted = both_false (is_denied s first) (list_any (is_denied s) bs) here.granted in
        let onward = both_false (is_rollback first.act) (list_any is_rollback (acts_of bs)) here.onward in
        let other = both_false (is_in o (unlinked_by first.act)) (is_in o (unlinks (acts_of bs)))
        (sym (list_any-append (λ n. n == o) (unlinked_by first.act) (unlinks (acts_of bs))) ∙ here.other) in
        later bs (ready_after m s o r ready does granted.0 onward.0 other.0) behind (record { granted = granted.1; onward = onward.1; other = other.1 })

ready_here : (s o : ℕ) (programs : List (List Request)) (m : Moment) (t : ℕ) (since : List ℕ) (before : List Done) (d : Done) (after : List Done) → t ≡ s → IsReady m.state s o → EachOwn does_act s programs m (t ∷ since) → acts_by s programs m (t ∷ since) ≡ before ++ d ∷ after → GoesOnward s o before → ((bs : List Done) → IsReady (moment_after m t (next_line programs m t)).state s o → acts_by s programs (moment_after m t (next_line programs m t)) since ≡ bs ++ d ∷ after → GoesOnward s o bs → IsReadyAt s o d) → IsReadyAt s o d
ready_here s o programs m t since before d after same ready each split goes later = subst P (sym same) here each split later
  where
    P : ℕ → Type 0
    P u = EachOwn does_act s programs m (u ∷ since) → acts_by s programs m (u ∷ since) ≡ before ++ d ∷ after → ((bs : List Done) → IsReady (moment_after m u (next_line programs m u)).state s o → acts_by s programs (moment_after m u (next_line programs m u)) since ≡ bs ++ d ∷ after → GoesOnward s o bs → IsReadyAt s o d) → IsReadyAt s o d

    itself : (s == s) ≡ true
    itself = grind (arith, nat_tests)

    here : P s
    here each' split' later' =
        ready_own s o m (next_line programs m s) (acts_by s programs (moment_after m s (next_line programs m s)) since) before d after ready (each'.0 refl)
        (sym (ap (λ b. (if b then done_at m.state s (next_line programs m s) else []) ++ acts_by s programs (moment_after m s (next_line programs m s)) since) itself) ∙ split') goes later'

ready_at : (s o : ℕ) (programs : List (List Request)) (m : Moment) (since : List ℕ) (before : List Done) (d : Done) (after : List Done) → IsReady m.state s o → All (λ t. t ≡ s) since → EachOwn does_act s programs m since → acts_by s programs m since ≡ before ++ d ∷ after → GoesOnward s o before → IsReadyAt s o d
ready_at s o programs m [] [] d after ready own each split goes = cc
ready_at s o programs m [] (b ∷ before) d after ready own each split goes = cc
ready_at s o programs m (t ∷ since) before d after ready own each split goes =
    ready_here s o programs m t since before d after (All-head (λ u. u ≡ s) t since own) ready each split goes
    (λ bs ready' split' goes'. ready_at s o programs (moment_after m t (next_line programs m t)) since bs d after ready' (All-tail (λ u. u ≡ s) t since own) each.1 split' goes')

-- The vacuumlo leaves each listed object where no other session has a block.

and_true : (b : Bool) → (b && true) ≡ false → b ≡ false
and_true true h = cc
and_true false h = refl

ready_begun : (w : Sweeping) (o : ℕ) → IsSweeping w → ArePast w.moment.state → AreClosed w.moment.state w.session → Contains (listed w) o → IsReady (beginning w).state w.session o
ready_begun w o is past closed inside = record {
  past = past_advance w.moment w.session (Some (Vacuumlo w.dry w.limit)) past;
  closed = λ t differ. ap (λ (p : Player). is_open p.session.transaction) (other_player w.moment t w.session (Some (Vacuumlo w.dry w.limit)) (λ same. differ (sym same))) ∙ closed t differ;
  unfailed = ap (λ (p : Player). p.session.transaction.failed) (own_player w.moment.state w.session (Vacuumlo w.dry w.limit))
      ∙ (ap (λ (done : Outcome). done.player.session.transaction.failed) begins ∙ unfailed);
  there = ap (λ (done : Outcome). has_object done.database.edits o) begins
      ∙ (sym (ap (λ v. has_object v o) (whole_view w.moment.state w.session past closed))
      ∙ (sym (oids_are (view_of w.moment.state w.session) o) ∙ has-from (listed w) o inside));
}
  where
    unfailed : (session_of w.moment.state w.session).transaction.failed ≡ false
    unfailed =
        and_true (session_of w.moment.state w.session).transaction.failed
        (unmet ((session_of w.moment.state w.session).transaction.failed && true) Failed (pos 0)
        (first_none (failed w.moment.state w.session (Vacuumlo w.dry w.limit)) (refusals w.moment.state w.session (Vacuumlo w.dry w.limit)) is.granted).0)

    begins : outcome w.moment.state w.session (Vacuumlo w.dry w.limit) ≡ vacuumlo_granted w.moment.state w.session w.dry w.limit
    begins = vacuumlo_begun w.moment.state w.session w.dry w.limit unfailed (was_outside w is)

-- Each number of an ascending list stands in it once.

from_middle : (least : ℕ) (xs : List ℕ) (o : ℕ) (ys : List ℕ) → IsFrom least (xs ++ o ∷ ys) → least ≤ o
from_middle least [] o ys from = from.0
from_middle least (x ∷ xs) o ys from = from_middle least xs o ys from.1

none_before : (xs : List ℕ) (o : ℕ) (ys : List ℕ) → Ascends (xs ++ o ∷ ys) → is_in o xs ≡ false
none_before [] o ys up = refl
none_before (x ∷ xs) o ys up =
    let low : suc x ≤ o = from_middle (suc x) xs o ys up.0 in
    let differ : (x == o) ≡ false = grind (arith, nat_tests, low) in
    or_from (x == o) (is_in o xs) differ (none_before xs o ys up.1)

in_middle : (xs : List ℕ) (o : ℕ) (ys : List ℕ) → is_in o (xs ++ o ∷ ys) ≡ true
in_middle [] o ys = let itself : (o == o) ≡ true = grind (arith, nat_tests) in ap (λ b. b || is_in o ys) itself
in_middle (x ∷ xs) o ys = right_or (x == o) (is_in o (xs ++ o ∷ ys)) (in_middle xs o ys)

-- The plan unlinks the numbers of the rest, and rolls nothing back.

plan_unlinks : (columns : List Scan) (limit : ℕ) (numbers : List ℕ) → unlinks (map scan_act columns ++ removal false limit numbers) ≡ numbers
plan_unlinks columns limit numbers =
    unlinks-append (map scan_act columns) (removal false limit numbers)
    ∙ (ap (λ xs. xs ++ unlinks (removal false limit numbers)) (scans_remove_none columns) ∙ unlinks-removal limit numbers)

plan_onward : (columns : List Scan) (limit : ℕ) (numbers : List ℕ) → list_any is_rollback (map scan_act columns ++ removal false limit numbers) ≡ false
plan_onward columns limit numbers =
    ap (list_any is_rollback) (sym (append_assoc (map scan_act columns) (flat_map group_acts (groups limit numbers)) (acts.Report ∷ [])))
    ∙ (list_any-append is_rollback (work columns (groups limit numbers)) (acts.Report ∷ [])
    ∙ or_from (list_any is_rollback (work columns (groups limit numbers))) false
    (none-work is_rollback (record { scan = λ table column. refl; begin = refl; unlink = λ o. refl; commit = refl }) columns (groups limit numbers)) refl)

front_unlinks : (plan before : List SweepAct) (o n : ℕ) → before ++ acts.Unlink o ∷ [] ≡ take n plan → unlinks plan ≡ unlinks before ++ o ∷ unlinks (drop n plan)
front_unlinks plan before o n front =
    ap unlinks (sym (take-append-drop n plan))
    ∙ (unlinks-append (take n plan) (drop n plan)
    ∙ (ap (λ xs. unlinks xs ++ unlinks (drop n plan)) (sym front)
    ∙ (ap (λ xs. xs ++ unlinks (drop n plan)) (unlinks-append before (acts.Unlink o ∷ []))
    ∙ append_assoc (unlinks before) (o ∷ []) (unlinks (drop n plan)))))

-- So no act of it is the first that is refused.

never_stopped : (w : Sweeping) → IsSweeping w → ArePast w.moment.state → IsAlone w → w.dry ≡ false → is_stopped w ≡ true → ⊥
never_stopped w is past alone wet stopped = true≢false (sym first.is ∙ ap is_some unrefused)
  where
    s : ℕ
    s = w.session

    h0 : History
    h0 = begun w.dry w.limit (listed w) (scans w)

    first : FirstOf (is_denied w.session) (done w)
    first = the_first (is_denied w.session) (done w) stopped

    before : List Told
    before = map (told_by w.session) first.before

    h1 : History
    h1 = and_all_told h0 before

    g : History
    g = told_so w.dry w.limit (listed w) (scans w) before

    kept : h1 ≡ g
    kept = keeps_answers w.dry w.limit (listed w) (scans w) before

    both : Follows w.session h0 first.before × Follows w.session h1 (first.it ∷ first.after)
    both = follows_split w.session h0 first.before (first.it ∷ first.after) (subst (Follows w.session h0) first.split (told w is).follows)

    refused : told_by w.session first.it ≡ Refused
    refused = the_refusal (told_by w.session first.it) (both.1.2 ∙ first.is)

    unlink : (o : ℕ) × (first.it.act ≡ acts.Unlink o)
    unlink = the_refused first.it.act (ap (is_answer_to first.it.act) (sym refused) ∙ both.1.1)

    o : ℕ
    o = unlink.0

    none : list_any is_refused before ≡ false
    none = refused_follow w.session h0 first.before both.0 ∙ first.none

    fits : is_answer_to (next_act g) Refused ≡ true
    fits = subst (λ (h : History). is_answer_to (next_act h) Refused ≡ true) kept
        (ap (λ a. is_answer_to a Refused) (sym both.1.0) ∙ (ap (is_answer_to first.it.act) (sym refused) ∙ both.1.1))

    next : next_act g ≡ acts.Unlink o
    next = ap next_act (sym kept) ∙ (sym both.1.0 ∙ unlink.1)

    asks : acts_of first.before ≡ take (length before) (plan_of g)
    asks =
        acts_follow w.session h0 first.before both.0
        ∙ (asks_by_plan w.dry w.limit (listed w) (scans w) before (answers_follow w.session h0 first.before both.0) none
        ∙ ap (λ h. take (length before) (map scan_act (scans w) ++ removal w.dry w.limit (rest_of h))) kept)

    plan : plan_of g ≡ map scan_act (scans w) ++ removal false w.limit (rest_of g)
    plan = ap (λ d. map scan_act (scans w) ++ removal d w.limit (rest_of g)) wet

    left : rest_of g ≡ unlinks (acts_of first.before) ++ o ∷ unlinks (drop (length before + 1) (plan_of g))
    left =
        sym (ap unlinks plan ∙ plan_unlinks (scans w) w.limit (rest_of g))
        ∙ front_unlinks (plan_of g) (acts_of first.before) o (length before + 1) (ap (λ xs. xs ++ acts.Unlink o ∷ []) asks ∙ front_done g o none fits next)

    the_rest : IsTheRest (listed w) (flat_map numbers_found before) (rest_of g)
    the_rest = is_the_rest (listed w) (flat_map numbers_found before)

    inside : Contains (listed w) o
    inside = ((the_rest.members o).0 (has-to (rest_of g) o (ap (is_in o) left ∙ in_middle (unlinks (acts_of first.before)) o (unlinks (drop (length before + 1) (plan_of g)))))).0

    ascending : Ascends (rest_of g)
    ascending = ascends_from (rest_of g) (the_rest.ascending (oids_ascend (view_of w.moment.state w.session)))

    goes : GoesOnward w.session o first.before
    goes = record {
      granted = first.none;
      onward = ap (list_any is_rollback) asks ∙ none_in_front is_rollback (length before) (plan_of g) (ap (list_any is_rollback) plan ∙ plan_onward (scans w) w.limit (rest_of g));
      other = none_before (unlinks (acts_of first.before)) o (unlinks (drop (length before + 1) (plan_of g))) (subst Ascends left ascending);
    }

    at : IsReadyAt w.session o first.it
    at = ready_at w.session o w.programs (beginning w) w.since first.before first.it first.after (ready_begun w o is past alone.closed inside) alone.own alone.acts first.split goes

    unrefused : refusal_of first.it.state w.session first.it.line ≡ None
    unrefused =
        unlink_unrefused first.it.state w.session o at.ready first.it.line
        (and_both (is_act_line first.it.line) (not (is_idle (act_of first.it.state w.session))) at.does).0 (sym at.act ∙ unlink.1)

unstopped : (w : Sweeping) → IsSweeping w → ArePast w.moment.state → IsAlone w → is_stopped w ≡ false
unstopped w is past alone = by w.dry refl (is_stopped w) refl
  where
    by : (dry : Bool) → w.dry ≡ dry → (b : Bool) → is_stopped w ≡ b → is_stopped w ≡ false
    by true dry b stopped = sym (refused_follow w.session _ (done w) (told w is).follows) ∙ dry_granted w is dry
    by false wet false stopped = stopped
    by false wet true stopped = absurd (never_stopped w is past alone wet stopped)

pub alone_unstopped : (play : Play) (w : Sweeping) → IsSweepOf play w → IsAlone w → is_stopped w ≡ false
alone_unstopped play w of alone =
    unstopped w of.sweeping (subst (λ (m : Moment). ArePast m.state) (sym of.moment) (past_from play.programs (start_from play.opening) of.before (past_opened play.opening))) alone
