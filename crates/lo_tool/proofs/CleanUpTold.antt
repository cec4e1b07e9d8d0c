-- What a clean-up tells of its list, its acts and its rest.
use Rattle.std.proofs.Common.{◌≡◌, ◌≤◌, refl, sym, ap, ◌∙◌, subst, ℕ, zero, suc, Bool, true, false, List, [], ◌∷◌, ◌++◌, length, map, take, drop, Option, Some, append_assoc, append-nil, length-drop, arith}
use Rattle.std.specs.Prelude.{codes, flat_map, if◌then◌else◌}
use Rattle.std.proofs.lemmas.Grind.{flat_map-append}
use Rattle.std.proofs.lemmas.List.{map-append}
use Rattle.lo_base.specs.declared.request.Request.{Request}
use Rattle.lo_base.specs.declared.request.Request.TheVariants.{Finish}
use Rattle.lo_machine.specs.Replay.{Advances, Play, moment_of}
use Rattle.lo_machine.specs.Run.{Moment, end_from, next_line}
use Rattle.lo_machine.specs.State.{State}
use Rattle.lo_machine.specs.SweepLaw.{Done, Sweeping, acts_by, IsSweeping, acts_of, beginning, does_act, done, done_at, end, history, listed, rest, scans}
use Rattle.lo_machine.specs.SweepRows.{act_in, act_of, is_before_report, is_idle, rest_before_report}
use Rattle.lo_machine.specs.Sweeping.{sweeps_of}
use Rattle.lo_machine.proofs.SweepReports.{keeps_history, rest_is}
use Rattle.lo_model.specs.Opening.{Opening}
use Rattle.orphan_sweep.specs.declared.act.Scan.{Scan}
use Rattle.orphan_sweep.specs.declared.act.SweepAct.{SweepAct}
use Rattle.orphan_sweep.specs.declared.act.SweepAct.TheVariants as acts
use Rattle.orphan_sweep.specs.History.{History, first_act, next_act}
use Rattle.orphan_sweep.specs.Plan.{group_acts, removal, scan_act, groups_to_remove}
use Rattle.orphan_sweep.specs.Rest.{groups, pieces}
use Rattle.orphan_sweep.proofs.Histories.{less-nil}
use Rattle.lo_tool.specs.declared.words.CleanUp.{CleanUp}
use Rattle.lo_tool.specs.CleanUp.{clean_up_on, clean_up_programs}
use Rattle.lo_tool.specs.CleanUpTexts.{act_line, counted_line, group_lines, removing_line, scan_line, where_told}
use Rattle.lo_tool.specs.CleanUpWork.{HasDone, HasTold, IsAtReport}
use Rattle.lo_tool.proofs.CleanUpRuns.{act_done, done_more, ends, sweeping}

told_append : (verbose : Bool) (xs ys : List ℕ) → where_told verbose (xs ++ ys) ≡ where_told verbose xs ++ where_told verbose ys
told_append true xs ys = refl
told_append false xs ys = refl

-- a line is told where it is to be, and else nothing is
pub is_told : (verbose : Bool) (text new line : List ℕ) → verbose ≡ true → new ≡ text ++ line → new ≡ text ++ where_told verbose line
is_told verbose text new line told is = is ∙ rw told refl

pub is_untold : (verbose : Bool) (text new line : List ℕ) → verbose ≡ false → new ≡ text → new ≡ text ++ where_told verbose line
is_untold verbose text new line untold is = is ∙ (sym (append-nil text) ∙ rw untold refl)

-- ---- the lines of acts: scans alone have some

scans_told : (columns : List Scan) → flat_map act_line (map scan_act columns) ≡ flat_map scan_line columns
scans_told [] = refl
scans_told (column ∷ columns) = ap (λ (rest : List ℕ). scan_line column ++ rest) (scans_told columns)

unlinks_silent : (group : List ℕ) (more : List SweepAct) → flat_map act_line (map (λ o. acts.Unlink o) group ++ more) ≡ flat_map act_line more
unlinks_silent [] more = refl
unlinks_silent (o ∷ group) more = unlinks_silent group more

groups_silent : (gs : List (List ℕ)) → flat_map act_line (flat_map group_acts gs) ≡ []
groups_silent [] = refl
groups_silent (group ∷ gs) =
    flat_map-append act_line (group_acts group) (flat_map group_acts gs)
    ∙ (ap (λ (xs : List ℕ). xs ++ flat_map act_line (flat_map group_acts gs)) (unlinks_silent group (acts.Commit ∷ []))
    ∙ groups_silent gs)

pub whole_told : (columns : List Scan) (gs : List (List ℕ)) → flat_map act_line (map scan_act columns ++ flat_map group_acts gs) ≡ flat_map scan_line columns
whole_told columns gs =
    flat_map-append act_line (map scan_act columns) (flat_map group_acts gs)
    ∙ (ap (λ (xs : List ℕ). flat_map act_line (map scan_act columns) ++ xs) (groups_silent gs)
    ∙ (append-nil (flat_map act_line (map scan_act columns)) ∙ scans_told columns))

pub scans_alone : (columns : List Scan) → flat_map act_line (map scan_act columns) ≡ flat_map scan_line columns
scans_alone = scans_told

-- ---- the groups, one after another

abbrev pub cut_by : (size : ℕ) → List ℕ → List (List ℕ)
cut_by size left = pieces (length left) size left

-- where the count of pieces is enough, a greater one is none more
any_count : (size a b : ℕ) (xs : List ℕ) → 1 ≤ size → length xs ≤ a → length xs ≤ b → pieces a size xs ≡ pieces b size xs
any_count size zero zero xs some low high = refl
any_count size zero (suc b) [] some low high = refl
any_count size zero (suc b) (x ∷ xs) some low high = absurd (omega (arith, low))
any_count size (suc a) zero [] some low high = refl
any_count size (suc a) zero (x ∷ xs) some low high = absurd (omega (arith, high))
any_count size (suc a) (suc b) [] some low high = refl
any_count size (suc a) (suc b) (x ∷ xs) some low high =
    ap (λ (rest : List (List ℕ)). take size (x ∷ xs) ∷ rest)
    (any_count size a b (drop size (x ∷ xs)) some (omega (arith, some, low, length-drop size (x ∷ xs))) (omega (arith, some, high, length-drop size (x ∷ xs))))

pub cut_more : (size : ℕ) (left : List ℕ) → 1 ≤ size → 1 ≤ length left → cut_by size left ≡ take size left ∷ cut_by size (drop size left)
cut_more size [] some more = absurd (omega (arith, more))
cut_more size (x ∷ xs) some more =
    ap (λ (rest : List (List ℕ)). take size (x ∷ xs) ∷ rest)
    (any_count size (length xs) (length (drop size (x ∷ xs))) (drop size (x ∷ xs)) some (omega (arith, some, length-drop size (x ∷ xs))) (omega arith))

-- the lines of a group stand before those of the groups behind it
pub group_told : (most : ℕ) (left group after text begun new : List ℕ) → 1 ≤ most → 1 ≤ length left → group ≡ take most left → after ≡ drop most left → begun ≡ text ++ flat_map removing_line group → new ≡ begun ++ counted_line (codes "committed ") (length group) (codes "\n") → new ++ flat_map group_lines (cut_by most after) ≡ text ++ flat_map group_lines (cut_by most left)
group_told most left group after text begun new some more group_is after_is begun_is new_is =
    let committed : List ℕ = counted_line (codes "committed ") (length group) (codes "\n") in
    let later : List ℕ = flat_map group_lines (cut_by most after) in
    ap (λ (xs : List ℕ). xs ++ later) (new_is ∙ (ap (λ (xs : List ℕ). xs ++ committed) begun_is ∙ append_assoc text (flat_map removing_line group) committed))
    ∙ (append_assoc text (group_lines group) later
    ∙ ap (λ (xs : List ℕ). text ++ xs)
    (ap (λ (g : List ℕ). group_lines g ++ later) group_is
    ∙ (ap (λ (rest : List ℕ). group_lines (take most left) ++ flat_map group_lines (cut_by most rest)) after_is
    ∙ ap (flat_map group_lines) (sym (cut_more most left some more)))))

-- ---- the list, which is the rest before the first scan

groups_busy : (gs : List (List ℕ)) → is_idle (first_act (flat_map group_acts gs ++ acts.Report ∷ [])) ≡ false
groups_busy [] = refl
groups_busy (group ∷ gs) = refl

first_busy : (columns : List Scan) (gs : List (List ℕ)) → is_idle (first_act (map scan_act columns ++ (flat_map group_acts gs ++ acts.Report ∷ []))) ≡ false
first_busy [] gs = groups_busy gs
first_busy (column ∷ columns) gs = refl

rest_where : (sweep : Option History) (h : History) (left : List ℕ) → sweep ≡ Some h → is_idle (next_act h) ≡ false → (if is_idle (next_act h) then [] else left) ≡ left
rest_where sweep h left is busy = rw busy refl

module _ (opening : Opening) (options : CleanUp) (now : Play) where
  pub listed_so : (so : HasDone opening options now []) → rest_before_report (sweeps_of (moment_of now).state 1) ≡ listed (clean_up_on opening options [])
  listed_so so =
      let w : Sweeping = clean_up_on opening options [] in
      let kept : sweeps_of (moment_of now).state 1 ≡ Some (history w) = subst (λ (m : Moment). sweeps_of m.state 1 ≡ Some (history w)) (ends opening options now [] so) (keeps_history w (sweeping opening options now [] so)).kept in
      ap rest_before_report kept
      ∙ (rest_where (Some (history w)) (history w) (rest w) refl (first_busy (scans w) (groups_to_remove options.dry options.limit (rest w)))
      ∙ less-nil (listed w))

  pub nothing_told : (so : HasDone opening options now []) (text : List ℕ) → HasTold opening options now text text
  nothing_told so text = record {
    since = [];
    done_so = so;
    told = sym (ap (λ (xs : List ℕ). text ++ xs) (none options.verbose) ∙ append-nil text);
  }
    where
      none : (verbose : Bool) → where_told verbose [] ≡ []
      none true = refl
      none false = refl

  pub rest_so : (since : List ℕ) (so : HasDone opening options now since) → act_of (moment_of now).state 1 ≡ acts.Report → rest_before_report (sweeps_of (moment_of now).state 1) ≡ rest (clean_up_on opening options since)
  rest_so since so report =
      let w : Sweeping = clean_up_on opening options since in
      let is : IsSweeping w = sweeping opening options now since so in
      let kept : sweeps_of (moment_of now).state 1 ≡ Some (history w) = subst (λ (m : Moment). sweeps_of m.state 1 ≡ Some (history w)) (ends opening options now since so) (keeps_history w is).kept in
      let next : next_act (history w) ≡ acts.Report = sym (ap act_in kept) ∙ report in
      ap rest_before_report kept
      ∙ (rest_where (Some (history w)) (history w) _ refl (ap is_idle next)
      ∙ rest_is w)

  -- ---- one act more

  module _ (since old text : List ℕ) (so : HasDone opening options now since) (next : Play) (advances : Advances 1 now next) (before : is_before_report (act_of (moment_of now).state 1) ≡ true) where
    abbrev w : Sweeping
    w = clean_up_on opening options since

    more : HasDone opening options next (since ++ 1 ∷ [])
    more = act_done opening options now since so next advances before

    pub told_more : (text' : List ℕ) → text ≡ old ++ where_told options.verbose (flat_map act_line (acts_of (done w))) → text' ≡ text ++ where_told options.verbose (act_line (act_of (moment_of now).state 1)) → HasTold opening options next old text'
    told_more text' told is = record {
      since = since ++ 1 ∷ [];
      done_so = more;
      told =
          let act : SweepAct = act_of (moment_of now).state 1 in
          let before_it : List ℕ = flat_map act_line (acts_of (done w)) in
          is
          ∙ (ap (λ (xs : List ℕ). xs ++ where_told options.verbose (act_line act)) told
          ∙ (append_assoc old (where_told options.verbose before_it) (where_told options.verbose (act_line act))
          ∙ ap (λ (xs : List ℕ). old ++ xs)
          (sym (told_append options.verbose before_it (act_line act))
          ∙ ap (where_told options.verbose)
          (ap (λ (xs : List ℕ). before_it ++ xs) (sym (append-nil (act_line act)))
          ∙ (sym (flat_map-append act_line (acts_of (done w)) (act ∷ []))
          ∙ ap (flat_map act_line) (sym (done_more opening options now since so next advances before)))))));
    }
