-- The acts of a sweep in their order, and which answers an act takes (PostgreSQL manual, vacuumlo).
use Rattle.std.specs.Prelude.{ℕ, Bool, true, false, if◌then◌else◌, List, [], ◌∷◌, ◌++◌, map}
use Rattle.std.specs.List.{flat_map}
use Rattle.orphan_sweep.specs.declared.act.Scan.{Scan}
use Rattle.orphan_sweep.specs.declared.act.SweepAct.{SweepAct}
use Rattle.orphan_sweep.specs.declared.act.SweepAct.TheVariants.{Scan as Scanning, Begin, Unlink, Commit, Rollback, Report, Idle}
use Rattle.orphan_sweep.specs.declared.act.Told.{Told}
use Rattle.orphan_sweep.specs.declared.act.Told.TheVariants.{Found, Granted, Refused}
use Rattle.orphan_sweep.specs.Rest.{groups}

-- the act that asks for a scan
abbrev pub scan_act : Scan → SweepAct
scan_act scan = Scanning scan.table scan.column

-- a group is a transaction of its own: its begin, one unlink for each number, its commit
abbrev pub group_acts : List ℕ → List SweepAct
group_acts group = Begin ∷ map (λ o. Unlink o) group ++ Commit ∷ []

-- the groups in which the rest is removed: none in a dry run
abbrev pub groups_to_remove : Bool → ℕ → List ℕ → List (List ℕ)
groups_to_remove dry limit rest = if dry then [] else groups limit rest

-- what follows the scans where nothing is refused: the groups, and the report
abbrev pub removal : Bool → ℕ → List ℕ → List SweepAct
removal dry limit rest = flat_map group_acts (groups_to_remove dry limit rest) ++ Report ∷ []

-- the acts of a sweep with this plan, by the answers so far: those of the plan as long as nothing is refused.
-- After the first refused one come a rollback and the report
abbrev pub acts_given : List SweepAct → List Told → List SweepAct
acts_given plan [] = plan
acts_given [] (answer ∷ answers) = []
acts_given (act ∷ plan) (Refused ∷ answers) = act ∷ Rollback ∷ Report ∷ []
acts_given (act ∷ plan) (Granted ∷ answers) = act ∷ acts_given plan answers
acts_given (act ∷ plan) (Found numbers ∷ answers) = act ∷ acts_given plan answers

-- whether the answer is of the act's kind: what was found for a scan, granted or refused for an unlink, granted for the
-- others. There is none for an idle act
abbrev pub is_answer_to : SweepAct → Told → Bool
is_answer_to (Scanning table column) (Found numbers) = true
is_answer_to (Scanning table column) Granted = false
is_answer_to (Scanning table column) Refused = false
is_answer_to (Unlink o) (Found numbers) = false
is_answer_to (Unlink o) Granted = true
is_answer_to (Unlink o) Refused = true
is_answer_to Idle answer = false
is_answer_to Begin (Found numbers) = false
is_answer_to Begin Granted = true
is_answer_to Begin Refused = false
is_answer_to Commit (Found numbers) = false
is_answer_to Commit Granted = true
is_answer_to Commit Refused = false
is_answer_to Rollback (Found numbers) = false
is_answer_to Rollback Granted = true
is_answer_to Rollback Refused = false
is_answer_to Report (Found numbers) = false
is_answer_to Report Granted = true
is_answer_to Report Refused = false

-- the number that an act unlinks, if it is an unlink
abbrev pub unlinked_by : SweepAct → List ℕ
unlinked_by (Scanning table column) = []
unlinked_by Begin = []
unlinked_by (Unlink o) = o ∷ []
unlinked_by Commit = []
unlinked_by Rollback = []
unlinked_by Report = []
unlinked_by Idle = []

-- the numbers that these acts unlink, in their order
abbrev pub unlinks : List SweepAct → List ℕ
unlinks acts = flat_map unlinked_by acts
