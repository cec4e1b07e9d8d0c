-- What fixes a sweep: its list, its scans and the answers so far. All that is public of a sweep is said by these words.
use Rattle.std.specs.Prelude.{ℕ, Bool, true, false, List, [], ◌∷◌, ◌++◌, length, take, drop, map, filter}
use Rattle.std.specs.List.{flat_map, concat}
use Rattle.orphan_sweep.specs.declared.act.Scan.{Scan}
use Rattle.orphan_sweep.specs.declared.act.SweepAct.{SweepAct}
use Rattle.orphan_sweep.specs.declared.act.SweepAct.TheVariants.{Scan as Scanning, Begin, Unlink, Commit, Rollback, Report, Idle}
use Rattle.orphan_sweep.specs.declared.act.Told.{Told}
use Rattle.orphan_sweep.specs.declared.act.Told.TheVariants.{Found, Granted, Refused}
use Rattle.orphan_sweep.specs.Rest.{less}
use Rattle.orphan_sweep.specs.Plan.{scan_act, groups_to_remove, removal, acts_given}

-- what fixes a sweep's next act (PostgreSQL manual, vacuumlo): whether it is a dry run, the most objects removed in one
-- transaction, the numbers of all objects when it began, the columns to scan, and the answers to its acts so far
pub record History : Type 0 where
  pub dry : Bool
  pub limit : ℕ
  pub list : List ℕ
  pub scans : List Scan
  pub answers : List Told

-- a history with no answer yet
abbrev pub begun : Bool → ℕ → List ℕ → List Scan → History
begun dry limit list scans =
    record { dry = dry; limit = limit; list = list; scans = scans; answers = [] }

-- the history with one more answer
abbrev pub and_told : History → Told → History
and_told h answer =
    record { dry = h.dry; limit = h.limit; list = h.list; scans = h.scans; answers = h.answers ++ answer ∷ [] }

-- what an answer says was found
abbrev pub numbers_found : Told → List ℕ
numbers_found (Found numbers) = numbers
numbers_found Granted = []
numbers_found Refused = []

-- the list less what the scans found so far
abbrev pub rest_of : History → List ℕ
rest_of h = less h.list (flat_map numbers_found h.answers)

-- the acts from the first to the last, if from now on nothing more is found and nothing is refused
abbrev pub acts_of : History → List SweepAct
acts_of h = acts_given (map scan_act h.scans ++ removal h.dry h.limit (rest_of h)) h.answers

-- those of them that were answered, and those that are left
abbrev pub acts_done : History → List SweepAct
acts_done h = take (length h.answers) (acts_of h)

abbrev pub acts_left : History → List SweepAct
acts_left h = drop (length h.answers) (acts_of h)

-- the first of the acts that are left; after the last one every act is idle
abbrev pub first_act : List SweepAct → SweepAct
first_act [] = Idle
first_act (act ∷ acts) = act

-- the act that comes next
abbrev pub next_act : History → SweepAct
next_act h = first_act (acts_left h)

abbrev pub is_commit : SweepAct → Bool
is_commit (Scanning table column) = false
is_commit Begin = false
is_commit (Unlink o) = false
is_commit Commit = true
is_commit Rollback = false
is_commit Report = false
is_commit Idle = false

-- the groups whose commit was answered
abbrev pub committed : History → List (List ℕ)
committed h = take (length (filter is_commit (acts_done h))) (groups_to_remove h.dry h.limit (rest_of h))

-- how many numbers they have
abbrev pub removed_of : History → ℕ
removed_of h = length (concat (committed h))
