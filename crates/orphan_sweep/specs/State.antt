-- What a sweep is seen as.
use Rattle.std.specs.Prelude.{ℕ, Bool, List, length, drop}
use Rattle.orphan_sweep.specs.declared.act.Scan.{Scan}
use Rattle.orphan_sweep.specs.declared.act.SweepAct.{SweepAct}
use Rattle.orphan_sweep.specs.History.{History, rest_of, removed_of, acts_left, first_act}

-- what a sweep is seen as: the scans that were not answered yet, the list less what was found so far, how many numbers
-- were removed in groups that are committed, and the acts that are left if no more is found and nothing is refused
pub record State : Type 0 where
  pub dry : Bool
  pub limit : ℕ
  pub scans : List Scan
  pub rest : List ℕ
  pub removed : ℕ
  pub left : List SweepAct

-- where a sweep of this history stands
abbrev pub state_of : History → State
state_of h = record {
  dry = h.dry;
  limit = h.limit;
  scans = drop (length h.answers) h.scans;
  rest = rest_of h;
  removed = removed_of h;
  left = acts_left h;
}

abbrev pub next_of : State → SweepAct
next_of s = first_act s.left
