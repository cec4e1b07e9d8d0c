-- What the fields of a sweep stand for, and what holds of them.
use Rattle.std.specs.Prelude.{reverse}
use Rattle.std.specs.List.Sorted.{IsStrictlyIncreasing}
use Rattle.orphan_sweep.specs.declared.sweep.Sweep.TheInside.{Inside}
use Rattle.orphan_sweep.specs.State.{State}
use Rattle.orphan_sweep.specs.Place.{stands, Fits}

-- a sweep as it is seen, by its fields
abbrev pub state_at : Inside → State
state_at s = stands s.dry s.limit (reverse s.scans.items) s.act s.unlinked s.room s.removed s.list.items

-- what holds of the fields of every sweep
pub record IsInPlace (s : Inside) : Type 0 where
  pub ascending : IsStrictlyIncreasing s.list.items
  pub fits : Fits s.act s.dry s.unlinked s.room s.removed s.list.items
