use Rattle.std.proofs.Common.{◌≤◌, ◌-◌, length, All, vec_capacity}
use Rattle.lo_outside.specs.Place.{HasRoom}
use Rattle.lo_outside.proofs.mem_files.free_places.Given as goal

abbrev pub invariant-loop-alloc : goal.invariant-loop-alloc
invariant-loop-alloc l = (length l.free.items ≤ l.count) × (l.count ≤ vec_capacity l.free) × All (HasRoom l.room) l.free.items

abbrev pub decreases-loop-alloc : goal.decreases-loop-alloc
decreases-loop-alloc l = l.count - length l.free.items
