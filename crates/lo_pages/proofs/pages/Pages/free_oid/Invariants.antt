use Rattle.std.proofs.Common.{◌≡◌, ◌+◌, ◌-◌, List}
use Rattle.lo_model.specs.Edit.{Deed, Edit}
use Rattle.lo_model.specs.Numbering.{oid_end, least_from, may_be_picked, picked_oid}
use Rattle.lo_pages.specs.Standing.{StandFor}
use Rattle.lo_pages.proofs.pages.Pages.free_oid.Given as goal

abbrev pub invariant-loop-number : goal.invariant-loop-number
invariant-loop-number l = (ys : List (Edit Deed)) → StandFor l.core.xacts l.self ys → least_from (may_be_picked (l.core.xacts.clock + 1) ys l.number) (oid_end - l.number) l.number (may_be_picked (l.core.xacts.clock + 1) ys) ≡ picked_oid (l.core.xacts.clock + 1) l.from ys

abbrev pub decreases-loop-number : goal.decreases-loop-number
decreases-loop-number l = oid_end - l.number
