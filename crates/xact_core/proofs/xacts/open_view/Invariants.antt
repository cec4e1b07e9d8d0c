use Rattle.std.proofs.Common.{◌≡◌, ◌+◌, drop, map}
use Rattle.std.specs.Prelude.{slice_get}
use Rattle.xact_core.specs.Inside.{names_of}
use Rattle.xact_core.specs.Kept.{sessions_views}
use Rattle.xact_core.proofs.xacts.open_view.Given as goal

abbrev pub invariant-loop-index : goal.invariant-loop-index
invariant-loop-index l = slice_get (sessions_views l.clock (l.index + 1) (map names_of (drop l.index l.sessions))) l.left ≡ slice_get (sessions_views l.clock 1 (map names_of l.sessions)) l.place
