use Rattle.std.proofs.Common.{◌≡◌, ◌+◌, drop}
use Rattle.std.specs.Prelude.{sum_by}
use Rattle.xact_core.specs.Inside.{views_in}
use Rattle.xact_core.proofs.xacts.open_views.Given as goal

abbrev pub invariant-loop-session : goal.invariant-loop-session
invariant-loop-session l = l.count + sum_by views_in (drop l.session-index l.sessions) ≡ sum_by views_in l.sessions
