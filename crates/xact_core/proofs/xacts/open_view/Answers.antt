use Rattle.std.proofs.Common.{◌<◌, ◌≤◌, Some, ap, sym, ◌∙◌, arith}
use Rattle.xact_core.specs.Kept.{views_of}
use Rattle.xact_core.proofs.ViewOrder.{found_in_session, behind_session}
use Rattle.xact_core.proofs.xacts.open_view.Goals as goal

pub returns-then-left-views : goal.returns-then-left-views
returns-then-left-views c =
    let within : c.loop-index.left < views_of c.index-sessions-index.result.names = omega (arith, c.views-views.ensures) in
    ap Some c.session_view.ensures ∙ sym (found_in_session c.args.clock c.args.sessions.now c.loop-index.index c.loop-index.left c.index-sessions-index.result c.loop-index-test.true c.index-sessions-index.is within) ∙ c.loop-index.invariant

pub loop-index-preserved : goal.loop-index-preserved
loop-index-preserved c =
    let past : views_of c.index-sessions-index.result.names ≤ c.loop-index.left = omega (arith, c.views-views.ensures) in
    rw c.views-views.ensures (behind_session c.args.clock c.args.sessions.now c.loop-index.index c.loop-index.left c.index-sessions-index.result c.loop-index-test.true c.index-sessions-index.is past ∙ c.loop-index.invariant)
