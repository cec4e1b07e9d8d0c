use Rattle.std.proofs.Common.{◌≤◌, arith}
use Rattle.lo_machine.proofs.BlockRequests.{does_at, refused_inside, refused_outside}
use Rattle.lo_machine.proofs.server.Server.refuse_by.Goals as goal
use Rattle.lo_machine.proofs.server.Server.refuse_by.Goals.{then-top-gt0, else-top-gt0}

pub returns-clause-does : goal.returns-clause-does
returns-clause-does c =
    let range : (1 ≤ c.args.s) × (c.args.s ≤ 16) = rw c.number.ensures.same at c.number.ensures.range in
    elim c.if-top-gt0.branch [
      | then-top-gt0 w ↦ does_at c.args.self.now w.undo.new.self c.if-top-gt0.self c.args.s _ _ w.self-is (refused_inside c.args.s range.0 range.1 c.args.self.now w.undo.new.self c.args.refusal c.levels-top.result c.levels-top.ensures.count w.if-top-gt0.true w.undo.ensures.becomes)
      | else-top-gt0 w ↦ does_at c.args.self.now c.args.self.now c.if-top-gt0.self c.args.s _ _ w.self-is (refused_outside c.args.s range.0 range.1 c.args.self.now c.args.refusal c.levels-top.result c.levels-top.ensures.count (omega (arith, w.if-top-gt0.false)))
    ]
