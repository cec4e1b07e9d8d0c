use Rattle.std.proofs.Common.{refl}
use Rattle.lo_machine.proofs.BlockRequests.{does_at, rolled_back_does, rolled_back_none}
use Rattle.lo_machine.proofs.server.Server.rollback.Goals as goal
use Rattle.lo_machine.proofs.server.Server.rollback.Goals.{then-is_open, else-is_open}

pub returns-clause-does : goal.returns-clause-does
returns-clause-does c = elim c.if-is_open.branch [
  | then-is_open w ↦ does_at c.args.self.now w.end_aborted.new.self c.if-is_open.self c.args.s _ _ w.self-is (rolled_back_does c.args.s c.is_open.ensures.range.0 c.is_open.ensures.range.1 c.args.self.now w.end_aborted.new.self (w.if-is_open.ensures.open refl) w.end_aborted.ensures.becomes)
  | else-is_open w ↦ does_at c.args.self.now c.args.self.now c.if-is_open.self c.args.s _ _ w.self-is (rolled_back_none c.args.s c.is_open.ensures.range.0 c.is_open.ensures.range.1 c.args.self.now (w.if-is_open.ensures.none refl))
]
