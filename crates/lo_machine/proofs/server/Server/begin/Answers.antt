use Rattle.std.proofs.Common.{refl}
use Rattle.lo_machine.proofs.BlockRequests.{does_at, begun_new, begun_again}
use Rattle.lo_machine.proofs.server.Server.begin.Goals as goal
use Rattle.lo_machine.proofs.server.Server.begin.Goals.{then-not-is_open+in-Ok, else-not-is_open}

pub returns-clause-ok : goal.returns-clause-ok
returns-clause-ok c = elim c.if-not-is_open.branch [
  | then-not-is_open+in-Ok w ↦ does_at c.args.self.now w.open.new.self c.if-not-is_open.self c.args.s _ _ w.self-is (begun_new c.args.s c.is_open.ensures.range.0 c.is_open.ensures.range.1 c.args.self.now w.open.new.self (w.if-not-is_open.ensures.none refl) w.in-Ok.ensures.ok)
  | else-not-is_open w ↦ does_at c.args.self.now c.args.self.now c.if-not-is_open.self c.args.s _ _ w.self-is (begun_again c.args.s c.is_open.ensures.range.0 c.is_open.ensures.range.1 c.args.self.now (w.if-not-is_open.ensures.open refl))
]
