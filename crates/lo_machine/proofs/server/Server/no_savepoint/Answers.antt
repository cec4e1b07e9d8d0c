use Rattle.std.proofs.Common.{◌≡◌, if◌then◌else◌}
use Rattle.lo_base.specs.declared.refusal.Cause.TheVariants.{NoBlock, NoSavepoint}
use Rattle.lo_machine.proofs.BlockRequests.{no_level_does}
use Rattle.lo_machine.proofs.server.Server.no_savepoint.Goals as goal
use Rattle.lo_machine.proofs.server.Server.no_savepoint.Goals.{then-is_open, else-is_open}

pub returns-clause-does : goal.returns-clause-does
returns-clause-does c =
    let is : c.if-is_open.cause ≡ (if c.is_open.result then NoSavepoint else NoBlock) = elim c.if-is_open.branch [
      | then-is_open w ↦ rw w.if-is_open.true w.cause-is
      | else-is_open w ↦ rw w.if-is_open.false w.cause-is
    ] in
    no_level_does c.args.s c.is_open.ensures.range.0 c.is_open.ensures.range.1 c.args.self.now c.refuse.new.self c.is_open.result c.if-is_open.cause c.refuse.result c.is_open.ensures.open c.is_open.ensures.none is c.refuse.ensures.does
