use Rattle.std.proofs.Common.{sym}
use Rattle.lo_machine.proofs.BlockAnswers.{misplaced_does}
use Rattle.lo_machine.proofs.server.Server.call.Goals as goal

pub returns-in-Some-clause-ok : goal.returns-in-Some-clause-ok
returns-in-Some-clause-ok c =
    misplaced_does c.args.s c.is_open-in_block.ensures.range.0 c.is_open-in_block.ensures.range.1 c.args.self.now c.refuse.new.self c.args.request.now c.requires.data
    c.is_open-in_block.result c.is_open-in_block.ensures.«open» c.is_open-in_block.ensures.none c.in-Some.cause (sym c.in-Some.ensures) c.refuse.result c.refuse.ensures.does
