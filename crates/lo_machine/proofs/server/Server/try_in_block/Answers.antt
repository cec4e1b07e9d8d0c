use Rattle.std.proofs.Common.{◌≤◌}
use Rattle.lo_machine.proofs.BlockAnswers.{look_answers}
use Rattle.lo_machine.proofs.server.Server.try_in_block.Goals as goal

pub returns-else-is_writing : goal.returns-else-is_writing
returns-else-is_writing c =
    let range : (1 ≤ c.args.s) × (c.args.s ≤ 16) = rw c.number.ensures.same at c.number.ensures.range in
    look_answers c.args.s range.0 range.1 c.args.self.now c.look.new.self c.requires.«open» c.args.request.now c.requires.call c.requires.placed c.look.result c.look.ensures
