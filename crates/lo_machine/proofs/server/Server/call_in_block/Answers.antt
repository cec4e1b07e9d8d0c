use Rattle.lo_machine.proofs.BlockAnswers.{refused_after}
use Rattle.lo_machine.proofs.server.Server.call_in_block.Goals as goal

pub returns-in-Err-By-clause-ok : goal.returns-in-Err-By-clause-ok
returns-in-Err-By-clause-ok c = refused_after c.args.s c.args.self.now c.try_in_block.new.self c.refuse_by.new.self c.args.request.now c.in-Err-By.refusal c.refuse_by.result (rw (c.in-Err-By.field-0-is) at c.in-Err-By.ensures.err) c.refuse_by.ensures.does
