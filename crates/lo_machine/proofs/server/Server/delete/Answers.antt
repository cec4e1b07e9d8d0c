use Rattle.std.proofs.Common.{w64}
use Rattle.std.proofs.lemmas.Int.{to_z-of_z}
use Rattle.lo_machine.specs.Dispatch.{here_in}
use Rattle.lo_machine.proofs.TableCalls.{call_err, call_ok, is_ready}
use Rattle.lo_machine.proofs.TablesAlike.{delete_match}
use Rattle.lo_machine.proofs.server.Server.delete.Goals as goal

pub delete-requires-clause-ready : goal.delete-requires-clause-ready
delete-requires-clause-ready c = is_ready c.args.s c.args.self.now c.requires.can

pub returns-in-Ok : goal.returns-in-Ok
returns-in-Ok c = call_ok c.args.s c.args.self.now c.requires.can c.delete.new.core c.delete.new.self _ _ (λ ys shared sessions variables finds. delete_match (here_in c.args.s c.args.self.now ys shared sessions variables) c.args.table.now c.args.id) _ (rw (to_z-of_z w64 c.args.id c.ranges.id) at c.in-Ok.ensures.ok) c.in-Ok.ensures.keeps

pub returns-in-Err : goal.returns-in-Err
returns-in-Err c = call_err c.args.s c.args.self.now c.requires.can c.delete.new.core c.delete.new.self _ _ (λ ys shared sessions variables finds. delete_match (here_in c.args.s c.args.self.now ys shared sessions variables) c.args.table.now c.args.id) _ (rw (to_z-of_z w64 c.args.id c.ranges.id) at c.in-Err.ensures.err)
