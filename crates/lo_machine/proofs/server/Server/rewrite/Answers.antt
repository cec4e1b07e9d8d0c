use Rattle.row_tables.specs.RewriteRules.{rewrite_row}
use Rattle.lo_machine.specs.Dispatch.{here_in}
use Rattle.lo_machine.proofs.TableCalls.{call_err, call_ok, is_ready}
use Rattle.lo_machine.proofs.RewritesAlike.{rewrite_match}
use Rattle.lo_machine.proofs.server.Server.rewrite.Goals as goal

pub rewrite-requires-clause-ready : goal.rewrite-requires-clause-ready
rewrite-requires-clause-ready c = is_ready c.args.s c.args.self.now c.requires.can

pub returns-in-Ok : goal.returns-in-Ok
returns-in-Ok c = call_ok c.args.s c.args.self.now c.requires.can c.rewrite.new.core c.rewrite.new.self _ (rewrite_row c.args.table.now c.args.storages.now) (λ ys shared sessions variables finds. rewrite_match (here_in c.args.s c.args.self.now ys shared sessions variables) c.args.table.now c.args.storages.now) _ c.in-Ok.ensures.ok c.in-Ok.ensures.keeps

pub returns-in-Err : goal.returns-in-Err
returns-in-Err c = call_err c.args.s c.args.self.now c.requires.can c.rewrite.new.core c.rewrite.new.self _ (rewrite_row c.args.table.now c.args.storages.now) (λ ys shared sessions variables finds. rewrite_match (here_in c.args.s c.args.self.now ys shared sessions variables) c.args.table.now c.args.storages.now) _ c.in-Err.ensures.err
