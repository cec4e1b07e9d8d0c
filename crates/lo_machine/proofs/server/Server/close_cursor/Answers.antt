use Rattle.row_tables.specs.CursorRules.{close_row}
use Rattle.lo_machine.specs.Dispatch.{here_in}
use Rattle.lo_machine.proofs.TableCalls.{call_refuses, call_reads, is_ready}
use Rattle.lo_machine.proofs.CursorsAlike.{close_match}
use Rattle.lo_machine.proofs.server.Server.close_cursor.Goals as goal

pub close_cursor-requires : goal.close_cursor-requires
close_cursor-requires c = record { ready = is_ready c.args.s c.args.self.now c.requires.can }

pub returns-in-Ok : goal.returns-in-Ok
returns-in-Ok c = call_reads c.args.s c.args.self.now c.requires.can c.close_cursor.new.core c.close_cursor.new.self _ (close_row c.args.cursor.now) (λ ys shared sessions variables finds. close_match (here_in c.args.s c.args.self.now ys shared sessions variables) c.args.cursor.now) _ c.in-Ok.ensures.ok c.close_cursor.ensures.keeps

pub returns-in-Err : goal.returns-in-Err
returns-in-Err c = call_refuses c.args.s c.args.self.now c.requires.can c.close_cursor.new.core c.close_cursor.new.self _ (close_row c.args.cursor.now) (λ ys shared sessions variables finds. close_match (here_in c.args.s c.args.self.now ys shared sessions variables) c.args.cursor.now) _ c.in-Err.ensures.err
