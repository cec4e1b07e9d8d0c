use Rattle.std.proofs.Common.{w64}
use Rattle.std.proofs.lemmas.Int.{to_z-of_z}
use Rattle.row_tables.specs.CursorRules.{declare_row}
use Rattle.lo_machine.specs.Dispatch.{here_in}
use Rattle.lo_machine.specs.TableRows.{declare_line}
use Rattle.lo_machine.proofs.LinesAlike.{no_memory}
use Rattle.lo_machine.proofs.TableCalls.{call_err, call_ok, is_ready}
use Rattle.lo_machine.proofs.CursorsAlike.{declare_match}
use Rattle.lo_machine.proofs.server.Server.declare.Goals as goal

pub declare-requires-clause-ready : goal.declare-requires-clause-ready
declare-requires-clause-ready c = is_ready c.args.s c.args.self.now c.requires.can

pub returns-in-Ok-declare : goal.returns-in-Ok-declare
returns-in-Ok-declare c = call_ok c.args.s c.args.self.now c.requires.can c.declare.new.core c.declare.new.self _ (declare_row c.args.cursor.now c.args.table.now c.args.id) (λ ys shared sessions variables finds. declare_match (here_in c.args.s c.args.self.now ys shared sessions variables) c.args.cursor.now c.args.table.now c.args.id) _ (rw (to_z-of_z w64 c.args.id c.ranges.id, c.in-Ok.ensures, c.items.ensures) at c.in-Ok-declare.ensures.ok) c.in-Ok-declare.ensures.keeps

pub returns-in-Err : goal.returns-in-Err
returns-in-Err c = call_err c.args.s c.args.self.now c.requires.can c.declare.new.core c.declare.new.self _ (declare_row c.args.cursor.now c.args.table.now c.args.id) (λ ys shared sessions variables finds. declare_match (here_in c.args.s c.args.self.now ys shared sessions variables) c.args.cursor.now c.args.table.now c.args.id) _ (rw (to_z-of_z w64 c.args.id c.ranges.id, c.in-Ok.ensures, c.items.ensures) at c.in-Err.ensures.err)

pub returns-in_default : goal.returns-in_default
returns-in_default c = (no_memory c.args.s c.args.self.now c.requires.can (declare_line c.args.cursor.now c.args.table.now c.args.id)).answers
