use Rattle.row_tables.specs.RowRules.{create_table_row}
use Rattle.lo_machine.specs.Dispatch.{here_in}
use Rattle.lo_machine.specs.Row.{on_tables}
use Rattle.lo_machine.proofs.LinesAlike.{no_memory}
use Rattle.lo_machine.proofs.TableCalls.{call_err, call_ok, is_ready}
use Rattle.lo_machine.proofs.TablesAlike.{create_table_match}
use Rattle.lo_machine.proofs.server.Server.create_table.Goals as goal

pub create_table-requires-clause-ready : goal.create_table-requires-clause-ready
create_table-requires-clause-ready c = is_ready c.args.s c.args.self.now c.requires.can

pub returns-in-Ok-create_table : goal.returns-in-Ok-create_table
returns-in-Ok-create_table c = call_ok c.args.s c.args.self.now c.requires.can c.args.self.now.core c.create_table.new.self _ (create_table_row c.args.name.now c.args.columns.now) (λ ys shared sessions variables finds. create_table_match (here_in c.args.s c.args.self.now ys shared sessions variables) c.args.name.now c.args.columns.now) _ (rw (c.in-Ok.ensures, c.in-Ok-copy_of.ensures, c.items.ensures, c.items-2.ensures) at c.in-Ok-create_table.ensures.ok) c.in-Ok-create_table.ensures.keeps

pub returns-in-Err : goal.returns-in-Err
returns-in-Err c = call_err c.args.s c.args.self.now c.requires.can c.args.self.now.core c.create_table.new.self _ (create_table_row c.args.name.now c.args.columns.now) (λ ys shared sessions variables finds. create_table_match (here_in c.args.s c.args.self.now ys shared sessions variables) c.args.name.now c.args.columns.now) _ (rw (c.in-Ok.ensures, c.in-Ok-copy_of.ensures, c.items.ensures, c.items-2.ensures) at c.in-Err.ensures.err)

pub returns-in_default : goal.returns-in_default
returns-in_default c = (no_memory c.args.s c.args.self.now c.requires.can (on_tables (create_table_row c.args.name.now c.args.columns.now))).answers

pub returns-in_default-copy_of : goal.returns-in_default-copy_of
returns-in_default-copy_of c = (no_memory c.args.s c.args.self.now c.requires.can (on_tables (create_table_row c.args.name.now c.args.columns.now))).answers
