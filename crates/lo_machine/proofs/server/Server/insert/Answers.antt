use Rattle.std.proofs.Common.{ap}
use Rattle.std.specs.Option.{option_copied}
use Rattle.row_tables.specs.RowRules.{insert_row}
use Rattle.lo_machine.specs.TableRows.{insert_line}
use Rattle.lo_machine.proofs.LinesAlike.{columns_are, denied_by, insert_match, insert_refused, insert_unknown, refused_by}
use Rattle.lo_machine.proofs.TableCalls.{call_err, call_ok, is_ready}
use Rattle.lo_machine.proofs.server.Server.insert.Goals as goal

pub insert-requires-clause-ready : goal.insert-requires-clause-ready
insert-requires-clause-ready c = is_ready c.args.s c.args.self.now c.requires.can

pub insert-requires-clause-fit : goal.insert-requires-clause-fit
insert-requires-clause-fit c = λ table there. rw (columns_are c.args.table.now _ (option_copied c.columns.result) c.columns.ensures.columns c.in-Some.columns.now (ap option_copied c.in-Some.is) table there, c.items.ensures) c.in-Ok.ensures.ok.fit

pub returns-in_default : goal.returns-in_default
returns-in_default c = rw c.no_table.ensures (refused_by c.args.s c.args.self.now c.requires.can (insert_line c.args.table.now c.args.literals.now) _ (insert_unknown c.args.s c.args.self.now c.args.table.now (option_copied c.columns.result) c.columns.ensures.columns (ap option_copied c.in_default.is) c.args.literals.now)).answers

pub returns-in-Err : goal.returns-in-Err
returns-in-Err c = (denied_by c.args.s c.args.self.now c.requires.can (insert_line c.args.table.now c.args.literals.now) c.in-Err.denied (λ r is ys shared sessions variables finds. insert_refused c.args.s c.place.result c.args.self.now c.requires.can c.index-own.result.now (record { place' = c.place.ensures.place; within = c.place.ensures.within; taken = c.index-own.ensures }) c.args.table.now (option_copied c.columns.result) c.columns.ensures.columns ys shared sessions variables finds c.in-Some.columns.now (ap option_copied c.in-Some.is) c.args.literals.now r (rw is at c.in-Err.ensures.err))).answers

pub returns-in-Ok-insert : goal.returns-in-Ok-insert
returns-in-Ok-insert c = call_ok c.args.s c.args.self.now c.requires.can c.insert.new.core c.insert.new.self _ (insert_row c.args.table.now c.in-Ok.values) (λ ys shared sessions variables finds. insert_match c.args.s c.place.result c.args.self.now c.requires.can c.index-own.result.now (record { place' = c.place.ensures.place; within = c.place.ensures.within; taken = c.index-own.ensures }) c.args.table.now (option_copied c.columns.result) c.columns.ensures.columns ys shared sessions variables finds c.in-Some.columns.now (ap option_copied c.in-Some.is) c.args.literals.now c.in-Ok.values c.in-Ok.ensures.ok) _ (rw c.items.ensures at c.in-Ok-insert.ensures.ok) c.in-Ok-insert.ensures.keeps

pub returns : goal.returns
returns c = call_err c.args.s c.args.self.now c.requires.can c.insert.new.core c.insert.new.self _ (insert_row c.args.table.now c.in-Ok.values) (λ ys shared sessions variables finds. insert_match c.args.s c.place.result c.args.self.now c.requires.can c.index-own.result.now (record { place' = c.place.ensures.place; within = c.place.ensures.within; taken = c.index-own.ensures }) c.args.table.now (option_copied c.columns.result) c.columns.ensures.columns ys shared sessions variables finds c.in-Some.columns.now (ap option_copied c.in-Some.is) c.args.literals.now c.in-Ok.values c.in-Ok.ensures.ok) _ (rw c.items.ensures at c.in-Err-insert.ensures.err)
