use Rattle.std.proofs.Common.{w64, ap}
use Rattle.std.specs.Option.{option_copied}
use Rattle.std.proofs.lemmas.Int.{to_z-of_z}
use Rattle.row_tables.specs.RowRules.{update_row}
use Rattle.lo_machine.specs.TableRows.{update_line}
use Rattle.lo_machine.proofs.FlatFound.{refused_get}
use Rattle.lo_machine.proofs.LinesAlike.{columns_are, denied_by, refused_by, update_match, update_missing, update_refused, update_unknown}
use Rattle.lo_machine.proofs.TableCalls.{call_err, call_ok, is_ready}
use Rattle.lo_machine.proofs.server.Server.update.Goals as goal

pub update-requires-clause-ready : goal.update-requires-clause-ready
update-requires-clause-ready c = is_ready c.args.s c.args.self.now c.requires.can

pub update-requires-clause-fit : goal.update-requires-clause-fit
update-requires-clause-fit c = λ table there. rw (columns_are c.args.table.now _ (option_copied c.columns.result) c.columns.ensures.columns c.in-Some.columns.now (ap option_copied c.in-Some.is) table there, c.items.ensures) c.in-Ok.ensures.ok.fit

pub get-requires : goal.get-requires
get-requires c = record { kept = c.snapshot-snap.ensures.kept c.requires.can.begun; goes = c.requires.can.rows }

pub returns-in_default : goal.returns-in_default
returns-in_default c = rw c.no_table.ensures (refused_by c.args.s c.args.self.now c.requires.can (update_line c.args.table.now c.args.id c.args.changes.now) _ (update_unknown c.args.s c.args.self.now c.args.table.now (option_copied c.columns.result) c.columns.ensures.columns (ap option_copied c.in_default.is) c.args.id c.args.changes.now)).answers

pub returns-in-Ok-update : goal.returns-in-Ok-update
returns-in-Ok-update c = call_ok c.args.s c.args.self.now c.requires.can c.update.new.core c.update.new.self _ (update_row c.args.table.now c.args.id c.in-Ok.changes) (λ ys shared sessions variables finds. update_match c.args.s c.place.result c.args.self.now c.requires.can c.index-own.result.now (record { place' = c.place.ensures.place; within = c.place.ensures.within; taken = c.index-own.ensures }) c.args.table.now (option_copied c.columns.result) c.columns.ensures.columns ys shared sessions variables finds c.in-Some.columns.now (ap option_copied c.in-Some.is) c.args.id c.args.changes.now c.in-Ok.changes c.in-Ok.ensures.ok) _ (rw (to_z-of_z w64 c.args.id c.ranges.id, c.items.ensures) at c.in-Ok-update.ensures.ok) c.in-Ok-update.ensures.keeps

pub returns-in-Ok : goal.returns-in-Ok
returns-in-Ok c = call_err c.args.s c.args.self.now c.requires.can c.update.new.core c.update.new.self _ (update_row c.args.table.now c.args.id c.in-Ok.changes) (λ ys shared sessions variables finds. update_match c.args.s c.place.result c.args.self.now c.requires.can c.index-own.result.now (record { place' = c.place.ensures.place; within = c.place.ensures.within; taken = c.index-own.ensures }) c.args.table.now (option_copied c.columns.result) c.columns.ensures.columns ys shared sessions variables finds c.in-Some.columns.now (ap option_copied c.in-Some.is) c.args.id c.args.changes.now c.in-Ok.changes c.in-Ok.ensures.ok) _ (rw (to_z-of_z w64 c.args.id c.ranges.id, c.items.ensures) at c.in-Err-update.ensures.err)

pub returns-in-Ok-get : goal.returns-in-Ok-get
returns-in-Ok-get c = (denied_by c.args.s c.args.self.now c.requires.can (update_line c.args.table.now c.args.id c.args.changes.now) c.in-Err.denied (λ r is ys shared sessions variables finds. update_refused c.args.s c.place.result c.args.self.now c.requires.can c.index-own.result.now (record { place' = c.place.ensures.place; within = c.place.ensures.within; taken = c.index-own.ensures }) c.args.table.now (option_copied c.columns.result) c.columns.ensures.columns ys shared sessions variables finds c.in-Some.columns.now (ap option_copied c.in-Some.is) c.args.id c.args.changes.now _ (rw (c.snapshot-snap.ensures.view, to_z-of_z w64 c.args.id c.ranges.id) at (c.in-Ok-get.ensures.ok c.args.s)) r (rw is at c.in-Err.ensures.err))).answers

pub returns : goal.returns
returns c = (denied_by c.args.s c.args.self.now c.requires.can (update_line c.args.table.now c.args.id c.args.changes.now) c.in-Err-get.first (λ r is ys shared sessions variables finds. update_missing c.args.s c.place.result c.args.self.now c.requires.can c.index-own.result.now (record { place' = c.place.ensures.place; within = c.place.ensures.within; taken = c.index-own.ensures }) c.args.table.now (option_copied c.columns.result) c.columns.ensures.columns ys shared sessions variables finds c.in-Some.columns.now (ap option_copied c.in-Some.is) c.args.id c.args.changes.now r (refused_get c.args.s c.args.self.now c.requires.can c.args.table.now c.args.id c.in-Err-get.first (rw (c.snapshot-snap.ensures.view, to_z-of_z w64 c.args.id c.ranges.id) at (c.in-Err-get.ensures.err c.args.s)) r is))).answers
