use Rattle.std.proofs.Common.{w64}
use Rattle.std.proofs.lemmas.Int.{to_z-of_z}
use Rattle.row_tables.specs.RowRules.{slice_row}
use Rattle.lo_machine.specs.Dispatch.{here_in}
use Rattle.lo_machine.proofs.TableCalls.{tells_err, tells_ok}
use Rattle.lo_machine.proofs.TablesAlike.{slice_match, slice_reading}
use Rattle.lo_machine.proofs.server.Server.slice.Goals as goal

pub slice-requires : goal.slice-requires
slice-requires c = record { kept = c.snapshot-snap.ensures.kept c.requires.can.begun; goes = c.requires.can.rows }

pub returns-in-Ok : goal.returns-in-Ok
returns-in-Ok c = rw c.part_reply.ensures (tells_ok c.args.s c.args.self.now c.requires.can _ (slice_row c.args.table.now c.args.id c.args.column.now c.args.from c.args.length) (λ ys shared sessions variables finds. slice_match (here_in c.args.s c.args.self.now ys shared sessions variables) c.args.table.now c.args.id c.args.column.now c.args.from c.args.length) (slice_reading c.args.table.now c.args.id c.args.column.now c.args.from c.args.length) _ (rw (c.snapshot-snap.ensures.view, to_z-of_z w64 c.args.id c.ranges.id, to_z-of_z w64 c.args.from c.ranges.from, to_z-of_z w64 c.args.length c.ranges.length) at (c.in-Ok.ensures.ok c.args.s)))

pub returns-in-Err : goal.returns-in-Err
returns-in-Err c = tells_err c.args.s c.args.self.now c.requires.can _ (slice_row c.args.table.now c.args.id c.args.column.now c.args.from c.args.length) (λ ys shared sessions variables finds. slice_match (here_in c.args.s c.args.self.now ys shared sessions variables) c.args.table.now c.args.id c.args.column.now c.args.from c.args.length) _ (rw (c.snapshot-snap.ensures.view, to_z-of_z w64 c.args.id c.ranges.id, to_z-of_z w64 c.args.from c.ranges.from, to_z-of_z w64 c.args.length c.ranges.length) at (c.in-Err.ensures.err c.args.s))
