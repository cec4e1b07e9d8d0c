use Rattle.row_tables.specs.RowRules.{ids_row}
use Rattle.lo_machine.specs.Dispatch.{here_in}
use Rattle.lo_machine.proofs.TableCalls.{tells_err, tells_ok}
use Rattle.lo_machine.proofs.TablesAlike.{ids_match, ids_reading}
use Rattle.lo_machine.proofs.server.Server.ids.Goals as goal

pub ids-requires : goal.ids-requires
ids-requires c = record { kept = c.snapshot-snap.ensures.kept c.requires.can.begun; goes = c.requires.can.rows }

pub returns-in-Ok : goal.returns-in-Ok
returns-in-Ok c = tells_ok c.args.s c.args.self.now c.requires.can _ (ids_row c.args.table.now) (λ ys shared sessions variables finds. ids_match (here_in c.args.s c.args.self.now ys shared sessions variables) c.args.table.now) (ids_reading c.args.table.now) _ (rw c.snapshot-snap.ensures.view at (c.in-Ok.ensures.ok c.args.s))

pub returns-in-Err : goal.returns-in-Err
returns-in-Err c = tells_err c.args.s c.args.self.now c.requires.can _ (ids_row c.args.table.now) (λ ys shared sessions variables finds. ids_match (here_in c.args.s c.args.self.now ys shared sessions variables) c.args.table.now) _ (rw c.snapshot-snap.ensures.view at (c.in-Err.ensures.err c.args.s))
