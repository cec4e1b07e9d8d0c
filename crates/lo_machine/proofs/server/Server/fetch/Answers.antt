use Rattle.std.proofs.Common.{w64}
use Rattle.std.proofs.lemmas.Int.{to_z-of_z}
use Rattle.row_tables.specs.CursorRules.{fetch_row}
use Rattle.lo_machine.specs.Dispatch.{here_in}
use Rattle.lo_machine.proofs.TableCalls.{is_ready, same_err, same_ok}
use Rattle.lo_machine.proofs.CursorsAlike.{fetch_match}
use Rattle.lo_machine.proofs.server.Server.fetch.Goals as goal

pub fetch_slice-requires : goal.fetch_slice-requires
fetch_slice-requires c = record { ready = is_ready c.args.s c.args.self.now c.requires.can }

pub returns-in-Ok : goal.returns-in-Ok
returns-in-Ok c = rw c.part_reply.ensures (same_ok c.args.s c.args.self.now c.requires.can _ (fetch_row c.args.cursor.now c.args.column.now c.args.from c.args.length) (λ ys shared sessions variables finds. fetch_match (here_in c.args.s c.args.self.now ys shared sessions variables) finds.cursors c.args.cursor.now c.args.column.now c.args.from c.args.length) _ (rw (to_z-of_z w64 c.args.from c.ranges.from, to_z-of_z w64 c.args.length c.ranges.length) at c.in-Ok.ensures.ok))

pub returns-in-Err : goal.returns-in-Err
returns-in-Err c = same_err c.args.s c.args.self.now c.requires.can _ (fetch_row c.args.cursor.now c.args.column.now c.args.from c.args.length) (λ ys shared sessions variables finds. fetch_match (here_in c.args.s c.args.self.now ys shared sessions variables) finds.cursors c.args.cursor.now c.args.column.now c.args.from c.args.length) _ (rw (to_z-of_z w64 c.args.from c.ranges.from, to_z-of_z w64 c.args.length c.ranges.length) at c.in-Err.ensures.err)
