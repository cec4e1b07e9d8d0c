use Rattle.std.proofs.Common.{◌<◌, ◌≤◌, length, ap, arith}
use Rattle.xact_core.specs.Transactions.{Transactions, levels_of}
use Rattle.row_tables.proofs.Laws.{with_aborted}
use Rattle.row_tables.proofs.Benching.{ready_undone, ready_on}
use Rattle.row_tables.proofs.bench.Bench.rollback.Goals as goal

pub returns : goal.returns
returns g c =
    let s = c.args.self.now.s in
    let x = c.args.self.now.core.xacts in
    let mid = c.undo_level.new.core.xacts in
    let tables = c.undo_level.new.self in
    let ended = ready_undone x mid c.args.self.now.tables tables s 1 c.undo_level.ensures.rows c.undo_level.ensures.ends c.undo_level.ensures.own c.undo_level.ensures.others c.requires.ready in
    let depth = ap (λ (u : Transactions). length (levels_of u s)) c.undo_level.ensures.ends.others.rest in
    let some : 0 < length (levels_of mid s) = omega (arith, depth, c.levels.ensures.count) in
    record { ready = ready_on mid c.abort.new.self tables s c.abort.ensures.ends.held (with_aborted tables s mid c.abort.new.self (record { some = some; whole = ended.whole; ends = c.abort.ensures.ends })) ended }
