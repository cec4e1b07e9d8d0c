use Rattle.std.proofs.Common.{◌<◌, ◌≤◌, length, ap, arith}
use Rattle.xact_core.specs.Transactions.{Transactions, levels_of}
use Rattle.row_tables.proofs.Laws.{with_undone}
use Rattle.row_tables.proofs.Benching.{ready_undone, ready_on}
use Rattle.row_tables.proofs.bench.Bench.undo.Goals as goal

pub returns : goal.returns
returns g c =
    let s = c.args.self.now.s in
    let x = c.args.self.now.core.xacts in
    let mid = c.undo_level.new.core.xacts in
    let tables = c.undo_level.new.self in
    let ended = ready_undone x mid c.args.self.now.tables tables s c.args.level c.undo_level.ensures.rows c.undo_level.ensures.ends c.undo_level.ensures.own c.undo_level.ensures.others c.requires.ready in
    let depth = ap (λ (u : Transactions). length (levels_of u s)) c.undo_level.ensures.ends.others.rest in
    let high : c.args.level ≤ length (levels_of mid s) = omega (arith, depth, c.levels.ensures.count) in
    record { ready = ready_on mid c.undo_level-2.new.self tables s c.undo_level-2.ensures.ends.held (with_undone tables s c.args.level mid c.undo_level-2.new.self (record { low = omega arith; high = high; whole = ended.whole; ends = c.undo_level-2.ensures.ends })) ended }
