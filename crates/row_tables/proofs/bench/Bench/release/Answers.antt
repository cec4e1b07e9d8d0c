use Rattle.std.proofs.Common.{◌<◌, ◌≤◌, length, ap, arith}
use Rattle.row_versions.specs.declared.base.Core.{Core}
use Rattle.xact_core.specs.Transactions.{Transactions, levels_of}
use Rattle.row_tables.proofs.Laws.{with_released}
use Rattle.row_tables.proofs.Benching.{ready_released, ready_on}
use Rattle.row_tables.proofs.bench.Bench.release.Goals as goal

pub returns : goal.returns
returns g c =
    let s = c.args.self.now.s in
    let x = c.args.self.now.core.xacts in
    let mid = c.release_level.new.core.xacts in
    let tables = c.release_level.new.self in
    let same = ap (λ (k : Core). k.xacts) c.release_level.ensures.core in
    let depth = ap (λ (u : Transactions). length (levels_of u s)) same in
    let high : c.args.level ≤ length (levels_of mid s) = omega (arith, depth, c.levels.ensures.count) in
    let moved = ready_released x mid c.args.self.now.tables tables s c.args.level c.release_level.ensures.rows same (c.release_level.ensures.open x) c.release_level.ensures.own c.release_level.ensures.others c.requires.ready in
    record { ready = ready_on mid c.release_level-2.new.self tables s c.release_level-2.ensures.ends.held (with_released tables s c.args.level mid c.release_level-2.new.self (record { low = omega arith; high = high; whole = moved.whole; ends = c.release_level-2.ensures.ends })) moved }
