use Rattle.std.proofs.Common.{◌≤◌, ◌-◌, ap, take, length, arith}
use Rattle.xact_core.specs.Transactions.{Transactions, levels_of}
use Rattle.lo_pages.proofs.Standing.{go_released}
use Rattle.lo_calls.proofs.Benching.{moved_ready, levels_leave, some_left}
use Rattle.lo_calls.proofs.bench.Bench.release.Goals as goal

pub returns : goal.returns
returns g c =
    let one = c.args.self.now.session in
    let mid = c.release_level.new.xacts in
    let left = moved_ready c.args.self.now.core.xacts mid c.args.self.now.store one c.args.self.now.other c.release_level.new.self c.requires.ready c.release_level.ensures.xacts c.release_level.ensures.holds (c.release_level.ensures.open one.s) in
    let same = ap (λ (u : Transactions). u.undos) c.release_level.ensures.xacts in
    let depth = ap (λ (u : Transactions). length (levels_of u one.s)) c.release_level.ensures.xacts in
    let high : c.args.level ≤ length (levels_of mid one.s) = omega (arith, depth, c.levels-levels.ensures.count) in
    levels_leave c.args.self.now.core.xacts mid c.release_level-2.new.self c.args.self.now.store one c.args.self.now.other c.release_level.new.self (take (c.args.level - 1) (levels_of mid one.s)) left same c.release_level-2.ensures.ends.levels (some_left (c.args.level - 1) (levels_of mid one.s) (omega arith) (omega (arith, high))) c.release_level-2.ensures.ends.held (omega (arith, c.release_level-2.ensures.undos))
    (go_released one.s c.args.level mid c.release_level-2.new.self c.args.self.now.store.pages (record { low = omega arith; high = high; whole = left.first.whole; ends = c.release_level-2.ensures.ends }) left.first.goes)
