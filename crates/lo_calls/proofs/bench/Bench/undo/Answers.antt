use Rattle.std.proofs.Common.{◌≤◌, ap, take, length, arith}
use Rattle.xact_core.specs.Transactions.{Transactions, levels_of}
use Rattle.lo_pages.proofs.Standing.{go_undone}
use Rattle.lo_calls.proofs.Benching.{ended_ready, levels_leave, some_left}
use Rattle.lo_calls.proofs.bench.Bench.undo.Goals as goal

pub returns : goal.returns
returns g c =
    let one = c.args.self.now.session in
    let mid = c.undo_level.new.xacts in
    let left = ended_ready c.args.self.now.core.xacts mid c.args.self.now.store one c.args.self.now.other c.undo_level.new.self c.requires.ready c.undo_level.ensures.ends in
    let same = ap (λ (u : Transactions). u.undos) c.undo_level.ensures.ends.others.rest in
    let depth = ap (λ (u : Transactions). length (levels_of u one.s)) c.undo_level.ensures.ends.others.rest in
    let high : c.args.level ≤ length (levels_of mid one.s) = omega (arith, depth, c.levels-levels.ensures.count) in
    levels_leave c.args.self.now.core.xacts mid c.undo_level-2.new.self c.args.self.now.store one c.args.self.now.other c.undo_level.new.self (take c.args.level (levels_of mid one.s)) left same c.undo_level-2.ensures.ends.levels (some_left c.args.level (levels_of mid one.s) (omega arith) high) c.undo_level-2.ensures.ends.held (omega (arith, c.undo_level-2.ensures.undos))
    (go_undone one.s c.args.level mid c.undo_level-2.new.self c.args.self.now.store.pages (record { low = omega arith; high = high; whole = left.first.whole; ends = c.undo_level-2.ensures.ends }) left.first.goes)
