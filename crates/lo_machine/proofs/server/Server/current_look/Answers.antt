use Rattle.std.proofs.Common.{◌≡◌, length, arith}
use Rattle.lo_machine.specs.Server.{names_in}
use Rattle.lo_machine.proofs.ScannedViews.{seen_outside, seen_within}
use Rattle.lo_machine.proofs.server.Server.current_look.Goals as goal

pub returns-then-levels-gt0-clause-view : goal.returns-then-levels-gt0-clause-view
returns-then-levels-gt0-clause-view c st stands = seen_within c.args.self.now st stands c.args.s _ c.snapshot.ensures.view

pub returns-else-levels-gt0-clause-view : goal.returns-else-levels-gt0-clause-view
returns-else-levels-gt0-clause-view c st stands =
    let none : length (names_in c.args.self.now c.args.s) ≡ 0 = omega (arith, c.levels.ensures.count, c.if-levels-gt0.false) in
    seen_outside c.args.self.now st stands c.args.s _ c.committed.ensures.view (omega (arith, c.number.ensures.range, c.number.ensures.same)) (omega (arith, c.number.ensures.range, c.number.ensures.same)) none
