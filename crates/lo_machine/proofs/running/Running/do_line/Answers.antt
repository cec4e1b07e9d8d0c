use Rattle.std.proofs.Common.{◌≡◌, ◌+◌, ap, sym, ◌∙◌, arith}
use Rattle.lo_machine.specs.Replay.{moment_of}
use Rattle.lo_machine.proofs.LineAdvances.{line_done, none_done, within_more}
use Rattle.lo_machine.proofs.running.Running.do_line.Goals as goal

pub loop-self-init : goal.loop-self-init
loop-self-init c = record { within = none_done c.args.s c.args.self.now c.requires; line = c.line-line.ensures }

pub advance-requires : goal.advance-requires
advance-requires c = c.loop-self.invariant.within.left

pub returns-then-line : goal.returns-then-line
returns-then-line c = line_done c.args.s c.args.self.now c.loop-self.self c.advance.new.self c.loop-self.invariant.within c.in_ok-advance.ensures.ok (λ same. c.if-line.true (c.line.ensures ∙ (ap (λ n. n + 1) same ∙ sym c.loop-self.invariant.line)))

pub loop-self-smaller : goal.loop-self-smaller
loop-self-smaller c =
    let same : (moment_of c.advance.new.self).lines_done c.args.s ≡ (moment_of c.args.self.now).lines_done c.args.s = omega (arith, c.line.ensures, c.if-line.false, c.loop-self.invariant.line) in
    let fewer = (within_more c.args.s c.args.self.now c.loop-self.self c.advance.new.self c.loop-self.invariant.within c.in_ok-advance.ensures.ok same).1 in
    omega (arith, fewer)

pub loop-self-preserved : goal.loop-self-preserved
loop-self-preserved c =
    let same : (moment_of c.advance.new.self).lines_done c.args.s ≡ (moment_of c.args.self.now).lines_done c.args.s = omega (arith, c.line.ensures, c.if-line.false, c.loop-self.invariant.line) in
    record {
      within = (within_more c.args.s c.args.self.now c.loop-self.self c.advance.new.self c.loop-self.invariant.within c.in_ok-advance.ensures.ok same).0;
      line = c.loop-self.invariant.line;
    }
