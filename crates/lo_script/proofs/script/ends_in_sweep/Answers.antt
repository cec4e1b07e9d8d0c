use Rattle.std.proofs.Common.{◌≡◌, ℕ, false, ap, sym, ◌∙◌}
use Rattle.lo_machine.specs.Program.{program_of}
use Rattle.lo_script.specs.SweepForm.{is_in_sweep}
use Rattle.lo_script.proofs.SweepLines.{ends_next}
use Rattle.lo_script.proofs.script.ends_in_sweep.Goals as goal

pub loop-number-preserved : goal.loop-number-preserved
loop-number-preserved c =
    let programs = c.args.programs.now in
    let n = c.loop-number.number in
    let outside : is_in_sweep (program_of programs n) ≡ false =
    ap (λ (s : ℕ). is_in_sweep (program_of programs s)) (sym c.in-Some.ensures.number)
    ∙ ap is_in_sweep (sym c.lines.ensures.lines)
    ∙ sym c.is_in_sweep.ensures
    ∙ c.if-is_in_sweep.false in
    ends_next programs n c.loop-number-test.true outside ∙ c.loop-number.invariant
