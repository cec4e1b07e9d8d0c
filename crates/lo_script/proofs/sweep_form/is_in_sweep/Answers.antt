use Rattle.std.proofs.Common.{sym, ◌∙◌}
use Rattle.lo_script.proofs.SweepLines.{in_sweep-some}
use Rattle.lo_script.proofs.sweep_form.is_in_sweep.Goals as goal

pub returns-in-Some : goal.returns-in-Some
returns-in-Some c =
    let found = rw c.in-Some.is at c.last.ensures.value in
    c.leaves_open.ensures ∙ in_sweep-some c.args.lines.now c.in-Some.last.now (sym found)
