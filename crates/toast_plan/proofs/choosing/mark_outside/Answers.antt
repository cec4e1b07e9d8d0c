use Rattle.toast_plan.proofs.choosing.mark_outside.Goals as goal

pub returns : goal.returns
returns c = rw (c.move_out-2.ensures, c.move_out.ensures, c.requires.inside, c.requires.header)
