use Rattle.std.proofs.Common.{◌<◌, ◌≤◌, refl, sym, ap, ◌∙◌, arith}
use Rattle.std.proofs.lemmas.Bool.{false≢true}
use Rattle.toast_plan.specs.Layout.{up_to_8}
use Rattle.toast_plan.specs.Choice.{outside_of, planned_length}
use Rattle.toast_plan.specs.Reading.{cell_lengths}
use Rattle.lo_image.proofs.plans.are_planned_by.Goals as goal

pub returns-in-Ok : goal.returns-in-Ok
returns-in-Ok c =
    let marks = c.in-Ok.ensures.plan.outside ∙ ap (outside_of c.args.columns.now) c.requires.own in
    let fits : up_to_8 (planned_length c.args.columns.now (cell_lengths c.args.cells.now)) ≤ 8160 = rw (← c.requires.own) c.in-Ok.ensures.plan.fits in
    ((λ h. record { outside = c.are_marked.ensures.0 h ∙ marks; fits = fits }), λ p. c.are_marked.ensures.1 (p.outside ∙ sym marks))

pub returns-in-Err : goal.returns-in-Err
returns-in-Err c =
    let big : 8160 < up_to_8 (planned_length c.args.columns.now (cell_lengths c.args.cells.now)) = rw c.requires.own at (c.in-Err.ensures.too_big.0 refl) in
    ((λ h. absurd (false≢true h)), λ p. absurd (omega (arith, p.fits)))
