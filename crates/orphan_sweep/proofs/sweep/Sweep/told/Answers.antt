use Rattle.std.proofs.Common.{◌∙◌, ap, sym}
use Rattle.orphan_sweep.specs.declared.act.Told.TheVariants.{Found}
use Rattle.orphan_sweep.specs.Place.{after}
use Rattle.orphan_sweep.proofs.OneMoreAnswer.{told_from}
use Rattle.orphan_sweep.proofs.sweep.Sweep.told.Goals as goal

pub returns-in-Found : goal.returns-in-Found
returns-in-Found c =
    λ h e. told_from h c.args.answer c.args.self.now c.after_scan.new.self e c.requires (c.after_scan.ensures ∙ ap (λ numbers. after c.args.self.now (Found numbers)) c.into_vec.ensures ∙ ap (after c.args.self.now) (sym c.in-Found.is))

pub returns-in-Granted : goal.returns-in-Granted
returns-in-Granted c =
    λ h e. told_from h c.args.answer c.args.self.now c.after_granted.new.self e c.requires (c.after_granted.ensures ∙ ap (after c.args.self.now) (sym c.in-Granted.is))

pub returns-in-Refused : goal.returns-in-Refused
returns-in-Refused c =
    λ h e. told_from h c.args.answer c.args.self.now c.after_refused.new.self e c.requires (c.after_refused.ensures ∙ ap (after c.args.self.now) (sym c.in-Refused.is))
