use Rattle.std.proofs.Common.{◌∷◌, ◌++◌, ◌-◌, replicate, None, ap, ◌∙◌, arith}
use Rattle.expanded_array.proofs.Growing.{below_is, below_free}
use Rattle.expanded_array.proofs.elements.Elements.set_below.Goals as goal

pub invariant_of-self : goal.invariant_of-self
invariant_of-self c = below_free c.self.inside.items.items _ c.self.inside.free c.args.below (c.self.inside.free - c.args.below) c.args.value c.self.invariant (omega arith)

pub returns-clause-ok : goal.returns-clause-ok
returns-clause-ok c =
    below_is c.self.inside.items.items _ c.self.inside.free c.args.below (c.self.inside.free - c.args.below) c.args.value c.self.invariant c.requires.below (omega arith)
    ∙ ap (λ es. c.args.value ∷ (replicate (c.args.below - 1) None ++ es)) c.self.view_is
