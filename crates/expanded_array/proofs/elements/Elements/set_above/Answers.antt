use Rattle.std.proofs.Common.{◌+◌, ◌-◌, ◌++◌, length, take, replicate, None, ap, ◌∙◌, arith}
use Rattle.std.specs.Prelude.{set}
use Rattle.expanded_array.proofs.Growing.{above_is, above_free}
use Rattle.expanded_array.proofs.elements.Elements.set_above.Goals as goal

pub invariant_of-self-2 : goal.invariant_of-self-2
invariant_of-self-2 c =
    above_free c.self.inside.items.items c.resize.new.self.items c.self.inside.free c.args.index c.max-len.result c.args.value c.self.invariant (omega (arith, c.max-len.ensures, c.len.ensures, c.self.inside.items.ok.0))
    (c.in_ok-resize.ensures.items ∙ ap (λ k. take c.max-len.result c.self.inside.items.items ++ replicate (c.max-len.result - k) None) c.self.inside.items.ok.0)

pub returns-clause-ok : goal.returns-clause-ok
returns-clause-ok c =
    above_is c.self.inside.items.items c.resize.new.self.items c.self.inside.free c.args.index c.max-len.result c.args.value c.self.invariant (omega (arith, c.max-len.ensures, c.len.ensures, c.self.inside.items.ok.0))
    (c.in_ok-resize.ensures.items ∙ ap (λ k. take c.max-len.result c.self.inside.items.items ++ replicate (c.max-len.result - k) None) c.self.inside.items.ok.0)
    ∙ ap (λ es. set (es ++ replicate (c.args.index + 1 - length es) None) c.args.index c.args.value) c.self.view_is
