-- Flat bytes of an array are those with one of the three layouts.
use Rattle.std.proofs.Common.{arith, ap, sym, ◌∙◌}
use Rattle.expanded_array.specs.Layout.{is_flat_layout}
use Rattle.expanded_array.proofs.FlatLaws.{laid_out_is_flat, flat_laid_out}
use Rattle.expanded_array.proofs.layout.is_flat.Goals as goal

pub returns : goal.returns
returns c = (
  λ e. laid_out_is_flat c.args.bytes.now (record { each = λ i. omega (arith, c.type_inv.bytes i) }) (sym c.is_flat_layout.ensures ∙ e),
  λ f. c.is_flat_layout.ensures ∙ ap is_flat_layout f.bytes_are ∙ flat_laid_out f.array f.held,
)
