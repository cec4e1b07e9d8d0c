use Rattle.std.proofs.Common.{ap, ◌∙◌}
use Rattle.std.specs.Prelude.{is_some}
use Rattle.expanded_array.proofs.ReadLaws.{element_told}
use Rattle.expanded_array.proofs.reading.is_element.Goals as goal

pub returns : goal.returns
returns c = c.is_some.ensures ∙ ap is_some (element_told c.args.piece.now c.read_element.result c.read_element.ensures.found c.read_element.ensures.none)
