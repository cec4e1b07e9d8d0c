use Rattle.std.proofs.Common.{◌∙◌, ap, map}
use Rattle.lo_calls.specs.Descriptors.{described_by}
use Rattle.lo_calls.proofs.Closing.{left_below}
use Rattle.lo_calls.proofs.descs.Descs.undo_level.Goals as goal

pub returns-clause-descriptors : goal.returns-clause-descriptors
returns-clause-descriptors c = ap (map described_by) c.close.ensures.left ∙ left_below c.args.level c.args.self.now.entries.items
