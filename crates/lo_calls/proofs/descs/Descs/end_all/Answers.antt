use Rattle.std.proofs.Common.{◌∙◌, ap, map}
use Rattle.lo_calls.specs.Descriptors.{described_by}
use Rattle.lo_calls.proofs.Closing.{none_left}
use Rattle.lo_calls.proofs.descs.Descs.end_all.Goals as goal

pub returns-clause-descriptors : goal.returns-clause-descriptors
returns-clause-descriptors c = ap (map described_by) (c.close.ensures.left ∙ none_left c.args.self.now.entries.items)
