use Rattle.std.proofs.Common.{rules}
use Rattle.orphan_sweep.proofs.FieldsAfter.{begun_of}
use Rattle.orphan_sweep.proofs.sweep.Sweep.start_group.Goals as goal

pub returns : goal.returns
returns c =
    begun_of c.self.inside c.args.self.now c.index.result.now c.size_of_group-self-inside.result c.self.view_is c.self.invariant c.requires (search rules)
