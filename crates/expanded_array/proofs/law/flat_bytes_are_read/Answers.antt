use Rattle.expanded_array.proofs.FlatLaws.{flat_holds}
use Rattle.expanded_array.proofs.law.flat_bytes_are_read.Goals as goal

pub returns : goal.returns
returns c = flat_holds
