use Rattle.lo_machine.proofs.CellsTold.{flat_read}
use Rattle.lo_machine.proofs.cells.array_in.Goals as goal

pub returns : goal.returns
returns c = flat_read c.args.flat c.from_flat.result c.requires c.from_flat.ensures.array
