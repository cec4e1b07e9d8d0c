use Rattle.std.proofs.Common.{of_z, w32}
use Rattle.lo_calls.proofs.Modes.{read_bit}
use Rattle.lo_calls.proofs.session.may_read.Goals as goal

pub returns : goal.returns
returns c = read_bit (of_z w32 c.args.mode)
