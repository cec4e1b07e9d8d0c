use Rattle.std.proofs.Common.{of_z, w32}
use Rattle.lo_calls.proofs.Modes.{write_bit}
use Rattle.lo_calls.proofs.session.may_write.Goals as goal

pub returns : goal.returns
returns c = write_bit (of_z w32 c.args.mode)
