use Rattle.std.proofs.Common.{◌*◌, arith}
use Rattle.toast_chunks.proofs.Cutting.{cut_rest}
use Rattle.toast_chunks.proofs.change.chunk_of.Goals as goal

pub returns : goal.returns
returns c = cut_rest c.min.result (1996 * c.args.number) c.args.bytes.now (omega (arith, c.min.ensures))
