use Rattle.std.proofs.Common.{ap, ◌∙◌, arith}
use Rattle.std.specs.Prelude.{not}
use Rattle.toast_chunks.proofs.Freeing.{free_value}
use Rattle.toast_chunks.proofs.tests.Bench.is_free.Goals as goal

pub returns : goal.returns
returns c is = free_value c.args.self.now.core.xacts c.args.s c.args.value 18446744073709551615 c.args.self.now.chunks (omega arith) c.requires.goes c.busy_in.result c.busy_in.ensures (c.is_none.ensures ∙ ap not is)
