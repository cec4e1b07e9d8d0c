use Rattle.std.proofs.Common.{None}
use Rattle.toast_chunks.proofs.Steps.{chunk_changed, chunk_left, chunk_goes}
use Rattle.toast_chunks.proofs.chunks.Chunks.erase_chunk.Goals as goal

pub returns-clause-ok : goal.returns-clause-ok
returns-clause-ok c = chunk_changed c.args.core.now.xacts c.args.s c.args.self.now None c.args.value c.args.number c.erase.new.self c.erase.result c.erase.ensures.ok

pub returns-clause-left : goal.returns-clause-left
returns-clause-left c = chunk_left c.args.core.now.xacts c.args.s c.args.self.now None c.args.value c.args.number c.erase.new.self c.erase.result c.erase.ensures.ok c.erase.ensures.err

pub returns-clause-goes : goal.returns-clause-goes
returns-clause-goes c = chunk_goes c.args.core.now.xacts c.args.s c.args.self.now None c.args.value c.args.number c.erase.new.self c.erase.result c.requires.used c.requires.small c.erase.ensures.ok c.erase.ensures.err c.erase.ensures.goes c.requires.goes
