use Rattle.std.proofs.Common.{Some}
use Rattle.toast_chunks.proofs.Steps.{chunk_changed, chunk_left, chunk_goes}
use Rattle.toast_chunks.proofs.chunks.Chunks.put_chunk.Goals as goal

pub returns-clause-ok : goal.returns-clause-ok
returns-clause-ok c = chunk_changed c.args.core.now.xacts c.args.s c.args.self.now (Some c.args.chunk) c.args.value c.args.number c.put.new.self c.put.result c.put.ensures.ok

pub returns-clause-left : goal.returns-clause-left
returns-clause-left c = chunk_left c.args.core.now.xacts c.args.s c.args.self.now (Some c.args.chunk) c.args.value c.args.number c.put.new.self c.put.result c.put.ensures.ok c.put.ensures.err

pub returns-clause-goes : goal.returns-clause-goes
returns-clause-goes c = chunk_goes c.args.core.now.xacts c.args.s c.args.self.now (Some c.args.chunk) c.args.value c.args.number c.put.new.self c.put.result c.requires.used c.requires.small c.put.ensures.ok c.put.ensures.err c.put.ensures.goes c.requires.goes
