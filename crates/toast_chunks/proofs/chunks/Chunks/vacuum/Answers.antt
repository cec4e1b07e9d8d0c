use Rattle.std.proofs.Common.{refl}
use Rattle.toast_chunks.specs.Keys.{chunk_key}
use Rattle.toast_chunks.proofs.Vacuuming.{vacuum_goes, vacuum_reads}
use Rattle.toast_chunks.proofs.chunks.Chunks.vacuum.Goals as goal

pub returns-clause-goes : goal.returns-clause-goes
returns-clause-goes c = vacuum_goes c.args.core.now.xacts c.args.self.now c.vacuum.new.self c.vacuum.ensures.versions c.vacuum.ensures.goes c.requires.goes

pub returns-clause-reads : goal.returns-clause-reads
returns-clause-reads c = vacuum_reads c.args.core.now.xacts c.args.self.now c.vacuum.new.self c.vacuum.ensures.finds

pub returns-clause-all : goal.returns-clause-all
returns-clause-all c = record { chunk = λ n k. c.vacuum.ensures.versions (chunk_key n k); next = refl }

pub returns-clause-left : goal.returns-clause-left
returns-clause-left c = record { chunk = λ n k. c.vacuum.ensures.puts (chunk_key n k) }
