use Rattle.toast_chunks.proofs.Standing.{stand_reads, stand_free}
use Rattle.toast_chunks.proofs.law.values_read.Goals as goal

pub returns-clause-reads : goal.returns-clause-reads
returns-clause-reads g c gives x chunks value ys v stand kept = stand_reads gives x chunks value ys v stand kept

pub returns-clause-free : goal.returns-clause-free
returns-clause-free g c gives x s chunks value ys stand free = stand_free gives x s chunks value ys stand free
