use Rattle.lo_image.proofs.WritingLaws.{nothing_given, step, stop, last, fails}
use Rattle.lo_opening.specs.Opening.{tables_chunks}
use Rattle.std.proofs.Common.{None}
use Rattle.lo_image.specs.Image.{image}
use Rattle.lo_image.proofs.WritingRules.{numbered_tables, short_objects}
use Rattle.lo_image.proofs.writing.put_parts.Goals as goal

pub returns-in_err-put_head : goal.returns-in_err-put_head
unfolding image
returns-in_err-put_head g c = fails _ c.from_residual.result c.from_residual.ensures.1 (stop _ _ (nothing_given _ _ _) c.in_err-put_head.ensures)

pub returns-in_err-chunks : goal.returns-in_err-chunks
unfolding image
returns-in_err-chunks g c = fails _ c.from_residual-in_err-chunks.result c.from_residual-in_err-chunks.ensures.1 (stop _ _ (step _ _ (nothing_given _ _ _) c.in_ok-put_head.ensures) c.in_err-chunks.ensures.puts)

pub returns-in_err-put_u64 : goal.returns-in_err-put_u64
unfolding image
returns-in_err-put_u64 g c = fails _ c.from_residual-in_err-put_u64.result c.from_residual-in_err-put_u64.ensures.1 (stop _ _ (step _ _ (step _ _ (nothing_given _ _ _) c.in_ok-put_head.ensures) c.in_ok-chunks.ensures.puts) (rw c.in_ok-chunks.ensures.chunks at c.in_err-put_u64.ensures))

pub returns-in_err-put_tables_chunks : goal.returns-in_err-put_tables_chunks
unfolding image
returns-in_err-put_tables_chunks g c = fails _ c.from_residual-in_err-put_tables_chunks.result c.from_residual-in_err-put_tables_chunks.ensures.1 (stop _ _ (step _ _ (step _ _ (step _ _ (nothing_given _ _ _) c.in_ok-put_head.ensures) c.in_ok-chunks.ensures.puts) (rw c.in_ok-chunks.ensures.chunks at c.in_ok-put_u64.ensures)) c.in_err-put_tables_chunks.ensures)

pub returns-in_err-put_u64-2 : goal.returns-in_err-put_u64-2
unfolding image
returns-in_err-put_u64-2 g c = fails _ c.from_residual-in_err-put_u64-2.result c.from_residual-in_err-put_u64-2.ensures.1 (stop _ _ (step _ _ (step _ _ (step _ _ (step _ _ (nothing_given _ _ _) c.in_ok-put_head.ensures) c.in_ok-chunks.ensures.puts) (rw c.in_ok-chunks.ensures.chunks at c.in_ok-put_u64.ensures)) c.in_ok-put_tables_chunks.ensures) c.in_err-put_u64-2.ensures)

pub returns : goal.returns
unfolding image
returns g c = last _ _ c.put_objects.result (step _ _ (step _ _ (step _ _ (step _ _ (step _ _ (nothing_given _ _ _) c.in_ok-put_head.ensures) c.in_ok-chunks.ensures.puts) (rw c.in_ok-chunks.ensures.chunks at c.in_ok-put_u64.ensures)) c.in_ok-put_tables_chunks.ensures) c.in_ok-put_u64-2.ensures) c.put_objects.ensures

pub put_tables-requires-clause-tables : goal.put_tables-requires-clause-tables
put_tables-requires-clause-tables g c = numbered_tables None 1 1 c.args.tables.now c.requires.tables

pub put_tables_chunks-requires : goal.put_tables_chunks-requires
put_tables_chunks-requires g c = numbered_tables None 1 1 c.args.tables.now c.requires.tables

pub put_objects-requires : goal.put_objects-requires
put_objects-requires g c = short_objects 0 (tables_chunks c.args.tables.now) c.args.objects.now c.requires.objects
