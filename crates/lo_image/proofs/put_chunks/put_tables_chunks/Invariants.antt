use Rattle.std.proofs.Common.{drop}
use Rattle.lo_image.specs.Writing.{written, HasLeft, AreNumberedTables}
use Rattle.lo_image.specs.Image.{tables_chunks_form}
use Rattle.lo_image.proofs.put_chunks.put_tables_chunks.Given as goal

abbrev pub invariant-loop-table : goal.invariant-loop-table
invariant-loop-table g l = record {
  puts : HasLeft (written g.F.Files l.initial.files l.initial.buffer) (written g.F.Files l.files l.buffer) l.name (tables_chunks_form 1 l.tables) (tables_chunks_form l.number (drop l.table-index l.tables));
  tables : AreNumberedTables l.number (drop l.table-index l.tables);
}
