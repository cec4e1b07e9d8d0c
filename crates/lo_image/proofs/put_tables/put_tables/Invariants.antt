use Rattle.std.proofs.Common.{◌≡◌, ◌+◌, drop}
use Rattle.lo_opening.specs.Opening.{tables_chunks}
use Rattle.lo_image.specs.Writing.{written, HasLeft, AreNumberedTables}
use Rattle.lo_image.specs.Image.{tables_form}
use Rattle.lo_image.proofs.put_tables.put_tables.Given as goal

abbrev pub invariant-loop-place : goal.invariant-loop-place
invariant-loop-place g l = record {
  puts : HasLeft (written g.F.Files l.initial.files l.initial.buffer) (written g.F.Files l.files l.buffer) l.name (tables_form 1 1 l.tables) (tables_form (l.place + 1) l.next.value (drop l.place l.tables));
  tables : AreNumberedTables l.next.value (drop l.place l.tables);
  chunks : l.next.chunks + tables_chunks (drop l.place l.tables) ≡ tables_chunks l.tables;
}
