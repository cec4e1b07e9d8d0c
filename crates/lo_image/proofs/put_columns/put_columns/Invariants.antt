use Rattle.std.proofs.Common.{drop}
use Rattle.lo_image.specs.Writing.{written, HasLeft}
use Rattle.lo_image.specs.Image.{columns_form}
use Rattle.lo_image.proofs.put_columns.put_columns.Given as goal

abbrev pub invariant-loop-column : goal.invariant-loop-column
invariant-loop-column g l = HasLeft (written g.F.Files l.initial.files l.initial.buffer) (written g.F.Files l.files l.buffer) l.name (columns_form l.columns) (columns_form (drop l.column-index l.columns))
