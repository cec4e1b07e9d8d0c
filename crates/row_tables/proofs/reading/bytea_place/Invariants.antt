use Rattle.row_tables.proofs.ColumnPlaces.{LooksFrom}
use Rattle.row_tables.proofs.reading.bytea_place.Given as goal

abbrev pub invariant-loop-place : goal.invariant-loop-place
invariant-loop-place l = LooksFrom l.columns l.name l.place
