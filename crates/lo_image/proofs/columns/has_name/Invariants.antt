use Rattle.std.proofs.Common.{◌≡◌, drop}
use Rattle.lo_image.specs.Reading.{has_name}
use Rattle.lo_image.proofs.columns.has_name.Given as goal

abbrev pub invariant-loop-column : goal.invariant-loop-column
invariant-loop-column l = has_name (drop l.column-index l.columns) l.name ≡ has_name l.columns l.name
