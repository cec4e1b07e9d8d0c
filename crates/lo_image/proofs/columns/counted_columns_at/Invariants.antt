use Rattle.std.proofs.Common.{[]}
use Rattle.lo_image.specs.Readers.{many}
use Rattle.lo_image.specs.Reading.{column_at, after_column}
use Rattle.lo_image.proofs.Loop.{HasRead}
use Rattle.lo_image.proofs.columns.counted_columns_at.Given as goal

abbrev pub invariant-loop : goal.invariant-loop
invariant-loop l = HasRead _ _ column_at after_column l.columns l.columns l.count l.counter l.rest (many column_at after_column [] l.count l.bytes)
