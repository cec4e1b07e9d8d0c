use Rattle.std.proofs.Common.{◌+◌, length}
use Rattle.lo_image.specs.Reading.{table_at, after_table, tables_at}
use Rattle.lo_image.specs.Tables.{place_of, last_name}
use Rattle.lo_image.proofs.Loop.{HasRead}
use Rattle.lo_image.proofs.tables.tables_at.Given as goal

abbrev pub invariant-loop : goal.invariant-loop
invariant-loop l = HasRead _ _ table_at after_table (place_of (last_name l.tables) (length l.tables + 1) l.value) l.tables l.count l.counter l.rest (tables_at l.count l.bytes)
