use Rattle.std.specs.Prelude.{◌≡◌, take}
use Rattle.row_tables.specs.Rewriting.{StoresRows}
use Rattle.row_tables.proofs.tables.Tables.store_rows.Given as goal

abbrev pub invariant-loop-id : goal.invariant-loop-id
invariant-loop-id l = (l.core ≡ l.fn.core) × StoresRows l.fn.core.xacts l.s l.number l.columns (take l.id-index l.ids) l.fn.self l.self
