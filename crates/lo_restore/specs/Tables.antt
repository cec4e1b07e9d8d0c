-- Tables as plain data: what stands in a catalog of them, and the edits that give their rows.
use Rattle.std.specs.Prelude.{ℕ, ◌+◌, List, [], ◌∷◌, map, flat_map}
use Rattle.lo_base.specs.declared.column.Column.{Column}
use Rattle.lo_base.specs.declared.value.Value.{Value}
use Rattle.lo_model.specs.Database.{Table}
use Rattle.lo_model.specs.Edit.{Deed}
use Rattle.lo_model.specs.Opening.{TableRows, table_deeds}
use Rattle.lo_opening.specs.declared.opening.TableData.{TableData}
use Rattle.lo_opening.specs.Opening.{marks_of, rows_outside}

-- a table with its rows as the model has it, and without them
abbrev pub rows_of : TableData → TableRows
rows_of t = record { name = t.name; columns = t.columns; rows = t.rows }

abbrev pub named_of : TableData → Table
named_of t = record { name = t.name; columns = t.columns }

-- the puts of rows of a table, and of all rows of tables, under the plan of each row
abbrev pub row_deeds : (name : List ℕ) → List Column → List (List Value) → List Deed
row_deeds name columns rows = table_deeds marks_of (record { name = name; columns = columns; rows = rows })

abbrev pub deeds_in : List TableData → List Deed
deeds_in list = flat_map (table_deeds marks_of) (map rows_of list)

-- how many values of tables are outside
abbrev pub tables_outside : List TableData → ℕ
tables_outside [] = 0
tables_outside (t ∷ ts) = rows_outside t.columns t.rows + tables_outside ts
