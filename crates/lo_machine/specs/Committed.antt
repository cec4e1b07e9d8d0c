-- The committed opening of a state: what an image of it holds. Blocks that are open are not in it.
use Rattle.std.specs.Prelude.{ℕ, ℤ, List, map}
use Rattle.lo_base.specs.declared.value.Value.{Value}
use Rattle.lo_model.specs.Database.{Table}
use Rattle.lo_model.specs.Descriptor.{bytes_or_none}
use Rattle.lo_model.specs.Listing.{oids_in, ids_in, tables_in_order}
use Rattle.lo_model.specs.Object.{object_in}
use Rattle.lo_model.specs.Opening.{Opening, TableRows, ObjectBytes}
use Rattle.lo_model.specs.Row.{row_in}
use Rattle.lo_machine.specs.State.{State, committed_edits}
use Rattle.row_tables.specs.RowRules.{values_in}

abbrev pub committed_object : State → (oid : ℕ) → ObjectBytes
committed_object st o = record { oid = o; bytes = bytes_or_none (object_in o (committed_edits st)) }

abbrev pub committed_row : State → (table : List ℕ) → (id : ℤ) → List Value
committed_row st table i = values_in (row_in table i (committed_edits st))

abbrev pub committed_table : State → Table → TableRows
committed_table st t =
    record { name = t.name; columns = t.columns; rows = map (committed_row st t.name) (ids_in t.name (committed_edits st)) }

-- the number of blocks is the one that was given
abbrev pub committed_opening : (blocks : ℕ) → State → Opening
committed_opening blocks st = record {
  blocks = blocks;
  counter = st.database.counter;
  tables = map (committed_table st) (tables_in_order st.database.tables);
  objects = map (committed_object st) (oids_in (committed_edits st));
}
