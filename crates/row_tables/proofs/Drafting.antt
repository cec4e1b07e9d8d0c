-- The draft of an update: its cells fit their columns, and their values outside are there to be brought in.
use Rattle.std.proofs.Common.{◌≡◌, ℕ, ◌<◌, List, [], ◌∷◌, length, take, Bool, Option, Some, None, ap, subst, ◌∙◌}
use Rattle.lo_base.specs.declared.column.Column.{Column}
use Rattle.lo_base.specs.declared.value.Cell.{Cell}
use Rattle.lo_base.specs.declared.value.Value.{Value}
use Rattle.lo_base.specs.declared.value.Value.TheVariants as values
use Rattle.toast_plan.specs.Choice.{IsPlanFor}
use Rattle.toast_plan.specs.Columns.{AreLengths, IsTableColumns}
use Rattle.toast_plan.specs.declared.layout.Plan.{Plan}
use Rattle.xact_core.specs.declared.snapshot.Snapshot.{Snapshot}
use Rattle.xact_core.specs.Kept.{current}
use Rattle.xact_core.specs.Transactions.{Transactions, levels_of}
use Rattle.xact_core.proofs.KeptViews.{whole_kept}
use Rattle.row_versions.specs.Looks.{IsLook}
use Rattle.toast_chunks.specs.declared.chunks.Chunks.{Chunks}
use Rattle.toast_chunks.specs.Values.{next_number}
use Rattle.row_tables.specs.declared.change.Change.{Change}
use Rattle.row_tables.specs.declared.row_key.RowKey.{RowKey}
use Rattle.row_tables.specs.declared.tables.Tables.{Tables}
use Rattle.row_tables.specs.Calls.{FitRows}
use Rattle.row_tables.specs.Cells.{AreCells, Told, cell_lengths, changed_cell, changed_cells}
use Rattle.row_tables.specs.Drafts.{row_columns}
use Rattle.row_tables.specs.Laws.{HasOutsideIfThere}
use Rattle.row_tables.specs.Outside.{HasItsValue, HasOutside}
use Rattle.row_tables.specs.Standing.{HasCells, Kept, cells_at}
use Rattle.row_tables.specs.Values.{cell_of, change_of}
use Rattle.row_tables.proofs.Changed.{cells_same, changed_is_cells, plan_same}
use Rattle.row_tables.proofs.Planned.{lengths_fit}
use Rattle.row_tables.proofs.ReadRows.{has_all_outside, has_cells}

module _ (told : ℕ → Told) (x : Transactions) (v : Snapshot) (chunks : Chunks) where
  new_value : (value : Value) → HasItsValue told x v chunks (cell_of value)
  new_value values.Null = tt
  new_value (values.Int n) = tt
  new_value (values.Oid n) = tt
  new_value (values.Bytes bytes) = tt

  one_changed : (change : Option Change) (cell : Cell) → HasItsValue told x v chunks cell → HasItsValue told x v chunks (changed_cell change cell)
  one_changed None cell has = has
  one_changed (Some c) cell has = new_value c.value

  pub changed_outside : (changes : List Change) (columns : List Column) (row : List Cell) → HasOutside told x v chunks row → HasOutside told x v chunks (changed_cells changes columns row)
  changed_outside changes [] row has = tt
  changed_outside changes (c ∷ cs) [] has = tt
  changed_outside changes (c ∷ cs) (cell ∷ row) has = (one_changed (change_of c.name changes) cell has.0, changed_outside changes cs row has.1)

module _ (x : Transactions) (s : ℕ) (some : 0 < length (levels_of x s)) (tables : Tables) (key : RowKey) (kept : Kept x tables) (changes : List Change) (can : IsTableColumns (row_columns tables key)) (fit : FitRows changes (row_columns tables key)) (old : List Cell) (found : cells_at x (current x s) tables key ≡ Some old) where
  look : IsLook x (current x s)
  look = whole_kept x s some

  abbrev pub changed : List Cell
  changed = changed_cells changes (row_columns tables key) old

  old_are : AreCells kept.told key (next_number tables.chunks) (row_columns tables key) old
  old_are = subst (λ (content : Option (List Cell)). HasCells kept.told key tables content) found (has_cells x (current x s) tables kept look key)

  changed_are : AreCells kept.told key (next_number tables.chunks) (row_columns tables key) changed
  changed_are = changed_is_cells kept.told key (next_number tables.chunks) (row_columns tables key) changes old can fit old_are

  pub old_same : length old ≡ length (row_columns tables key)
  old_same = cells_same kept.told key (next_number tables.chunks) (row_columns tables key) old old_are

  pub changed_fit : AreLengths (row_columns tables key) (cell_lengths changed)
  changed_fit = lengths_fit kept.told key (next_number tables.chunks) (row_columns tables key) changed changed_are

  pub planned_same : (plan : Plan) → IsPlanFor (row_columns tables key) (cell_lengths changed) plan → length (take (length (row_columns tables key)) plan.outside) ≡ length changed
  planned_same plan planned = ap (λ (bs : List Bool). length bs) planned.outside ∙ plan_same kept.told key (next_number tables.chunks) (row_columns tables key) changed (cell_lengths changed) changed_are

  pub all_there : HasOutside kept.told x (current x s) tables.chunks changed
  all_there = changed_outside kept.told x (current x s) tables.chunks changes (row_columns tables key) old (subst (λ (content : Option (List Cell)). HasOutsideIfThere kept.told x (current x s) tables.chunks content) found (has_all_outside x (current x s) tables kept look key))
