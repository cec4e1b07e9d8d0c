-- One row that is stored anew: its values outside go, all values that its plan moves get new numbers, and it stands for a put.
use Rattle.std.proofs.Common.{◌≡◌, ℕ, ℤ, ◌+◌, ◌<◌, ◌≤◌, Bool, true, false, List, [], ◌∷◌, ◌++◌, length, map, Option, Some, None, refl, ap, sym, subst, ◌∙◌}
use Rattle.std.specs.Prelude.{◌&&◌, Result, Ok, Err, OnOk, slice_get}
use Rattle.std.proofs.lemmas.List.{length-map}
use Rattle.lo_base.specs.declared.column.Column.{Column}
use Rattle.lo_base.specs.declared.value.Cell.{Cell}
use Rattle.lo_base.specs.declared.value.Value.{Value}
use Rattle.lo_model.specs.Edit.{Deed, Put, Edit}
use Rattle.lo_model.specs.Stored.{stored_anew}
use Rattle.toast_plan.specs.Choice.{outside_of}
use Rattle.toast_plan.specs.Columns.{IsTableColumns}
use Rattle.toast_plan.specs.Row.{FitColumns, value_lengths}
use Rattle.toast_plan.proofs.PlanLaws.{length_outside}
use Rattle.toast_plan.proofs.RowLaws.{values_same}
use Rattle.xact_core.specs.Kept.{HoldsWholeViews, current}
use Rattle.xact_core.specs.Transactions.{Transactions, levels_of}
use Rattle.xact_core.proofs.KeptViews.{whole_kept}
use Rattle.row_versions.specs.Count.{Different}
use Rattle.row_versions.specs.Looks.{IsLook}
use Rattle.row_versions.specs.Search.{busy_at}
use Rattle.row_versions.specs.Stack.{Each}
use Rattle.row_versions.specs.Stands.{made_now}
use Rattle.toast_chunks.specs.Calls.{IsFree}
use Rattle.toast_chunks.specs.Values.{next_number}
use Rattle.row_tables.specs.declared.row_key.RowKey.{RowKey}
use Rattle.row_tables.specs.declared.tables.Tables.{Tables}
use Rattle.row_tables.specs.Catalog.{columns_in}
use Rattle.row_tables.specs.Cells.{AreCells, Moved, Told, all_moved, all_settled, cell_lengths, dropped, has_moved, has_number, is_among, stored_told, told_with, values_told, whole_row}
use Rattle.row_tables.specs.Keys.{key_cmp}
use Rattle.row_tables.specs.Laws.{HasOutsideIfThere}
use Rattle.row_tables.specs.Outside.{ChangesRow, FitsLength, HasOutside}
use Rattle.row_tables.specs.Rewriting.{SameKinds, StoresAnew}
use Rattle.row_tables.specs.RowRules.{put_anew}
use Rattle.row_tables.specs.Standing.{HasCells, IsNoKey, IsUnknown, Kept, ReadsAs, StandFor, at_row, cells_at, deed_told}
use Rattle.row_tables.specs.Values.{HasId, cells_of, id_in, id_of}
use Rattle.row_tables.proofs.Changing.{IsChange, moved_below, own_has}
use Rattle.row_tables.proofs.Dropped.{dropped_all, dropped_below, dropped_is, dropped_once}
use Rattle.row_tables.proofs.Inserting.{new_has, put_same}
use Rattle.row_tables.proofs.JudgingRows.{row_cells}
use Rattle.row_tables.proofs.Planned.{MarksBytes, cells_fit, lengths_told, new_each, new_numbers, new_values, plan_marks, stored_new, whole_is}
use Rattle.row_tables.proofs.ReadRows.{has_all_outside}
use Rattle.row_tables.proofs.RowChanges.{erasable, kept_changed}
use Rattle.row_tables.proofs.RowEdited.{HasOwnName, stand_changed}
use Rattle.row_tables.proofs.Settling.{cells_below, moved_from, settled_cells, settled_values, told_moved}
use Rattle.row_tables.proofs.Storages.{fit_alike}

pub on_ok_more : {A E P Q : Type 0} (r : Result A E) → OnOk r P → (P → Q) → OnOk r Q
on_ok_more (Ok a) p more = more p
on_ok_more (Err e) p more = tt

-- the id that values have in front
pub id_there : (i : ℤ) (vs : List Value) → HasId i vs → id_of vs ≡ i
id_there i [] h = absurd h
id_there i (v ∷ vs) h = ap id_in h

-- the cells of a row with all of its values
pub whole_are_cells : (told : ℕ → Told) (key : RowKey) (next : ℕ) (columns : List Column) (row : List Cell) → AreCells told key next columns row → AreCells told key next columns (cells_of (values_told told row))
whole_are_cells told key next columns row are = record {
  each = new_each told key next (values_told told row);
  once = subst Different (sym (new_numbers (values_told told row))) tt;
  fit = subst (FitColumns columns) (sym (new_values told (values_told told row))) are.fit;
  id = subst (HasId key.id) (sym (new_values told (values_told told row))) are.id;
}

and_true : (b : Bool) → (b && true) ≡ b
and_true true = refl
and_true false = refl

gone_had : (row : List Cell) (n : ℕ) → is_among (dropped row []) n ≡ has_number row n
gone_had row n = dropped_is row [] n ∙ and_true (has_number row n)

-- what the change of the row needs

module _ (x : Transactions) (s : ℕ) (some : 0 < length (levels_of x s)) (tables : Tables) (key : RowKey) (kept : Kept x tables) (row : List Cell) (found : cells_at x (current x s) tables key ≡ Some row) where
  look : IsLook x (current x s)
  look = whole_kept x s some

  abbrev old_columns : List Column
  old_columns = columns_in (slice_get tables.catalog key.table)

  abbrev pub values : List Value
  values = values_told kept.told row

  pub are : AreCells kept.told key (next_number tables.chunks) old_columns row
  are = row_cells x (current x s) tables kept look key row found

  pub whole_same : whole_row kept.told row ≡ cells_of values
  whole_same = whole_is kept.told key (next_number tables.chunks) row are.each

  pub all_outside : HasOutside kept.told x (current x s) tables.chunks row
  all_outside = subst (λ (content : Option (List Cell)). HasOutsideIfThere kept.told x (current x s) tables.chunks content) found (has_all_outside x (current x s) tables kept look key)

  pub whole_short : Each FitsLength (whole_row kept.told row)
  whole_short = subst (Each FitsLength) (sym whole_same) (cells_fit kept.told old_columns (cells_of values) (whole_are_cells kept.told key (next_number tables.chunks) old_columns row are).fit)

  pub whole_planned : (columns : List Column) → SameKinds old_columns columns → length (outside_of columns (cell_lengths row)) ≡ length (whole_row kept.told row)
  whole_planned columns same =
      length_outside columns (cell_lengths row)
      ∙ (sym (values_same columns values (fit_alike old_columns columns values same are.fit))
      ∙ (length-map row _ ∙ sym (length-map row _)))

  pub gone_free : busy_at key_cmp x s tables.rows key ≡ None → Each (IsFree x s tables.chunks) (dropped row [])
  gone_free free = dropped_all row [] (IsFree x s tables.chunks) (λ n had. erasable x s tables kept key free n (own_has kept.told key tables (Some row) n are had).home)

  pub gone_given : Each (λ (n : ℕ). n < next_number tables.chunks) (dropped row [])
  gone_given = dropped_below (next_number tables.chunks) row [] (cells_below kept.told key (next_number tables.chunks) row are.each)

  pub gone_once : Different (dropped row [])
  gone_once = dropped_once row [] are.once

-- what it makes

module _ (x : Transactions) (s : ℕ) (one : 1 ≤ s) (some : 0 < length (levels_of x s)) (views : HoldsWholeViews x) (old new : Tables) (key : RowKey) (columns : List Column) (can : IsTableColumns columns) (kinds : SameKinds (columns_in (slice_get old.catalog key.table)) columns) (anew : StoresAnew x s key columns old new) (free : busy_at key_cmp x s old.rows key ≡ None) (kept : Kept x old) where
  abbrev was : List Column
  was = columns_in (slice_get old.catalog key.table)

  abbrev next : ℕ
  next = next_number old.chunks

  abbrev pub put_values : List Value
  put_values = values_told kept.told anew.row

  cells : AreCells kept.told key next was anew.row
  cells = are x s some old key kept anew.row anew.found

  abbrev moved : List Moved
  moved = all_moved anew.outside (cells_of put_values) next

  abbrev put : List Cell
  put = all_settled anew.outside (cells_of put_values) next

  changes : ChangesRow x s key moved (dropped anew.row []) (Some put) old new
  changes = subst (λ (whole : List Cell). ChangesRow x s key (all_moved anew.outside whole next) (dropped anew.row []) (Some (all_settled anew.outside whole next)) old new) (anew.whole_is kept ∙ whole_same x s some old key kept anew.row anew.found) anew.changes

  rise : Each (λ (m : Moved). next ≤ m.number) moved
  rise = moved_from anew.outside (cells_of put_values) next

  none_gone : (n : ℕ) → is_among (dropped anew.row []) n ≡ true → has_moved moved n ≡ false
  none_gone n among = moved_below next n moved rise (own_has kept.told key old (Some anew.row) n cells (sym (gone_had anew.row n) ∙ among)).below

  is_change : IsChange x.clock key kept.told next moved (dropped anew.row []) (cells_at x (current x s) old key) (Some put)
  is_change = subst (λ (content : Option (List Cell)). IsChange x.clock key kept.told next moved (dropped anew.row []) content (Some put)) (sym anew.found) (record {
    new = rise;
    said = told_moved x.clock key anew.outside (cells_of put_values) next kept.told;
    here = λ n now. new_has anew.outside put_values next n ∙ now;
    had = λ n among. sym (gone_had anew.row n) ∙ among;
    lost = λ n among. new_has anew.outside put_values next n ∙ none_gone n among;
    others = λ n stays left. new_has anew.outside put_values next n ∙ (stays ∙ sym (sym (gone_had anew.row n) ∙ left));
  })

  next_is : next_number new.chunks ≡ next + length moved
  next_is = changes.erases.next ∙ changes.moves.next

  columns_new : columns_in (slice_get new.catalog key.table) ≡ was
  columns_new = ap (λ catalog. columns_in (slice_get catalog key.table)) changes.catalog

  good : HasCells (λ n. told_with x.clock key moved kept.told n) key new (Some put)
  good = rw (next_is, columns_new) (settled_cells x.clock key anew.outside (cells_of put_values) next kept.told was (whole_are_cells kept.told key next was anew.row cells))

  pub kept_anew : (IsNoKey old key → ⊥) → Kept x new
  kept_anew there = kept_changed x s one some views old new key kept free moved (dropped anew.row []) (Some put) changes is_change good there

  -- the put that the row stands for

  outside_is : anew.outside ≡ outside_of columns (value_lengths put_values)
  outside_is = anew.planned ∙ ap (outside_of columns) (lengths_told kept.told key next anew.row cells.each)

  values_put : values_told (told_with x.clock key moved kept.told) put ≡ put_values
  values_put = settled_values x.clock key anew.outside (cells_of put_values) next kept.told (subst (Each (λ (n : ℕ). n < next)) (sym (new_numbers put_values)) tt) ∙ new_values kept.told put_values

  stored_put : stored_told (told_with x.clock key moved kept.told) put ≡ stored_anew x.clock (outside_of columns (value_lengths put_values))
  stored_put = stored_new x.clock key anew.outside next kept.told put_values (subst (λ (os : List Bool). MarksBytes os put_values) (sym outside_is) (plan_marks columns put_values can (fit_alike was columns put_values kinds cells.fit))) ∙ ap (stored_anew x.clock) outside_is

  deed_is : (name : List ℕ) → deed_told (told_with x.clock key moved kept.told) name key.id (Some put) ∷ [] ≡ put_anew x.clock name columns put_values ∷ []
  deed_is name = put_same key.id refl values_put stored_put ∙ ap (λ (i : ℤ). Put name i put_values (stored_anew x.clock (outside_of columns (value_lengths put_values))) ∷ []) (sym (id_there key.id put_values cells.id))

  pub stand_anew : (has_name : HasOwnName old key) (ys : List (Edit Deed)) → ReadsAs x old kept ys → ((name : List ℕ) (id : ℤ) → IsUnknown old name → at_row name id ys ≡ []) → (IsNoKey old key → ⊥) → StandFor x new (ys ++ made_now x s (put_anew x.clock has_name.table.name columns put_values) ∷ [])
  stand_anew has_name ys reads known there = subst (λ (deeds : List Deed). StandFor x new (ys ++ map (made_now x s) deeds)) (deed_is has_name.table.name) (stand_changed x s one some views old new key kept free moved (dropped anew.row []) (Some put) changes is_change has_name ys reads known good there)
