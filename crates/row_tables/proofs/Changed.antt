-- Cells of a row with some columns changed, and with some values brought in.
use Rattle.std.proofs.Common.{ℕ, ℤ, suc, ◌≡◌, ◌≢◌, Bool, true, false, List, [], ◌∷◌, length, map, Option, Some, None, refl, ap, sym, subst, ◌∙◌, arith}
use Rattle.std.specs.Prelude.{codes, if◌then◌else◌, is_some}
use Rattle.std.proofs.lemmas.List.{length-map}
use Rattle.lo_base.specs.declared.column.Column.{Column}
use Rattle.lo_base.specs.declared.value.Value.{Value}
use Rattle.lo_base.specs.declared.value.Value.TheVariants as values
use Rattle.lo_base.specs.declared.value.Cell.{Cell}
use Rattle.lo_base.specs.declared.value.Cell.TheVariants as cells
use Rattle.lo_model.specs.Stored.{kept_outside, moved_out, stored_after_update}
use Rattle.row_versions.specs.Count.{Different}
use Rattle.row_versions.specs.Stack.{Each}
use Rattle.toast_plan.specs.Columns.{IsTableColumns, StartsWithId}
use Rattle.toast_plan.specs.Choice.{outside_of}
use Rattle.toast_plan.specs.Row.{FitColumns, FitsType, value_lengths}
use Rattle.toast_plan.proofs.PlanLaws.{length_outside}
use Rattle.toast_plan.proofs.RowLaws.{values_same}
use Rattle.row_tables.specs.declared.change.Change.{Change}
use Rattle.row_tables.specs.declared.row_key.RowKey.{RowKey}
use Rattle.row_tables.specs.Calls.{ChangesFit, FitRows, FitsIfChanged}
use Rattle.row_tables.specs.Cells.{Told, AreCells, IsCell, all_brought, all_moved, all_settled, brought, cell_lengths, changed_cell, changed_cells, has_number, moved_at, moved_out_of, next_after, number_of, numbers_in, settled, stored_told, told_with, value_told, values_told}
use Rattle.row_tables.specs.RowRules.{is_named_by}
use Rattle.row_tables.specs.Values.{HasId, cell_of, change_of, changed_value, changed_values}
use Rattle.row_tables.proofs.EachOf.{among_each, among_of, cons_same, each_append, each_left, each_right, pairwise_across, pairwise_join, pairwise_right}
use Rattle.row_tables.proofs.Planned.{MarkBytes, MarksBytes, lengths_told, new_cell, new_value, plan_marks, stored_value}
use Rattle.row_tables.proofs.Settling.{IsToldAlike, IsToldNow, cells_below, number_once, told_alike, told_moved}

-- changed cells

changed_cell_told : (told : ℕ → Told) (change : Option Change) (c : Cell) → value_told told (changed_cell change c) ≡ changed_value change (value_told told c)
changed_cell_told told None c = refl
changed_cell_told told (Some change) c = new_value told change.value

pub changed_told : (told : ℕ → Told) (changes : List Change) (columns : List Column) (row : List Cell) → values_told told (changed_cells changes columns row) ≡ changed_values changes columns (values_told told row)
changed_told told changes [] row = refl
changed_told told changes (k ∷ ks) [] = refl
changed_told told changes (k ∷ ks) (c ∷ cs) = cons_same (value_told told (changed_cell (change_of k.name changes) c)) (changed_value (change_of k.name changes) (value_told told c)) (values_told told (changed_cells changes ks cs)) (changed_values changes ks (values_told told cs)) (changed_cell_told told (change_of k.name changes) c) (changed_told told changes ks cs)

-- what holds of the numbers of a row holds of those that are left

changed_cell_each : (P : ℕ → Type 0) (change : Option Change) (c : Cell) → Each P (number_of c) → Each P (number_of (changed_cell change c))
changed_cell_each P None c h = h
changed_cell_each P (Some change) c h = none change.value
  where
    none : (v : Value) → Each P (number_of (cell_of v))
    none values.Null = tt
    none (values.Int z) = tt
    none (values.Oid n) = tt
    none (values.Bytes bytes) = tt

pub changed_each : (P : ℕ → Type 0) (changes : List Change) (columns : List Column) (row : List Cell) → Each P (numbers_in row) → Each P (numbers_in (changed_cells changes columns row))
changed_each P changes [] row h = tt
changed_each P changes (k ∷ ks) [] h = tt
changed_each P changes (k ∷ ks) (c ∷ cs) h = each_append P (number_of (changed_cell (change_of k.name changes) c)) (numbers_in (changed_cells changes ks cs)) (changed_cell_each P (change_of k.name changes) c (each_left P (number_of c) (numbers_in cs) h)) (changed_each P changes ks cs (each_right P (number_of c) (numbers_in cs) h))

pub changed_has : (changes : List Change) (columns : List Column) (row : List Cell) (n : ℕ) → has_number (changed_cells changes columns row) n ≡ true → has_number row n ≡ true
changed_has changes columns row n h = among_of (λ (m : ℕ). has_number row m ≡ true) (numbers_in (changed_cells changes columns row)) n (changed_each (λ (m : ℕ). has_number row m ≡ true) changes columns row (among_each (λ (m : ℕ). has_number row m ≡ true) (numbers_in row) (λ m there. there))) h

changed_once : (changes : List Change) (columns : List Column) (row : List Cell) → Different (numbers_in row) → Different (numbers_in (changed_cells changes columns row))
changed_once changes [] row once = tt
changed_once changes (k ∷ ks) [] once = tt
changed_once changes (k ∷ ks) (c ∷ cs) once =
    pairwise_join (λ (a b : ℕ). a ≢ b) (number_of (changed_cell (change_of k.name changes) c)) (numbers_in (changed_cells changes ks cs))
    (number_once (changed_cell (change_of k.name changes) c))
    (changed_cell_each (λ (x : ℕ). Each (λ (m : ℕ). x ≢ m) (numbers_in (changed_cells changes ks cs))) (change_of k.name changes) c (across (number_of c) (pairwise_across (λ (a b : ℕ). a ≢ b) (number_of c) (numbers_in cs) once)))
    (changed_once changes ks cs (pairwise_right (λ (a b : ℕ). a ≢ b) (number_of c) (numbers_in cs) once))
  where
    across : (xs : List ℕ) → Each (λ (x : ℕ). Each (λ (m : ℕ). x ≢ m) (numbers_in cs)) xs → Each (λ (x : ℕ). Each (λ (m : ℕ). x ≢ m) (numbers_in (changed_cells changes ks cs))) xs
    across [] h = tt
    across (x ∷ xs) h = (changed_each (λ (m : ℕ). x ≢ m) changes ks cs h.0, across xs h.1)

changed_is_each : (told : ℕ → Told) (key : RowKey) (next : ℕ) (columns : List Column) (changes : List Change) (row : List Cell) → Each (IsCell told key next) row → Each (IsCell told key next) (changed_cells changes columns row)
changed_is_each told key next [] changes row h = tt
changed_is_each told key next (k ∷ ks) changes [] h = tt
changed_is_each told key next (k ∷ ks) changes (c ∷ cs) h = (at (change_of k.name changes), changed_is_each told key next ks changes cs h.1)
  where
    at : (change : Option Change) → IsCell told key next (changed_cell change c)
    at None = h.0
    at (Some change) = new_cell told key next change.value

changed_fit : (changes : List Change) (columns : List Column) (vs : List Value) → ChangesFit changes columns → FitColumns columns vs → FitColumns columns (changed_values changes columns vs)
changed_fit changes [] vs fits h = tt
changed_fit changes (k ∷ ks) [] fits h = absurd h
changed_fit changes (k ∷ ks) (v ∷ vs) fits h = (at (change_of k.name changes) fits.0, changed_fit changes ks vs fits.1 h.1)
  where
    at : (change : Option Change) → FitsIfChanged k change → FitsType k.kind (changed_value change v)
    at None f = h.0
    at (Some change) f = f

changed_id : (id : ℤ) (changes : List Change) (columns : List Column) (vs : List Value) → StartsWithId columns → change_of (codes "id") changes ≡ None → HasId id vs → HasId id (changed_values changes columns vs)
changed_id id changes [] vs first none h = absurd first
changed_id id changes (k ∷ ks) [] first none h = absurd h
changed_id id changes (k ∷ ks) (v ∷ vs) first none h = ap (λ (name : List ℕ). changed_value (change_of name changes) v) first.0 ∙ ap (λ (change : Option Change). changed_value change v) none ∙ h

pub changed_is_cells : (told : ℕ → Told) (key : RowKey) (next : ℕ) (columns : List Column) (changes : List Change) (row : List Cell) → IsTableColumns columns → FitRows changes columns → AreCells told key next columns row → AreCells told key next columns (changed_cells changes columns row)
changed_is_cells told key next columns changes row are fits h = record {
  each = changed_is_each told key next columns changes row h.each;
  once = changed_once changes columns row h.once;
  fit = subst (FitColumns columns) (sym (changed_told told changes columns row)) (changed_fit changes columns (values_told told row) fits.fit h.fit);
  id = subst (HasId key.id) (sym (changed_told told changes columns row)) (changed_id key.id changes columns (values_told told row) are.id_first fits.id h.id);
}

-- the plan for changed cells is the one for the changed values

pub changed_lengths : (told : ℕ → Told) (key : RowKey) (next : ℕ) (columns : List Column) (changes : List Change) (row : List Cell) → IsTableColumns columns → FitRows changes columns → AreCells told key next columns row → cell_lengths (changed_cells changes columns row) ≡ value_lengths (changed_values changes columns (values_told told row))
changed_lengths told key next columns changes row are fits h = lengths_told told key next (changed_cells changes columns row) (changed_is_cells told key next columns changes row are fits h).each ∙ ap value_lengths (changed_told told changes columns row)

pub changed_marks : (told : ℕ → Told) (key : RowKey) (next : ℕ) (columns : List Column) (changes : List Change) (row : List Cell) → IsTableColumns columns → FitRows changes columns → AreCells told key next columns row → MarksBytes (outside_of columns (cell_lengths (changed_cells changes columns row))) (changed_values changes columns (values_told told row))
changed_marks told key next columns changes row are fits h = subst (λ (ns : List (Option ℕ)). MarksBytes (outside_of columns ns) (changed_values changes columns (values_told told row))) (sym (changed_lengths told key next columns changes row are fits h)) (plan_marks columns (changed_values changes columns (values_told told row)) are (changed_fit changes columns (values_told told row) fits.fit h.fit))

-- a row has one cell for each column, and a plan one mark for each cell

pub cells_same : (told : ℕ → Told) (key : RowKey) (next : ℕ) (columns : List Column) (row : List Cell) → AreCells told key next columns row → length row ≡ length columns
cells_same told key next columns row h = sym (length-map row (value_told told)) ∙ values_same columns (values_told told row) h.fit

pub plan_same : (told : ℕ → Told) (key : RowKey) (next : ℕ) (columns : List Column) (row : List Cell) (ns : List (Option ℕ)) → AreCells told key next columns row → length (outside_of columns ns) ≡ length row
plan_same told key next columns row ns h = length_outside columns ns ∙ sym (cells_same told key next columns row h)

-- values that are brought in

pub brought_value : (told : ℕ → Told) (o : Bool) (c : Cell) → value_told told (brought told o c) ≡ value_told told c
brought_value told true c = refl
brought_value told false cells.Null = refl
brought_value told false (cells.Int z) = refl
brought_value told false (cells.Oid n) = refl
brought_value told false (cells.Inline bytes) = refl
brought_value told false (cells.Text bytes) = refl
brought_value told false (cells.Outside l n) = refl

pub brought_values : (told : ℕ → Told) (os : List Bool) (row : List Cell) → values_told told (all_brought told os row) ≡ values_told told row
brought_values told [] row = refl
brought_values told (o ∷ os) [] = refl
brought_values told (o ∷ os) (c ∷ cs) = cons_same (value_told told (brought told o c)) (value_told told c) (values_told told (all_brought told os cs)) (values_told told cs) (brought_value told o c) (brought_values told os cs)

pub brought_lengths : (told : ℕ → Told) (os : List Bool) (row : List Cell) → length os ≡ length row → length (all_brought told os row) ≡ length row
brought_lengths told [] row same = refl
brought_lengths told (o ∷ os) [] same = refl
brought_lengths told (o ∷ os) (c ∷ cs) same = ap suc (brought_lengths told os cs (omega arith))

brought_cell_each : (P : ℕ → Type 0) (told : ℕ → Told) (o : Bool) (c : Cell) → Each P (number_of c) → Each P (number_of (brought told o c))
brought_cell_each P told true c h = h
brought_cell_each P told false cells.Null h = tt
brought_cell_each P told false (cells.Int z) h = tt
brought_cell_each P told false (cells.Oid n) h = tt
brought_cell_each P told false (cells.Inline bytes) h = tt
brought_cell_each P told false (cells.Text bytes) h = tt
brought_cell_each P told false (cells.Outside l n) h = tt

pub brought_each : (P : ℕ → Type 0) (told : ℕ → Told) (os : List Bool) (row : List Cell) → Each P (numbers_in row) → Each P (numbers_in (all_brought told os row))
brought_each P told [] row h = h
brought_each P told (o ∷ os) [] h = tt
brought_each P told (o ∷ os) (c ∷ cs) h = each_append P (number_of (brought told o c)) (numbers_in (all_brought told os cs)) (brought_cell_each P told o c (each_left P (number_of c) (numbers_in cs) h)) (brought_each P told os cs (each_right P (number_of c) (numbers_in cs) h))

pub brought_has : (told : ℕ → Told) (os : List Bool) (row : List Cell) (n : ℕ) → has_number (all_brought told os row) n ≡ true → has_number row n ≡ true
brought_has told os row n h = among_of (λ (m : ℕ). has_number row m ≡ true) (numbers_in (all_brought told os row)) n (brought_each (λ (m : ℕ). has_number row m ≡ true) told os row (among_each (λ (m : ℕ). has_number row m ≡ true) (numbers_in row) (λ m there. there))) h

brought_once : (told : ℕ → Told) (os : List Bool) (row : List Cell) → Different (numbers_in row) → Different (numbers_in (all_brought told os row))
brought_once told [] row once = once
brought_once told (o ∷ os) [] once = tt
brought_once told (o ∷ os) (c ∷ cs) once =
    pairwise_join (λ (a b : ℕ). a ≢ b) (number_of (brought told o c)) (numbers_in (all_brought told os cs))
    (number_once (brought told o c))
    (brought_cell_each (λ (x : ℕ). Each (λ (m : ℕ). x ≢ m) (numbers_in (all_brought told os cs))) told o c (across (number_of c) (pairwise_across (λ (a b : ℕ). a ≢ b) (number_of c) (numbers_in cs) once)))
    (brought_once told os cs (pairwise_right (λ (a b : ℕ). a ≢ b) (number_of c) (numbers_in cs) once))
  where
    across : (xs : List ℕ) → Each (λ (x : ℕ). Each (λ (m : ℕ). x ≢ m) (numbers_in cs)) xs → Each (λ (x : ℕ). Each (λ (m : ℕ). x ≢ m) (numbers_in (all_brought told os cs))) xs
    across [] h = tt
    across (x ∷ xs) h = (brought_each (λ (m : ℕ). x ≢ m) told os cs h.0, across xs h.1)

brought_cell : (told : ℕ → Told) (key : RowKey) (next : ℕ) (o : Bool) (c : Cell) → IsCell told key next c → IsCell told key next (brought told o c)
brought_cell told key next true c h = h
brought_cell told key next false cells.Null h = tt
brought_cell told key next false (cells.Int z) h = tt
brought_cell told key next false (cells.Oid n) h = tt
brought_cell told key next false (cells.Inline bytes) h = tt
brought_cell told key next false (cells.Text bytes) h = h
brought_cell told key next false (cells.Outside l n) h = tt

brought_is_each : (told : ℕ → Told) (key : RowKey) (next : ℕ) (os : List Bool) (row : List Cell) → Each (IsCell told key next) row → Each (IsCell told key next) (all_brought told os row)
brought_is_each told key next [] row h = h
brought_is_each told key next (o ∷ os) [] h = tt
brought_is_each told key next (o ∷ os) (c ∷ cs) h = (brought_cell told key next o c h.0, brought_is_each told key next os cs h.1)

pub brought_cells : (told : ℕ → Told) (key : RowKey) (next : ℕ) (columns : List Column) (os : List Bool) (row : List Cell) → length os ≡ length row → AreCells told key next columns row → AreCells told key next columns (all_brought told os row)
brought_cells told key next columns os row same h = record {
  each = brought_is_each told key next os row h.each;
  once = brought_once told os row h.once;
  fit = subst (FitColumns columns) (sym (brought_values told os row)) h.fit;
  id = subst (HasId key.id) (sym (brought_values told os row)) h.id;
}

-- when the values of a changed row were moved out

stored_kept : (new told : ℕ → Told) (clock : ℕ) (key : RowKey) (next : ℕ) (o : Bool) (c : Cell) (n : ℕ) → IsCell told key next c → Each (IsToldAlike new told) (number_of c) → MarkBytes o (value_told told c) → Each (IsToldNow clock key new) (moved_out_of o (brought told o c) n) → moved_at new (settled o (brought told o c) n) ≡ kept_outside clock o (moved_at told c)
stored_kept new told clock key next false cells.Null n is h mark k = refl
stored_kept new told clock key next false (cells.Int z) n is h mark k = refl
stored_kept new told clock key next false (cells.Oid i) n is h mark k = refl
stored_kept new told clock key next false (cells.Inline bytes) n is h mark k = refl
stored_kept new told clock key next false (cells.Text bytes) n is h mark k = refl
stored_kept new told clock key next false (cells.Outside l m) n is h mark k = refl
stored_kept new told clock key next true cells.Null n is h mark k = absurd mark
stored_kept new told clock key next true (cells.Int z) n is h mark k = absurd mark
stored_kept new told clock key next true (cells.Oid i) n is h mark k = absurd mark
stored_kept new told clock key next true (cells.Inline bytes) n is h mark k = ap (λ (t : Told). Some t.moved) k.0
stored_kept new told clock key next true (cells.Text bytes) n is h mark k = absurd is
stored_kept new told clock key next true (cells.Outside l m) n is h mark k = ap (λ (t : Told). Some t.moved) h.0

brought_new : (told : ℕ → Told) (o : Bool) (v : Value) → brought told o (cell_of v) ≡ cell_of v
brought_new told true v = refl
brought_new told false values.Null = refl
brought_new told false (values.Int z) = refl
brought_new told false (values.Oid n) = refl
brought_new told false (values.Bytes bytes) = refl

stored_cell : (new told : ℕ → Told) (clock : ℕ) (key : RowKey) (next : ℕ) (o : Bool) (change : Option Change) (c : Cell) (n : ℕ) → IsCell told key next c → Each (IsToldAlike new told) (number_of c) → MarkBytes o (changed_value change (value_told told c)) → Each (IsToldNow clock key new) (moved_out_of o (brought told o (changed_cell change c)) n) → moved_at new (settled o (brought told o (changed_cell change c)) n) ≡ (if is_some change then moved_out clock o else kept_outside clock o (moved_at told c))
stored_cell new told clock key next o None c n is h mark k = stored_kept new told clock key next o c n is h mark k
stored_cell new told clock key next o (Some change) c n is h mark k =
    let same : brought told o (cell_of change.value) ≡ cell_of change.value = brought_new told o change.value in
    ap (λ (d : Cell). moved_at new (settled o d n)) same ∙ stored_value new clock key o change.value n mark (subst (λ (d : Cell). Each (IsToldNow clock key new) (moved_out_of o d n)) same k)

stored_cells : (new told : ℕ → Told) (clock : ℕ) (key : RowKey) (next : ℕ) (columns : List Column) (changes : List Change) (os : List Bool) (old : List Cell) (n : ℕ) → Each (IsCell told key next) old → Each (IsToldAlike new told) (numbers_in old) → MarksBytes os (changed_values changes columns (values_told told old)) → Each (IsToldNow clock key new) (all_moved os (all_brought told os (changed_cells changes columns old)) n) → stored_told new (all_settled os (all_brought told os (changed_cells changes columns old)) n) ≡ stored_after_update clock os (map (is_named_by changes) columns) (stored_told told old)
stored_cells new told clock key next [] changes [] old n is h marks k = refl
stored_cells new told clock key next (c ∷ cs) changes [] [] n is h marks k = refl
stored_cells new told clock key next (c ∷ cs) changes [] (x ∷ xs) n is h marks k = absurd marks
stored_cells new told clock key next [] changes (o ∷ os) old n is h marks k = absurd marks
stored_cells new told clock key next (c ∷ cs) changes (o ∷ os) [] n is h marks k = absurd marks
stored_cells new told clock key next (c ∷ cs) changes (o ∷ os) (x ∷ xs) n is h marks k =
    let first : Cell = brought told o (changed_cell (change_of c.name changes) x) in
    let rest : List Cell = all_brought told os (changed_cells changes cs xs) in
    cons_same (moved_at new (settled o first n)) (if is_some (change_of c.name changes) then moved_out clock o else kept_outside clock o (moved_at told x)) (stored_told new (all_settled os rest (next_after o first n))) (stored_after_update clock os (map (is_named_by changes) cs) (stored_told told xs))
    (stored_cell new told clock key next o (change_of c.name changes) x n is.0 (each_left (IsToldAlike new told) (number_of x) (numbers_in xs) h) marks.0 (each_left (IsToldNow clock key new) (moved_out_of o first n) (all_moved os rest (next_after o first n)) k))
    (stored_cells new told clock key next cs changes os xs (next_after o first n) is.1 (each_right (IsToldAlike new told) (number_of x) (numbers_in xs) h) marks.1 (each_right (IsToldNow clock key new) (moved_out_of o first n) (all_moved os rest (next_after o first n)) k))

pub stored_changed : (clock : ℕ) (key : RowKey) (told : ℕ → Told) (next : ℕ) (columns : List Column) (changes : List Change) (os : List Bool) (old : List Cell) → AreCells told key next columns old → MarksBytes os (changed_values changes columns (values_told told old)) → stored_told (told_with clock key (all_moved os (all_brought told os (changed_cells changes columns old)) next) told) (all_settled os (all_brought told os (changed_cells changes columns old)) next) ≡ stored_after_update clock os (map (is_named_by changes) columns) (stored_told told old)
stored_changed clock key told next columns changes os old h marks =
    let row : List Cell = all_brought told os (changed_cells changes columns old) in
    stored_cells (told_with clock key (all_moved os row next) told) told clock key next columns changes os old next h.each (told_alike clock key os row next told (numbers_in old) (cells_below told key next old h.each)) marks (told_moved clock key os row next told)
