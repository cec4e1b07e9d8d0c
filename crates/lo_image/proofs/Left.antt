-- What is left to be written behind one item more.
use Rattle.std.proofs.Common.{◌≡◌, ℕ, suc, ◌+◌, ◌-◌, ◌≤◌, ◌<◌, ◌^◌, Bool, true, false, List, [], ◌∷◌, ◌++◌, length, take, drop, get_or, min, refl, sym, ap, subst, ◌∙◌, add-one, inl, inr, arith}
use Rattle.std.specs.Int.{from_bool}
use Rattle.std.proofs.lemmas.Bool.{cases_eq}
use Rattle.std.proofs.Math.Seq.{drop-cons}
use Rattle.lo_base.specs.declared.column.Column.{Column}
use Rattle.lo_base.specs.declared.value.Value.{Value}
use Rattle.lo_base.specs.declared.value.Value.TheVariants as values
use Rattle.lo_model.specs.Held.{chunk_bytes}
use Rattle.toast_plan.specs.Row.{count_outside, field_of, fields_of, row_form, planned_fields}
use Rattle.lo_opening.specs.declared.opening.TableData.{TableData}
use Rattle.lo_opening.specs.Opening.{marks_of, row_outside, rows_outside, marked_chunks, rows_chunks, tables_chunks}
use Rattle.lo_image.specs.Image.{rows_form, table_form, tables_form, chunk_form, chunks_form, marked_form, next_number, row_chunks_form, rows_chunks_form, tables_chunks_form}
use Rattle.lo_image.specs.Writing.{IsNumberedRow, AreNumberedRows, IsNumberedTable, AreNumberedTables}
use Rattle.lo_image.proofs.Loop.{item_at, nothing_left}
use Rattle.std.proofs.lemmas.List.{take-append-drop, length-drop, append-nil}

-- ---- chunks of a value

no_more : (n : ℕ) (xs : List ℕ) → length xs ≤ n → drop n xs ≡ []
no_more n xs le = nothing_left (drop n xs) (omega (arith, length-drop n xs))

whole : (n : ℕ) (xs : List ℕ) → length xs ≤ n → take n xs ≡ xs
whole n xs le = sym (append-nil (take n xs)) ∙ ap (λ (x : List ℕ). take n xs ++ x) (sym (no_more n xs le)) ∙ take-append-drop n xs

take_least : (n limit : ℕ) (xs : List ℕ) → n ≡ min (length xs) limit → take n xs ≡ take limit xs
take_least n limit xs is =
    elim (cases_eq n limit) [
      | inl same ↦ ap (λ (k : ℕ). take k xs) same
      | inr other ↦ whole n xs (omega arith) ∙ sym (whole limit xs (omega arith))
    ]

drop_least : (n limit : ℕ) (xs : List ℕ) → n ≡ min (length xs) limit → drop n xs ≡ drop limit xs
drop_least n limit xs is =
    elim (cases_eq n limit) [
      | inl same ↦ ap (λ (k : ℕ). drop k xs) same
      | inr other ↦ no_more n xs (omega arith) ∙ sym (no_more limit xs (omega arith))
    ]

pub chunk_left : (value count number n : ℕ) (rest chunk behind : List ℕ) → number < count → n ≡ min (length rest) 1996 → chunk ≡ take n rest → behind ≡ drop n rest
    → chunks_form value (count - number) number rest ≡ chunk_form value number chunk ++ chunks_form value (count - (number + 1)) (number + 1) behind
chunk_left value count number n rest chunk behind lt is front back =
    let one : count - number ≡ suc (count - (number + 1)) = omega arith in
    let c : chunk ≡ take chunk_bytes rest = front ∙ take_least n 1996 rest is in
    let b : behind ≡ drop chunk_bytes rest = back ∙ drop_least n 1996 rest is in
    rw (one, c, b) refl

-- ---- values of a row

marks_at : (os : List Bool) (i : ℕ) → i < length os → drop i os ≡ get_or os i false ∷ drop (i + 1) os
marks_at os i lt = rw add-one (drop-cons os i false lt)

numbered : (number next : ℕ) (o : Bool) → next ≡ from_bool o → next_number number o ≡ number + next
numbered number next true is = ap (λ (x : ℕ). number + x) (sym is)
numbered number next false is = rw is (omega arith)

pub row_left : (number next : ℕ) (vs : List Value) (os : List Bool) (i : ℕ) (v : Value) → v ≡ get_or vs i v → i < length vs → i < length os → next ≡ from_bool (get_or os i false)
    → row_chunks_form number (drop i vs) (drop i os) ≡ marked_form number v (get_or os i false) ++ row_chunks_form (number + next) (drop (i + 1) vs) (drop (i + 1) os)
row_left number next vs os i v is lt lo step =
    rw (item_at vs i v is lt, marks_at os i lo, ← numbered number next (get_or os i false) step) refl

-- ---- rows

pub rows_at : (columns : List Column) (value : ℕ) (rows : List (List Value)) (i : ℕ) (vs : List Value) → vs ≡ get_or rows i vs → i < length rows → AreNumberedRows columns value (drop i rows)
    → IsNumberedRow columns value vs × AreNumberedRows columns (value + row_outside columns vs) (drop (i + 1) rows)
rows_at columns value rows i vs is lt h = subst (AreNumberedRows columns value) (item_at rows i vs is lt) h

pub outside_left : (columns : List Column) (rows : List (List Value)) (i : ℕ) (vs : List Value) → vs ≡ get_or rows i vs → i < length rows → rows_outside columns (drop i rows) ≡ row_outside columns vs + rows_outside columns (drop (i + 1) rows)
outside_left columns rows i vs is lt = ap (rows_outside columns) (item_at rows i vs is lt)

pub chunks_left : (columns : List Column) (rows : List (List Value)) (i : ℕ) (vs : List Value) → vs ≡ get_or rows i vs → i < length rows → rows_chunks columns (drop i rows) ≡ marked_chunks vs (marks_of columns vs) + rows_chunks columns (drop (i + 1) rows)
chunks_left columns rows i vs is lt = ap (rows_chunks columns) (item_at rows i vs is lt)

pub rows_chunks_left : (columns : List Column) (value next : ℕ) (rows : List (List Value)) (i : ℕ) (vs : List Value) (marks : List Bool) → vs ≡ get_or rows i vs → i < length rows → marks ≡ marks_of columns vs → next ≡ value + count_outside marks
    → rows_chunks_form columns value (drop i rows) ≡ row_chunks_form value vs marks ++ rows_chunks_form columns next (drop (i + 1) rows)
rows_chunks_left columns value next rows i vs marks is lt marked step = rw (item_at rows i vs is lt, step, marked) refl

pub rows_left : (columns : List Column) (table value next : ℕ) (rows : List (List Value)) (i : ℕ) (vs : List Value) → vs ≡ get_or rows i vs → i < length rows → next ≡ value + row_outside columns vs
    → rows_form columns table value (drop i rows) ≡ row_form (planned_fields columns table value vs) ++ rows_form columns table next (drop (i + 1) rows)
rows_left columns table value next rows i vs is lt step = rw (item_at rows i vs is lt, step) refl

same_field : (table a b : ℕ) (v : Value) → field_of table a v false ≡ field_of table b v false
same_field table a b values.Null = refl
same_field table a b (values.Int z) = refl
same_field table a b (values.Oid n) = refl
same_field table a b (values.Bytes bytes) = refl

-- where no value is outside, no number matters
same_fields : (table a b : ℕ) (vs : List Value) (os : List Bool) → count_outside os ≡ 0 → fields_of table a vs os ≡ fields_of table b vs os
same_fields table a b [] os none = refl
same_fields table a b (v ∷ vs) [] none = refl
same_fields table a b (v ∷ vs) (true ∷ os) none = absurd (omega (arith, none))
same_fields table a b (v ∷ vs) (false ∷ os) none =
    ap (λ (f : _). f ∷ fields_of table (a + 0) vs os) (same_field table a b v) ∙ ap (λ (fs : List _). field_of table b v false ∷ fs) (same_fields table (a + 0) (b + 0) vs os (omega (arith, none)))

pub first_is : (columns : List Column) (table value first : ℕ) (vs : List Value) → first ≡ min value 4294967295 → value + row_outside columns vs ≤ 2 ^ 32
    → row_form (planned_fields columns table first vs) ≡ row_form (planned_fields columns table value vs)
first_is columns table value first vs is few =
    elim (cases_eq (row_outside columns vs) 0) [
      | inl none ↦ ap row_form (same_fields table first value vs (marks_of columns vs) none)
      | inr some ↦ let same : first ≡ value = omega arith in ap (λ (n : ℕ). row_form (planned_fields columns table n vs)) same
    ]

-- ---- tables

pub tables_at : (value : ℕ) (ts : List TableData) (i : ℕ) (t : TableData) → t ≡ get_or ts i t → i < length ts → AreNumberedTables value (drop i ts)
    → IsNumberedTable value t × AreNumberedTables (value + rows_outside t.columns t.rows) (drop (i + 1) ts)
tables_at value ts i t is lt h = subst (AreNumberedTables value) (item_at ts i t is lt) h

pub table_chunks_left : (ts : List TableData) (i : ℕ) (t : TableData) → t ≡ get_or ts i t → i < length ts → tables_chunks (drop i ts) ≡ rows_chunks t.columns t.rows + tables_chunks (drop (i + 1) ts)
table_chunks_left ts i t is lt = ap tables_chunks (item_at ts i t is lt)

pub tables_left : (table value next : ℕ) (ts : List TableData) (i : ℕ) (t : TableData) → t ≡ get_or ts i t → i < length ts → next ≡ value + rows_outside t.columns t.rows
    → tables_form table value (drop i ts) ≡ table_form table value t ++ tables_form (table + 1) next (drop (i + 1) ts)
tables_left table value next ts i t is lt step = rw (item_at ts i t is lt, step) refl

pub tables_chunks_left : (value next : ℕ) (ts : List TableData) (i : ℕ) (t : TableData) → t ≡ get_or ts i t → i < length ts → next ≡ value + rows_outside t.columns t.rows
    → tables_chunks_form value (drop i ts) ≡ rows_chunks_form t.columns value t.rows ++ tables_chunks_form next (drop (i + 1) ts)
tables_chunks_left value next ts i t is lt step = rw (item_at ts i t is lt, step) refl
