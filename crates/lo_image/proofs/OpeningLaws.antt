-- Tables as they are read, with the values outside that are read behind them, are tables with all their values.
use Rattle.std.proofs.Common.{◌≡◌, ℕ, ℤ, suc, ◌+◌, ◌≤◌, ◌<◌, ◌^◌, List, [], ◌∷◌, ◌++◌, length, Option, Some, None, refl, sym, ap, subst, ◌∙◌, arith}
use Rattle.std.specs.Int.{w64, to_le_bytes}
use Rattle.lo_base.specs.declared.column.Column.{Column}
use Rattle.lo_base.specs.declared.value.Value.{Value}
use Rattle.lo_base.specs.declared.value.Cell.{Cell}
use Rattle.lo_base.specs.Name.{IsName}
use Rattle.toast_plan.specs.Columns.{IsTableColumns}
use Rattle.toast_plan.specs.Row.{row_form, planned_fields}
use Rattle.lo_opening.specs.declared.opening.TableData.{TableData}
use Rattle.lo_image.specs.declared.place.RowPlace.{RowPlace}
use Rattle.lo_image.specs.declared.place.TableCells.{TableCells}
use Rattle.lo_opening.specs.Opening.{marks_of, row_outside, rows_outside, marked_chunks, rows_chunks, tables_chunks, id_of, AreRows, NameFollows, AreTables}
use Rattle.lo_image.specs.Image.{name_form, columns_form, rows_form, table_form, tables_form, row_chunks_form, rows_chunks_form, tables_chunks_form}
use Rattle.lo_image.specs.Reading.{after_cells, id_in, after_rows, TablePlace, chunks_in_rows, chunks_in_tables}
use Rattle.lo_image.proofs.RowLaws.{all_cells_form, AreRowsAt}
use Rattle.lo_image.proofs.TableLaws.{table_cells_form, tables_cells_form, AreTablesAt}
use Rattle.lo_image.proofs.ValueLaws.{AreAllKnown, AreRowsOf, rows_behind, AreTablesKnown, AreTablesOf, tables_behind}
use Rattle.lo_image.proofs.RowParts.{IsShown, cells_of_row, row_from, row_of_cells}

-- ---- rows

abbrev pub cells_of_rows : List Column → (table value : ℕ) → List (List Value) → List (List Cell)
cells_of_rows columns table value [] = []
cells_of_rows columns table value (vs ∷ rows) = cells_of_row columns table value vs ∷ cells_of_rows columns table (value + row_outside columns vs) rows

abbrev pub row_place : Option ℤ → ℕ → RowPlace
row_place last value = record { last = last; value = value }

pub record AreShown (columns : List Column) (table value : ℕ) (last : Option ℤ) (rows : List (List Value)) (found : List (List Cell)) : Type 0 where
  pub are : AreRowsAt columns table (row_place last value) found
  pub shown : AreRowsOf columns found rows
  pub known : AreAllKnown found
  pub next : after_rows value found ≡ value + rows_outside columns rows
  pub form : all_cells_form table found ≡ rows_form columns table value rows
  pub chunks : chunks_in_rows found ≡ rows_chunks columns rows
  pub behind : rows_behind columns found rows ≡ rows_chunks_form columns value rows
  pub count : length found ≡ length rows

one_row : (columns : List Column) (table value : ℕ) (last : Option ℤ) (vs : List Value) (rows : List (List Value)) (row : List Cell) (found : List (List Cell)) → IsShown columns table (row_place last value) vs row → AreShown columns table (value + row_outside columns vs) (Some (id_of vs)) rows found → AreShown columns table value last (vs ∷ rows) (row ∷ found)
one_row columns table value last vs rows row found h more =
    let place : row_place (Some (id_in row)) (after_cells value row) ≡ row_place (Some (id_of vs)) (value + row_outside columns vs) = ap (λ (z : ℤ). row_place (Some z) (after_cells value row)) h.id ∙ ap (λ (n : ℕ). row_place (Some (id_of vs)) n) h.next in
    record {
      are = (h.row, subst (λ (p : RowPlace). AreRowsAt columns table p found) (sym place) more.are);
      shown = (h.shown, more.shown);
      known = (h.known, more.known);
      next = ap (λ (n : ℕ). after_rows n found) h.next ∙ more.next ∙ (let a = row_outside columns vs in let b = rows_outside columns rows in omega arith);
      form = ap (λ (t : List ℕ). t ++ all_cells_form table found) h.form ∙ ap (λ (t : List ℕ). row_form (planned_fields columns table value vs) ++ t) more.form;
      chunks = ap (λ (n : ℕ). n + chunks_in_rows found) h.chunks ∙ ap (λ (n : ℕ). marked_chunks vs (marks_of columns vs) + n) more.chunks;
      behind = ap (λ (t : List ℕ). t ++ rows_behind columns found rows) h.behind ∙ ap (λ (t : List ℕ). row_chunks_form value vs (marks_of columns vs) ++ t) more.behind;
      count = ap suc more.count;
    }

pub rows_from : (columns : List Column) (table value : ℕ) (last : Option ℤ) (rows : List (List Value)) → AreRows columns table last value rows → AreShown columns table value last rows (cells_of_rows columns table value rows)
rows_from columns table value last [] is = record { are = tt; shown = tt; known = tt; next = omega arith; form = refl; chunks = refl; behind = refl; count = refl }
rows_from columns table value last (vs ∷ rows) is =
    one_row columns table value last vs rows (cells_of_row columns table value vs) (cells_of_rows columns table (value + row_outside columns vs) rows)
    (row_from columns table (row_place last value) vs is.0 is.1)
    (rows_from columns table (value + row_outside columns vs) (Some (id_of vs)) rows is.2)

pub record AreRowsOfCells (columns : List Column) (table value : ℕ) (last : Option ℤ) (found : List (List Cell)) (rows : List (List Value)) : Type 0 where
  pub are : AreRows columns table last value rows
  pub same : found ≡ cells_of_rows columns table value rows
  pub fits : value + rows_outside columns rows ≤ 2 ^ 32

pub rows_of_cells : (columns : List Column) (table value : ℕ) (last : Option ℤ) (found : List (List Cell)) (rows : List (List Value)) → IsTableColumns columns → value ≤ 2 ^ 32 → table < 2 ^ 32 → AreRowsAt columns table (row_place last value) found → AreRowsOf columns found rows → AreRowsOfCells columns table value last found rows
rows_of_cells columns table value last [] [] cols le small are shown = record { are = tt; same = refl; fits = omega (arith, le) }
rows_of_cells columns table value last [] (vs ∷ rows) cols le small are shown = absurd shown
rows_of_cells columns table value last (row ∷ found) [] cols le small are shown = absurd shown
rows_of_cells columns table value last (row ∷ found) (vs ∷ rows) cols le small are shown =
    let p = row_place last value in
    let h = row_of_cells columns table p row vs cols le small are.0 shown.0 in
    let again = row_from columns table p vs h.is h.follows in
    let id : id_in row ≡ id_of vs = ap id_in h.same ∙ again.id in
    let next : after_cells value row ≡ value + row_outside columns vs = ap (after_cells value) h.same ∙ again.next in
    let place : row_place (Some (id_in row)) (after_cells value row) ≡ row_place (Some (id_of vs)) (value + row_outside columns vs) = ap (λ (z : ℤ). row_place (Some z) (after_cells value row)) id ∙ ap (λ (n : ℕ). row_place (Some (id_of vs)) n) next in
    let more = rows_of_cells columns table (value + row_outside columns vs) (Some (id_of vs)) found rows cols h.is.row.numbers small (subst (λ (q : RowPlace). AreRowsAt columns table q found) place are.1) shown.1 in
    let fits = more.fits in
    record {
      are = (h.is, h.follows, more.are);
      same = ap (λ (r : List Cell). r ∷ found) h.same ∙ ap (λ (rs : List (List Cell)). cells_of_row columns table value vs ∷ rs) more.same;
      fits = (let a = row_outside columns vs in let b = rows_outside columns rows in omega (arith, fits));
    }

-- ---- tables

abbrev pub cells_of_table : (table value : ℕ) → TableData → TableCells
cells_of_table table value t = record { name = t.name; columns = t.columns; rows = cells_of_rows t.columns table value t.rows }

abbrev pub cells_of_tables : (table value : ℕ) → List TableData → List TableCells
cells_of_tables table value [] = []
cells_of_tables table value (t ∷ ts) = cells_of_table table value t ∷ cells_of_tables (table + 1) (value + rows_outside t.columns t.rows) ts

abbrev pub table_place : Option (List ℕ) → ℕ → ℕ → TablePlace
table_place last table value = record { last = last; table = table; value = value }

pub record AreTablesShown (last : Option (List ℕ)) (table value : ℕ) (ts : List TableData) (found : List TableCells) : Type 0 where
  pub are : AreTablesAt (table_place last table value) found
  pub shown : AreTablesOf found ts
  pub known : AreTablesKnown found
  pub form : tables_cells_form table found ≡ tables_form table value ts
  pub chunks : chunks_in_tables found ≡ tables_chunks ts
  pub behind : tables_behind found ts ≡ tables_chunks_form value ts
  pub count : length found ≡ length ts

table_shown : (table value : ℕ) (t : TableData) → AreShown t.columns table value None t.rows (cells_of_rows t.columns table value t.rows) → table_cells_form table (cells_of_table table value t) ≡ table_form table value t
table_shown table value t h =
    ap (λ (n : ℕ). name_form t.name ++ (length t.columns ∷ [] ++ (columns_form t.columns ++ (to_le_bytes w64 n ++ all_cells_form table (cells_of_rows t.columns table value t.rows))))) h.count
    ∙ ap (λ (rest : List ℕ). name_form t.name ++ (length t.columns ∷ [] ++ (columns_form t.columns ++ (to_le_bytes w64 (length t.rows) ++ rest)))) h.form

pub tables_from : (last : Option (List ℕ)) (table value : ℕ) (ts : List TableData) → AreTables last table value ts → AreTablesShown last table value ts (cells_of_tables table value ts)
tables_from last table value [] is = record { are = tt; shown = tt; known = tt; form = refl; chunks = refl; behind = refl; count = refl }
tables_from last table value (t ∷ ts) is =
    let t_is = is.0 in
    let rows = rows_from t.columns table value None t.rows t_is.rows in
    let next = value + rows_outside t.columns t.rows in
    let more = tables_from (Some t.name) (table + 1) next ts is.2 in
    let found = cells_of_tables (table + 1) next ts in
    let count = rows.count in
    let few = t_is.few_rows in
    record {
      are = (
        record { name = record { is = t_is.name; follows = is.1 }; columns = t_is.columns; few = omega (arith, count, few); rows = rows.are },
        subst (λ (n : ℕ). AreTablesAt (table_place (Some t.name) (table + 1) n) found) (sym rows.next) more.are,
      );
      shown = (record { name = refl; columns = refl; rows = rows.shown }, more.shown);
      known = (rows.known, more.known);
      form = ap (λ (text : List ℕ). text ++ tables_cells_form (table + 1) found) (table_shown table value t rows) ∙ ap (λ (text : List ℕ). table_form table value t ++ text) more.form;
      chunks = ap (λ (n : ℕ). n + chunks_in_tables found) rows.chunks ∙ ap (λ (n : ℕ). rows_chunks t.columns t.rows + n) more.chunks;
      behind = ap (λ (text : List ℕ). text ++ tables_behind found ts) rows.behind ∙ ap (λ (text : List ℕ). rows_chunks_form t.columns value t.rows ++ text) more.behind;
      count = ap suc more.count;
    }

pub record AreTablesOfCells (last : Option (List ℕ)) (table value : ℕ) (found : List TableCells) (ts : List TableData) : Type 0 where
  pub are : AreTables last table value ts
  pub same : found ≡ cells_of_tables table value ts

table_of_cells : (table value : ℕ) (f : TableCells) (t : TableData) → t.name ≡ f.name → t.columns ≡ f.columns → f.rows ≡ cells_of_rows f.columns table value t.rows → f ≡ cells_of_table table value t
table_of_cells table value f t name columns rows =
    let made : List ℕ → List Column → List (List Cell) → TableCells = λ n cs rs. record { name = n; columns = cs; rows = rs } in
    ap (λ (rs : List (List Cell)). made f.name f.columns rs) rows ∙ ap (λ (n : List ℕ). made n f.columns (cells_of_rows f.columns table value t.rows)) (sym name) ∙ ap (λ (cs : List Column). made t.name cs (cells_of_rows cs table value t.rows)) (sym columns)

pub tables_of_cells : (last : Option (List ℕ)) (table value : ℕ) (found : List TableCells) (ts : List TableData) → value ≤ 2 ^ 32 → table + length found < 2 ^ 32 → AreTablesAt (table_place last table value) found → AreTablesOf found ts → AreTablesOfCells last table value found ts
tables_of_cells last table value [] [] le small are shown = record { are = tt; same = refl }
tables_of_cells last table value [] (t ∷ ts) le small are shown = absurd shown
tables_of_cells last table value (f ∷ found) [] le small are shown = absurd shown
tables_of_cells last table value (f ∷ found) (t ∷ ts) le small are shown =
    let h = are.0 in
    let of = shown.0 in
    let rows = rows_of_cells f.columns table value None f.rows t.rows h.columns le (omega (arith, small)) h.rows of.rows in
    let again = rows_from f.columns table value None t.rows rows.are in
    let outside : rows_outside f.columns t.rows ≡ rows_outside t.columns t.rows = ap (λ (cs : List Column). rows_outside cs t.rows) (sym of.columns) in
    let fits = rows.fits in
    let next : after_rows value f.rows ≡ value + rows_outside t.columns t.rows = ap (after_rows value) rows.same ∙ again.next ∙ ap (λ (n : ℕ). value + n) outside in
    let place : table_place (Some f.name) (table + 1) (after_rows value f.rows) ≡ table_place (Some t.name) (table + 1) (value + rows_outside t.columns t.rows) = ap (λ (n : List ℕ). table_place (Some n) (table + 1) (after_rows value f.rows)) (sym of.name) ∙ ap (λ (n : ℕ). table_place (Some t.name) (table + 1) n) next in
    let count : length (cells_of_rows f.columns table value t.rows) ≡ length t.rows = again.count in
    let len : length f.rows ≡ length t.rows = ap (λ (rs : List (List Cell)). length rs) rows.same ∙ count in
    let few = h.few in
    let more = tables_of_cells (Some t.name) (table + 1) (value + rows_outside t.columns t.rows) found ts (omega (arith, fits, outside)) (omega (arith, small)) (subst (λ (q : TablePlace). AreTablesAt q found) place are.1) shown.1 in
    record {
      are = (
        record {
          name = subst IsName (sym of.name) h.name.is;
          columns = subst IsTableColumns (sym of.columns) h.columns;
          rows = subst (λ (cs : List Column). AreRows cs table None value t.rows) (sym of.columns) rows.are;
          few_rows = omega (arith, len, few);
        },
        subst (λ (n : List ℕ). NameFollows last n) (sym of.name) h.name.follows,
        more.are,
      );
      same = ap (λ (x : TableCells). x ∷ found) (table_of_cells table value f t of.name of.columns rows.same) ∙ ap (λ (xs : List TableCells). cells_of_table table value t ∷ xs) more.same;
    }
