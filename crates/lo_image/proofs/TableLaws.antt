-- The law for tables whose values outside are not there yet.
use Rattle.std.proofs.Common.{◌≡◌, ℕ, ◌+◌, ◌≤◌, ◌<◌, ◌^◌, List, [], ◌∷◌, ◌++◌, length, None, refl, ap, arith}
use Rattle.std.specs.Int.{w16, w64, to_le_bytes}
use Rattle.std.proofs.lemmas.Bool.Decides.{nat_tests}
use Rattle.lo_base.specs.declared.column.Column.{Column}
use Rattle.lo_base.specs.declared.value.Cell.{Cell}
use Rattle.toast_plan.specs.Columns.{IsTableColumns}
use Rattle.lo_image.specs.declared.place.TableCells.{TableCells}
use Rattle.lo_image.specs.Image.{name_form, columns_form}
use Rattle.lo_image.specs.Readers.{number, tested, both}
use Rattle.lo_image.specs.Reading.{counted_at, table_name_defect, columns_at, rows_at, TablePlace, table_of, table_at, after_table, tables_at, tables_defect}
use Rattle.lo_image.proofs.ReaderLaws.{Reads, Judges, wide16, wide64, number_reads, tested_reads, both_reads, made_reads, same_reads, joined, AllFrom, AreRead, many_reads}
use Rattle.lo_image.proofs.ColumnLaws.{TableName, table_name_reads, counted_columns, AreColumns, columns_reads}
use Rattle.lo_image.proofs.RowLaws.{all_cells_form, AreRowsAt, first_row, AreTableRows, rows_reads}

abbrev pub table_cells_form : (table : ℕ) → TableCells → List ℕ
table_cells_form table t = name_form t.name ++ (length t.columns ∷ [] ++ (columns_form t.columns ++ (to_le_bytes w64 (length t.rows) ++ all_cells_form table t.rows)))

pub record IsTableCells (p : TablePlace) (t : TableCells) : Type 0 where
  pub name : TableName p.last t.name
  pub columns : IsTableColumns t.columns
  pub few : length t.rows < 2 ^ 64
  pub rows : AreRowsAt t.columns p.table (first_row p.value) t.rows

table_reads : (p : TablePlace) → Reads TableCells (table_at p) (table_cells_form p.table) (IsTableCells p)
table_reads p =
    let Rows = ℕ × List (List Cell) in
    let Columns = ℕ × List Column in
    let rows : (columns : Columns) → Reads Rows (both (number w64) (rows_at columns.1 p.table p.value)) (λ x. to_le_bytes w64 x.0 ++ all_cells_form p.table x.1) (λ x. (x.0 < 2 ^ 64) × AreTableRows columns.1 p.table p.value x.0 x.1) = λ columns.
    both_reads ℕ (List (List Cell)) (number w64) (rows_at columns.1 p.table p.value) (to_le_bytes w64) (λ n. all_cells_form p.table) (λ n. n < 2 ^ 64) (AreTableRows columns.1 p.table p.value) (number_reads w64 (2 ^ 64) wide64) (λ n is. rows_reads columns.1 p.table p.value n) in
    let more = both_reads Columns Rows columns_at (λ columns. both (number w64) (rows_at columns.1 p.table p.value)) counted_columns (λ columns x. to_le_bytes w64 x.0 ++ all_cells_form p.table x.1) AreColumns (λ columns x. (x.0 < 2 ^ 64) × AreTableRows columns.1 p.table p.value x.0 x.1) columns_reads (λ columns is. rows columns) in
    let whole = both_reads (List ℕ) (Columns × Rows) (tested (table_name_defect p.last) counted_at) (λ name. both columns_at (λ columns. both (number w64) (rows_at columns.1 p.table p.value))) name_form (λ name x. counted_columns x.0 ++ (to_le_bytes w64 x.1.0 ++ all_cells_form p.table x.1.1)) (TableName p.last) (λ name x. AreColumns x.0 × ((x.1.0 < 2 ^ 64) × AreTableRows x.0.1 p.table p.value x.1.0 x.1.1)) (table_name_reads p.last) (λ name is. more) in
    made_reads (List ℕ × (Columns × Rows)) TableCells table_of (both (tested (table_name_defect p.last) counted_at) (λ name. both columns_at (λ columns. both (number w64) (rows_at columns.1 p.table p.value))))
    (λ x. name_form x.0 ++ (counted_columns x.1.0 ++ (to_le_bytes w64 x.1.1.0 ++ all_cells_form p.table x.1.1.1)))
    (λ x. TableName p.last x.0 × (AreColumns x.1.0 × ((x.1.1.0 < 2 ^ 64) × AreTableRows x.1.0.1 p.table p.value x.1.1.0 x.1.1.1)))
    (table_cells_form p.table) (IsTableCells p) whole
    (record {
      back = λ t. (t.name, ((length t.columns, t.columns), (length t.rows, t.rows)));
      there = λ t is. refl;
      here = λ x is.
          let columns = is.1.0.count in
          let rows = is.1.1.1.count in
          (rw (columns, rows) refl, record { name = is.0; columns = is.1.0.are; few = rw rows is.1.1.0; rows = is.1.1.1.are });
      again = λ t is. (refl, (is.name, (record { count = refl; are = is.columns }, (is.few, record { count = refl; are = is.rows }))));
    })

abbrev pub tables_cells_form : (table : ℕ) → List TableCells → List ℕ
tables_cells_form table [] = []
tables_cells_form table (t ∷ ts) = table_cells_form table t ++ tables_cells_form (table + 1) ts

abbrev pub AreTablesAt : TablePlace → List TableCells → Type 0
AreTablesAt = AllFrom IsTableCells after_table

abbrev pub first_table : TablePlace
first_table = record { last = None; table = 1; value = 1 }

tables_shown : (p : TablePlace) (ts : List TableCells) → joined (λ (q : TablePlace). table_cells_form q.table) after_table p ts ≡ tables_cells_form p.table ts
tables_shown p [] = refl
tables_shown p (t ∷ ts) = ap (λ (rest : List ℕ). table_cells_form p.table t ++ rest) (tables_shown (after_table p t) ts)

pub record AreCountedTables (x : ℕ × List TableCells) : Type 0 where
  pub count : length x.1 ≡ x.0
  pub few : x.0 ≤ 1000
  pub are : AreTablesAt first_table x.1

tables_judged : Judges ℕ (λ n. n < 2 ^ 16) tables_defect (λ n. n ≤ 1000)
tables_judged = record { sound = λ n is e. grind (arith, nat_tests); again = λ n is rule. grind (arith, nat_tests) }

abbrev pub counted_tables : ℕ × List TableCells → List ℕ
counted_tables x = to_le_bytes w16 x.0 ++ tables_cells_form 1 x.1

pub tables_reads : Reads (ℕ × List TableCells) (both (tested tables_defect (number w16)) tables_at) counted_tables AreCountedTables
tables_reads =
    let counts = tested_reads ℕ (number w16) (to_le_bytes w16) (λ n. n < 2 ^ 16) tables_defect (λ n. n ≤ 1000) (number_reads w16 (2 ^ 16) wide16) tables_judged in
    let law = both_reads ℕ (List TableCells) (tested tables_defect (number w16)) tables_at (to_le_bytes w16) (λ n. joined (λ (q : TablePlace). table_cells_form q.table) after_table first_table) (λ n. (n < 2 ^ 16) × (n ≤ 1000)) (λ n. AreRead TableCells TablePlace IsTableCells after_table first_table n) counts
    (λ n is. many_reads TableCells TablePlace table_at after_table (λ (q : TablePlace). table_cells_form q.table) IsTableCells table_reads first_table n) in
    same_reads (ℕ × List TableCells) (both (tested tables_defect (number w16)) tables_at) (λ x. to_le_bytes w16 x.0 ++ joined (λ (q : TablePlace). table_cells_form q.table) after_table first_table x.1) (λ x. ((x.0 < 2 ^ 16) × (x.0 ≤ 1000)) × AreRead TableCells TablePlace IsTableCells after_table first_table x.0 x.1) counted_tables AreCountedTables law
    (λ x is. (ap (λ (t : List ℕ). to_le_bytes w16 x.0 ++ t) (tables_shown first_table x.1), record { count = is.1.count; few = is.0.1; are = is.1.all }))
    (λ x is. let few = is.few in ((omega (arith, few), few), record { count = is.count; all = is.are }))
