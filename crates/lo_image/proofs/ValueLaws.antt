-- The laws for the values of cells: those in the row, and those outside that stand in chunks.
use Rattle.std.proofs.Common.{◌≡◌, ℕ, ◌≤◌, ◌<◌, ◌^◌, List, [], Result, Ok, refl, sym, ap, subst, ◌∙◌}
use Rattle.std.specs.List.{AllByRecursion}
use Rattle.lo_base.specs.declared.column.Column.{Column}
use Rattle.lo_base.specs.declared.column.ColType.{ColType}
use Rattle.lo_base.specs.declared.value.Value.{Value}
use Rattle.lo_base.specs.declared.value.Value.TheVariants as values
use Rattle.lo_base.specs.declared.value.Cell.{Cell}
use Rattle.lo_base.specs.declared.value.Cell.TheVariants as cells
use Rattle.lo_image.specs.declared.fault.Fault.{Fault}
use Rattle.lo_opening.specs.declared.opening.TableData.{TableData}
use Rattle.lo_image.specs.declared.place.TableCells.{TableCells}
use Rattle.lo_opening.specs.Opening.{IsArrayIfThere}
use Rattle.lo_image.specs.Image.{value_form}
use Rattle.lo_image.specs.Readers.{tested, made}
use Rattle.lo_image.specs.Reading.{array_defect, value_at, cell_value_at, next_columns, kind_in, column_value_at, row_values_at, same_columns, rows_values_at, with_rows, table_values_at, no_state, tables_values_at}
use Rattle.lo_image.proofs.ReaderLaws.{Reads, ok_is, tested_reads, made_reads}
use Rattle.lo_image.proofs.ListLaws.{AreLong, each_form, EachIs, each_reads}
use Rattle.lo_image.proofs.CellLaws.{array_sound, array_again}
use Rattle.lo_image.proofs.ChunkLaws.{value_reads}

-- a cell whose value can be read
abbrev pub IsKnown : Cell → Type 0
IsKnown cells.Null = Unit {0}
IsKnown (cells.Int z) = Unit {0}
IsKnown (cells.Oid n) = Unit {0}
IsKnown (cells.Inline bytes) = Unit {0}
IsKnown (cells.Text bytes) = ⊥
IsKnown (cells.Outside n number) = (n ≤ 16777216) × (number < 2 ^ 32)

abbrev pub IsLongOf : ColType → ℕ → Value → Type 0
IsLongOf kind n values.Null = ⊥
IsLongOf kind n (values.Int z) = ⊥
IsLongOf kind n (values.Oid m) = ⊥
IsLongOf kind n (values.Bytes bytes) = AreLong n bytes × IsArrayIfThere kind (values.Bytes bytes)

-- the value of a cell
abbrev pub IsValueOf : ColType → Cell → Value → Type 0
IsValueOf kind cells.Null v = v ≡ values.Null
IsValueOf kind (cells.Int z) v = v ≡ values.Int z
IsValueOf kind (cells.Oid n) v = v ≡ values.Oid n
IsValueOf kind (cells.Inline bytes) v = v ≡ values.Bytes bytes
IsValueOf kind (cells.Text bytes) v = ⊥
IsValueOf kind (cells.Outside n number) v = IsLongOf kind n v

abbrev pub long_form : ℕ → Value → List ℕ
long_form number values.Null = []
long_form number (values.Int z) = []
long_form number (values.Oid m) = []
long_form number (values.Bytes bytes) = value_form number bytes

-- the chunks of a cell's value
abbrev pub behind_form : Cell → Value → List ℕ
behind_form cells.Null v = []
behind_form (cells.Int z) v = []
behind_form (cells.Oid n) v = []
behind_form (cells.Inline bytes) v = []
behind_form (cells.Text bytes) v = []
behind_form (cells.Outside n number) v = long_form number v

abbrev own : Value → List ℕ → Result (Value × List ℕ) Fault
own v bytes = Ok (v, bytes)

own_reads : (v : Value) → Reads Value (own v) (λ w. []) (λ w. w ≡ v)
own_reads v = record {
  takes = λ bytes x fits e. subst (λ (y : Value × List ℕ). (bytes ≡ y.1) × (y.0 ≡ v)) (ok_is (v, bytes) x e) (refl, refl);
  again = λ w rest is. rw is refl;
}

abbrev bytes_in : Value → List ℕ
bytes_in values.Null = []
bytes_in (values.Int z) = []
bytes_in (values.Oid m) = []
bytes_in (values.Bytes bytes) = bytes

long_back : (kind : ColType) (n number : ℕ) (v : Value) → IsLongOf kind n v → (values.Bytes (bytes_in v) ≡ v) × (value_form number (bytes_in v) ≡ long_form number v) × (AreLong n (bytes_in v) × IsArrayIfThere kind (values.Bytes (bytes_in v)))
long_back kind n number values.Null is = absurd is
long_back kind n number (values.Int z) is = absurd is
long_back kind n number (values.Oid m) is = absurd is
long_back kind n number (values.Bytes bytes) is = (refl, refl, is)

long_reads : (kind : ColType) (n number : ℕ) → n ≤ 16777216 → number < 2 ^ 32 → Reads Value (made values.Bytes (tested (array_defect kind) (value_at number n))) (long_form number) (IsLongOf kind n)
long_reads kind n number few small =
    made_reads (List ℕ) Value values.Bytes (tested (array_defect kind) (value_at number n)) (value_form number) (λ b. AreLong n b × IsArrayIfThere kind (values.Bytes b)) (long_form number) (IsLongOf kind n)
    (tested_reads (List ℕ) (value_at number n) (value_form number) (AreLong n) (array_defect kind) (λ b. IsArrayIfThere kind (values.Bytes b)) (value_reads number n small few)
    (record { sound = λ b is e. array_sound kind b is.small e; again = λ b is rule. array_again kind b rule }))
    (record {
      back = bytes_in;
      there = λ v is. (long_back kind n number v is).0;
      here = λ b is. (refl, is);
      again = λ v is. let g = long_back kind n number v is in (g.1, g.2);
    })

value_of_cell : (kind : ColType) (c : Cell) → IsKnown c → Reads Value (cell_value_at kind c) (behind_form c) (IsValueOf kind c)
value_of_cell kind cells.Null known = own_reads values.Null
value_of_cell kind (cells.Int z) known = own_reads (values.Int z)
value_of_cell kind (cells.Oid n) known = own_reads (values.Oid n)
value_of_cell kind (cells.Inline bytes) known = own_reads (values.Bytes bytes)
value_of_cell kind (cells.Text bytes) known = absurd known
value_of_cell kind (cells.Outside n number) known = long_reads kind n number known.0 known.1

-- ---- rows and tables

abbrev pub IsColumnValue : List Column → Cell → Value → Type 0
IsColumnValue columns c v = IsValueOf (kind_in columns) c v

abbrev pub AreRowValuesOf : List Column → List Cell → List Value → Type 0
AreRowValuesOf = EachIs IsColumnValue next_columns

abbrev pub row_behind : List Column → List Cell → List Value → List ℕ
row_behind = each_form (λ columns. behind_form) next_columns

abbrev pub AreKnown : List Cell → Type 0
AreKnown cs = AllByRecursion IsKnown cs

row_values_reads : (columns : List Column) (cs : List Cell) → AreKnown cs → Reads (List Value) (row_values_at columns cs) (row_behind columns cs) (AreRowValuesOf columns cs)
row_values_reads columns cs known = each_reads Cell Value (List Column) IsKnown column_value_at next_columns (λ columns. behind_form) IsColumnValue (λ columns c k. value_of_cell (kind_in columns) c k) columns cs known

abbrev pub AreAllKnown : List (List Cell) → Type 0
AreAllKnown rows = AllByRecursion AreKnown rows

abbrev pub AreRowsOf : List Column → List (List Cell) → List (List Value) → Type 0
AreRowsOf = EachIs AreRowValuesOf same_columns

abbrev pub rows_behind : List Column → List (List Cell) → List (List Value) → List ℕ
rows_behind = each_form row_behind same_columns

rows_values_reads : (columns : List Column) (rows : List (List Cell)) → AreAllKnown rows → Reads (List (List Value)) (rows_values_at columns rows) (rows_behind columns rows) (AreRowsOf columns rows)
rows_values_reads columns rows known = each_reads (List Cell) (List Value) (List Column) AreKnown row_values_at same_columns row_behind AreRowValuesOf row_values_reads columns rows known

pub record IsTableOf (nothing : ℕ) (t : TableCells) (d : TableData) : Type 0 where
  pub name : d.name ≡ t.name
  pub columns : d.columns ≡ t.columns
  pub rows : AreRowsOf t.columns t.rows d.rows

abbrev pub table_behind : ℕ → TableCells → TableData → List ℕ
table_behind nothing t d = rows_behind t.columns t.rows d.rows

with_own : (t : TableCells) (d : TableData) → d.name ≡ t.name → d.columns ≡ t.columns → with_rows t d.rows ≡ d
with_own t d name columns =
    let Data = TableData in
    ap (λ (n : List ℕ). with_rows (record { name = n; columns = t.columns; rows = t.rows }) d.rows) (sym name) ∙ ap (λ (cs : List Column). with_rows (record { name = d.name; columns = cs; rows = t.rows }) d.rows) (sym columns)

table_values_reads : (nothing : ℕ) (t : TableCells) → AreAllKnown t.rows → Reads TableData (table_values_at nothing t) (table_behind nothing t) (IsTableOf nothing t)
table_values_reads nothing t known =
    made_reads (List (List Value)) TableData (with_rows t) (rows_values_at t.columns t.rows) (rows_behind t.columns t.rows) (AreRowsOf t.columns t.rows) (table_behind nothing t) (IsTableOf nothing t) (rows_values_reads t.columns t.rows known)
    (record {
      back = λ d. d.rows;
      there = λ d is. with_own t d is.name is.columns;
      here = λ rows is. (refl, record { name = refl; columns = refl; rows = is });
      again = λ d is. (refl, is.rows);
    })

abbrev pub AreTablesKnown : List TableCells → Type 0
AreTablesKnown ts = AllByRecursion (λ (t : TableCells). AreAllKnown t.rows) ts

abbrev pub AreTablesOf : List TableCells → List TableData → Type 0
AreTablesOf = EachIs IsTableOf no_state 0

abbrev pub tables_behind : List TableCells → List TableData → List ℕ
tables_behind = each_form table_behind no_state 0

pub tables_values_reads : (ts : List TableCells) → AreTablesKnown ts → Reads (List TableData) (tables_values_at ts) (tables_behind ts) (AreTablesOf ts)
tables_values_reads ts known = each_reads TableCells TableData ℕ (λ (t : TableCells). AreAllKnown t.rows) table_values_at no_state table_behind IsTableOf table_values_reads 0 ts known
