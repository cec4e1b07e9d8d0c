-- The law for an image, up to all of its bytes.
use Rattle.std.proofs.Common.{◌≡◌, ℕ, ℤ, ◌+◌, ◌^◌, ◌<◌, ◌≤◌, cond, eqb, List, [], ◌∷◌, ◌++◌, length, drop, Option, None, Result, Ok, Err, refl, sym, ap, subst, ◌∙◌, append_assoc, append-nil, arith}
use Rattle.std.specs.Int.{w16, w32, w64, to_le_bytes}
use Rattle.std.proofs.lemmas.Bool.Decides.{nat_tests}
use Rattle.std.proofs.lemmas.Bool.{eqb-true}
use Rattle.std.proofs.lemmas.List.{nil_from_length}
use Rattle.lo_base.specs.declared.column.Column.{Column}
use Rattle.lo_base.specs.declared.value.Cell.{Cell}
use Rattle.lo_base.specs.declared.value.Cell.TheVariants as cells
use Rattle.lo_image.specs.declared.fault.Defect.TheVariants.{Magic, Extra}
use Rattle.lo_image.specs.declared.fault.Fault.{Fault}
use Rattle.lo_image.specs.declared.fault.ImageError.{ImageError}
use Rattle.lo_opening.specs.declared.opening.ObjectData.{ObjectData}
use Rattle.lo_opening.specs.declared.opening.TableData.{TableData}
use Rattle.lo_image.specs.declared.place.TableCells.{TableCells}
use Rattle.lo_image.specs.declared.place.RowPlace.{RowPlace}
use Rattle.lo_opening.specs.Opening.{OpeningData, IsOpening, AreObjects, tables_chunks}
use Rattle.lo_image.specs.Image.{magic, tables_form, tables_chunks_form, objects_form, image_head, image}
use Rattle.lo_image.specs.Readers.{number, tested, fixed_piece, fails, behind, both, made}
use Rattle.lo_image.specs.Reading.{blocks_defect, counter_defect, tables_defect, tables_at, chunks_defect, chunks_in_tables, tables_values_at, objects_at, TablePlace, after_table, after_cell, after_row, Behind, behind_tables, Parts, opening_of, opening_at, image_at, placed, Answers}
use Rattle.lo_image.proofs.ReaderLaws.{Reads, Judges, Same, wide32, wide64, number_reads, fixed_piece_is, tested_reads, behind_reads, both_reads, made_reads, IsBytes, bound, guard_same, ok_is}
use Rattle.lo_image.proofs.ObjectLaws.{AreListed, objects_reads}
use Rattle.lo_image.proofs.CellLaws.{IsCellAt}
use Rattle.lo_image.proofs.RowLaws.{IsIdAt, AreCells, AreRowCellsAt, AreRowsAt}
use Rattle.lo_image.proofs.TableLaws.{tables_cells_form, AreTablesAt, first_table, AreCountedTables, counted_tables, tables_reads}
use Rattle.lo_image.proofs.ValueLaws.{IsKnown, AreKnown, AreAllKnown, AreTablesKnown, AreTablesOf, tables_behind, tables_values_reads}
use Rattle.lo_image.proofs.OpeningLaws.{cells_of_tables, tables_from, tables_of_cells}

-- ---- cells that were read have values that can be

cell_known : (table value : ℕ) (c : Column) (cell : Cell) → IsCellAt table value c cell → IsKnown cell
cell_known table value c cells.Null is = tt
cell_known table value c (cells.Int z) is = tt
cell_known table value c (cells.Oid n) is = tt
cell_known table value c (cells.Inline bytes) is = tt
cell_known table value c (cells.Text bytes) is = is.tagged.payload
cell_known table value c (cells.Outside n number) is = let pay = is.tagged.payload in (pay.1, subst (λ (k : ℕ). k < 2 ^ 32) (sym pay.2) pay.3)

cells_known : (table value : ℕ) (cs : List Column) (found : List Cell) → AreCells table value cs found → AreKnown found
cells_known table value [] [] are = tt
cells_known table value [] (f ∷ found) are = absurd are
cells_known table value (c ∷ cs) [] are = absurd are
cells_known table value (c ∷ cs) (f ∷ found) are = (cell_known table value c f are.0, cells_known table (after_cell value f) cs found are.1)

id_known : (last : Option ℤ) (cell : Cell) → IsIdAt last cell → IsKnown cell
id_known last cells.Null is = absurd is
id_known last (cells.Int z) is = tt
id_known last (cells.Oid n) is = absurd is
id_known last (cells.Inline bytes) is = absurd is
id_known last (cells.Text bytes) is = absurd is
id_known last (cells.Outside n number) is = absurd is

row_known : (columns : List Column) (table : ℕ) (p : RowPlace) (found : List Cell) → AreRowCellsAt columns table p found → AreKnown found
row_known columns table p [] are = absurd are
row_known columns table p (f ∷ found) are = (id_known p.last f are.0, cells_known table p.value (drop 1 columns) found are.1)

rows_known : (columns : List Column) (table : ℕ) (p : RowPlace) (rows : List (List Cell)) → AreRowsAt columns table p rows → AreAllKnown rows
rows_known columns table p [] are = tt
rows_known columns table p (row ∷ rows) are = (row_known columns table p row are.0.are, rows_known columns table (after_row p row) rows are.1)

pub tables_known : (p : TablePlace) (ts : List TableCells) → AreTablesAt p ts → AreTablesKnown ts
tables_known p [] are = tt
tables_known p (t ∷ ts) are = (rows_known t.columns p.table (record { last = None; value = p.value }) t.rows are.0.rows, tables_known (after_table p t) ts are.1)

-- ---- the numbers

pub record Within (least most n : ℕ) : Type 0 where
  pub least_is : least ≤ n
  pub most_is : n ≤ most

blocks_judged : Judges ℕ (λ n. n < 2 ^ 32) blocks_defect (Within 1 262144)
blocks_judged = record {
  sound = λ n is e. record { least_is = grind (arith, nat_tests); most_is = grind (arith, nat_tests) };
  again = λ n is rule. let least = rule.least_is in let most = rule.most_is in grind (arith, nat_tests);
}

counter_judged : Judges ℕ (λ n. n < 2 ^ 64) counter_defect (Within 16384 4294967296)
counter_judged = record {
  sound = λ n is e. record { least_is = grind (arith, nat_tests); most_is = grind (arith, nat_tests) };
  again = λ n is rule. let least = rule.least_is in let most = rule.most_is in grind (arith, nat_tests);
}

pub record ChunksRule (total n : ℕ) : Type 0 where
  pub same : n ≡ total
  pub few : n < 2 ^ 32

chunks_judged : (total : ℕ) → Judges ℕ (λ n. n < 2 ^ 64) (chunks_defect total) (ChunksRule total)
chunks_judged total = record {
  sound = λ n is e. record { same = grind (arith, nat_tests); few = grind (arith, nat_tests) };
  again = λ n is rule. let same = rule.same in let few = rule.few in grind (arith, nat_tests);
}

-- ---- behind the tables

abbrev pub behind_text : List TableCells → Behind → List ℕ
behind_text tables x = to_le_bytes w64 x.0 ++ (tables_behind tables x.1.0 ++ (to_le_bytes w64 x.1.1.0 ++ objects_form x.1.1.1))

abbrev pub AreBehind : List TableCells → Behind → Type 0
AreBehind tables x = ((x.0 < 2 ^ 64) × ChunksRule (chunks_in_tables tables) x.0) × (AreTablesOf tables x.1.0 × ((x.1.1.0 < 2 ^ 64) × AreListed x.0 x.1.1.0 x.1.1.1))

behind_reads_all : (tables : List TableCells) → AreTablesKnown tables → Reads Behind (behind_tables tables) (behind_text tables) (AreBehind tables)
behind_reads_all tables known =
    let Listed = ℕ × List ObjectData in
    let total = chunks_in_tables tables in
    let chunks = tested_reads ℕ (number w64) (to_le_bytes w64) (λ n. n < 2 ^ 64) (chunks_defect total) (ChunksRule total) (number_reads w64 (2 ^ 64) wide64) (chunks_judged total) in
    let listed : (held : ℕ) → Reads Listed (both (number w64) (objects_at held)) (λ x. to_le_bytes w64 x.0 ++ objects_form x.1) (λ x. (x.0 < 2 ^ 64) × AreListed held x.0 x.1) = λ held.
    both_reads ℕ (List ObjectData) (number w64) (objects_at held) (to_le_bytes w64) (λ n. objects_form) (λ n. n < 2 ^ 64) (AreListed held) (number_reads w64 (2 ^ 64) wide64) (λ n is. objects_reads held n) in
    let shown : (held : ℕ) → Reads (List TableData × Listed) (both (tables_values_at tables) (λ shown. both (number w64) (objects_at held))) (λ x. tables_behind tables x.0 ++ (to_le_bytes w64 x.1.0 ++ objects_form x.1.1)) (λ x. AreTablesOf tables x.0 × ((x.1.0 < 2 ^ 64) × AreListed held x.1.0 x.1.1)) = λ held.
    both_reads (List TableData) Listed (tables_values_at tables) (λ shown. both (number w64) (objects_at held)) (tables_behind tables) (λ shown x. to_le_bytes w64 x.0 ++ objects_form x.1) (AreTablesOf tables) (λ shown x. (x.0 < 2 ^ 64) × AreListed held x.0 x.1) (tables_values_reads tables known) (λ shown is. listed held) in
    both_reads ℕ (List TableData × Listed) (tested (chunks_defect total) (number w64)) (λ chunks. both (tables_values_at tables) (λ shown. both (number w64) (objects_at chunks))) (to_le_bytes w64) (λ held x. tables_behind tables x.0 ++ (to_le_bytes w64 x.1.0 ++ objects_form x.1.1))
    (λ n. (n < 2 ^ 64) × ChunksRule total n) (λ held x. AreTablesOf tables x.0 × ((x.1.0 < 2 ^ 64) × AreListed held x.1.0 x.1.1)) chunks (λ n is. shown n)

-- ---- the whole

abbrev pub parts_form : Parts → List ℕ
parts_form x = to_le_bytes w32 x.0 ++ (to_le_bytes w64 x.1.0 ++ (counted_tables x.1.1.0 ++ behind_text x.1.1.0.1 x.1.1.1))

abbrev pub AreParts : Parts → Type 0
AreParts x = ((x.0 < 2 ^ 32) × Within 1 262144 x.0) × (((x.1.0 < 2 ^ 64) × Within 16384 4294967296 x.1.0) × (AreCountedTables x.1.1.0 × AreBehind x.1.1.0.1 x.1.1.1))

abbrev counted_at_all : List ℕ → Result ((ℕ × List TableCells) × List ℕ) Fault
counted_at_all = both (tested tables_defect (number w16)) tables_at

parts_read : Reads Parts (both (tested blocks_defect (number w32)) (λ blocks. both (tested counter_defect (number w64)) (λ counter. both counted_at_all (λ tables. behind_tables tables.1)))) parts_form AreParts
parts_read =
    let Tables = ℕ × List TableCells in
    let blocks = tested_reads ℕ (number w32) (to_le_bytes w32) (λ n. n < 2 ^ 32) blocks_defect (Within 1 262144) (number_reads w32 (2 ^ 32) wide32) blocks_judged in
    let counter = tested_reads ℕ (number w64) (to_le_bytes w64) (λ n. n < 2 ^ 64) counter_defect (Within 16384 4294967296) (number_reads w64 (2 ^ 64) wide64) counter_judged in
    let tables : Reads (Tables × Behind) (both counted_at_all (λ tables. behind_tables tables.1)) (λ x. counted_tables x.0 ++ behind_text x.0.1 x.1) (λ x. AreCountedTables x.0 × AreBehind x.0.1 x.1) =
    both_reads Tables Behind counted_at_all (λ tables. behind_tables tables.1) counted_tables (λ tables. behind_text tables.1) AreCountedTables (λ tables. AreBehind tables.1) tables_reads (λ tables is. behind_reads_all tables.1 (tables_known first_table tables.1 is.are)) in
    let more = both_reads ℕ (Tables × Behind) (tested counter_defect (number w64)) (λ counter. both counted_at_all (λ tables. behind_tables tables.1)) (to_le_bytes w64) (λ counter x. counted_tables x.0 ++ behind_text x.0.1 x.1) (λ n. (n < 2 ^ 64) × Within 16384 4294967296 n) (λ counter x. AreCountedTables x.0 × AreBehind x.0.1 x.1) counter (λ n is. tables) in
    both_reads ℕ (ℕ × (Tables × Behind)) (tested blocks_defect (number w32)) (λ blocks. both (tested counter_defect (number w64)) (λ counter. both counted_at_all (λ tables. behind_tables tables.1))) (to_le_bytes w32) (λ blocks x. to_le_bytes w64 x.0 ++ (counted_tables x.1.0 ++ behind_text x.1.0.1 x.1.1))
    (λ n. (n < 2 ^ 32) × Within 1 262144 n) (λ blocks x. ((x.0 < 2 ^ 64) × Within 16384 4294967296 x.0) × (AreCountedTables x.1.0 × AreBehind x.1.0.1 x.1.1)) blocks (λ n is. more)

abbrev after_magic : OpeningData → List ℕ
after_magic d = to_le_bytes w32 d.blocks ++ (to_le_bytes w64 d.counter ++ (to_le_bytes w16 (length d.tables) ++ (tables_form 1 1 d.tables ++ (to_le_bytes w64 (tables_chunks d.tables) ++ (tables_chunks_form 1 d.tables ++ (to_le_bytes w64 (length d.objects) ++ objects_form d.objects))))))

abbrev parts_of : OpeningData → Parts
parts_of d = (d.blocks, (d.counter, ((length d.tables, cells_of_tables 1 1 d.tables), (tables_chunks d.tables, (d.tables, (length d.objects, d.objects))))))

parts_shown : (d : OpeningData) → IsOpening d → parts_form (parts_of d) ≡ after_magic d
parts_shown d is =
    let t = tables_from None 1 1 d.tables is.tables in
    let head : List ℕ → List ℕ = λ rest. to_le_bytes w32 d.blocks ++ (to_le_bytes w64 d.counter ++ rest) in
    let tail : List ℕ → List ℕ = λ chunks. to_le_bytes w64 (tables_chunks d.tables) ++ (chunks ++ (to_le_bytes w64 (length d.objects) ++ objects_form d.objects)) in
    let texts : (to_le_bytes w16 (length d.tables) ++ tables_cells_form 1 (cells_of_tables 1 1 d.tables)) ++ tail (tables_behind (cells_of_tables 1 1 d.tables) d.tables) ≡ to_le_bytes w16 (length d.tables) ++ (tables_form 1 1 d.tables ++ tail (tables_chunks_form 1 d.tables)) =
    append_assoc (to_le_bytes w16 (length d.tables)) (tables_cells_form 1 (cells_of_tables 1 1 d.tables)) (tail (tables_behind (cells_of_tables 1 1 d.tables) d.tables))
    ∙ ap (λ (x : List ℕ). to_le_bytes w16 (length d.tables) ++ (x ++ tail (tables_behind (cells_of_tables 1 1 d.tables) d.tables))) t.form
    ∙ ap (λ (x : List ℕ). to_le_bytes w16 (length d.tables) ++ (tables_form 1 1 d.tables ++ tail x)) t.behind in
    ap head texts

parts_are : (d : OpeningData) → IsOpening d → AreParts (parts_of d)
parts_are d is =
    let t = tables_from None 1 1 d.tables is.tables in
    let few = is.few_chunks in (
      (omega (arith, is.few_blocks), record { least_is = is.some_blocks; most_is = is.few_blocks }),
      (
        (omega (arith, is.most_counter), record { least_is = is.least_counter; most_is = is.most_counter }),
        (
          record { count = t.count; few = is.few_tables; are = t.are },
          ((omega (arith, few), record { same = sym t.chunks; few = few }), (t.shown, (is.few_objects, record { count = refl; are = is.objects }))),
        ),
      ),
    )

opening_is : (x : Parts) → AreParts x → IsOpening (opening_of x) × (x ≡ parts_of (opening_of x))
opening_is x is =
    let tables = is.1.1.0 in
    let behind = is.1.1.1 in
    let count = tables.count in
    let few = tables.few in
    let t = tables_of_cells None 1 1 x.1.1.0.1 x.1.1.1.1.0 (omega arith) (omega (arith, count, few)) tables.are behind.1.0 in
    let again = tables_from None 1 1 x.1.1.1.1.0 t.are in
    let chunks : x.1.1.1.0 ≡ tables_chunks x.1.1.1.1.0 = behind.0.1.same ∙ ap chunks_in_tables t.same ∙ again.chunks in
    let len : length x.1.1.1.1.0 ≡ x.1.1.0.0 = sym again.count ∙ ap (λ (ts : List TableCells). length ts) (sym t.same) ∙ count in
    let objects = behind.1.1.1 in
    let some_objects = objects.count in
    let many_objects = behind.1.1.0 in
    let few_chunks = behind.0.1.few in (
      record {
        some_blocks = is.0.1.least_is;
        few_blocks = is.0.1.most_is;
        least_counter = is.1.0.1.least_is;
        most_counter = is.1.0.1.most_is;
        few_tables = omega (arith, len, few);
        tables = t.are;
        few_chunks = omega (arith, chunks, few_chunks);
        objects = subst (λ (held : ℕ). AreObjects 0 held x.1.1.1.1.1.1) chunks objects.are;
        few_objects = omega (arith, some_objects, many_objects);
      },
      ap (λ (n : ℕ). (x.0, (x.1.0, ((n, x.1.1.0.1), x.1.1.1)))) (sym len)
          ∙ ap (λ (ts : List TableCells). (x.0, (x.1.0, ((length x.1.1.1.1.0, ts), x.1.1.1)))) t.same
          ∙ ap (λ (n : ℕ). (x.0, (x.1.0, ((length x.1.1.1.1.0, cells_of_tables 1 1 x.1.1.1.1.0), (n, x.1.1.1.1))))) chunks
          ∙ ap (λ (n : ℕ). (x.0, (x.1.0, ((length x.1.1.1.1.0, cells_of_tables 1 1 x.1.1.1.1.0), (tables_chunks x.1.1.1.1.0, (x.1.1.1.1.0, (n, x.1.1.1.1.1.1))))))) (sym some_objects),
    )

parts_same : Same Parts OpeningData opening_of parts_form AreParts after_magic IsOpening
parts_same = record {
  back = parts_of;
  there = λ d is. refl;
  here = λ x is. let o = opening_is x is in (ap parts_form o.1 ∙ parts_shown (opening_of x) o.0, o.0);
  again = λ d is. (parts_shown d is, parts_are d is);
}

pub opening_reads : Reads OpeningData opening_at image IsOpening
unfolding image image_head
opening_reads =
    let r = both (tested blocks_defect (number w32)) (λ blocks. both (tested counter_defect (number w64)) (λ counter. both counted_at_all (λ tables. behind_tables tables.1))) in
    behind_reads OpeningData (fixed_piece magic Magic) magic (made opening_of r) after_magic IsOpening (fixed_piece_is magic Magic) (made_reads Parts OpeningData opening_of r parts_form AreParts after_magic IsOpening parts_read parts_same)

-- ---- all of the bytes

pub image_takes : (bytes : List ℕ) (d : OpeningData) → IsBytes bytes → image_at bytes ≡ Ok d → (bytes ≡ image d) × IsOpening d
unfolding image_at
image_takes bytes d fits e =
    let b = bound (opening_at bytes) (λ x. cond (eqb (length x.1) 0) (Ok x.0) (fails Extra x.1)) d e in
    let g = guard_same (eqb (length b.first.1) 0) (record { left = length b.first.1; kind = Extra }) b.first.0 d b.then in
    let nothing : b.first.1 ≡ [] = nil_from_length b.first.1 (eqb-true _ _ g.0) in
    let t = opening_reads.takes bytes b.first fits b.found in
    let whole : bytes ≡ image b.first.0 = t.0 ∙ ap (λ (r : List ℕ). image b.first.0 ++ r) nothing ∙ append-nil (image b.first.0) in
    subst (λ (y : OpeningData). (bytes ≡ image y) × IsOpening y) g.1 (whole, t.1)

pub image_again : (d : OpeningData) → IsOpening d → image_at (image d) ≡ Ok d
unfolding image_at
image_again d is =
    let whole : opening_at (image d) ≡ Ok (d, []) = ap opening_at (sym (append-nil (image d))) ∙ opening_reads.again d [] is in
    rw whole refl

-- two openings with one image are one
pub image_injective : (d e : OpeningData) → IsOpening d → IsOpening e → image d ≡ image e → d ≡ e
image_injective d e is-d is-e same = ok_is d e (sym (image_again d is-d) ∙ ap image_at same ∙ image_again e is-e)

-- ---- what a call answers

abbrev done_at : OpeningData → Result OpeningData Fault
done_at d = Ok d

pub found_is : (bytes : List ℕ) (d : OpeningData) → IsBytes bytes → image_at bytes ≡ Ok d → bytes ≡ image d
found_is bytes d fits e = (image_takes bytes d fits e).0

pub only_is : (bytes : List ℕ) (r : Result OpeningData ImageError) → Answers r (placed (length bytes) (image_at bytes)) → (d : OpeningData) → IsOpening d → bytes ≡ image d → Answers r (Ok d)
only_is bytes r given d is e =
    let read : image_at bytes ≡ Ok d = ap image_at e ∙ image_again d is in
    subst (Answers r) (ap (placed (length bytes)) read) given

pub no_fault : {P : Type 0} (bytes : List ℕ) (f : Fault) → image_at bytes ≡ Err f → (d : OpeningData) → IsOpening d → bytes ≡ image d → P
no_fault bytes f fault d is e = absurd (let both : done_at d ≡ Err f = sym (ap image_at e ∙ image_again d is) ∙ fault in cc)
