-- The place of a fault lies within the bytes, and what is left after a reader is no longer than before.
use Rattle.std.proofs.Common.{◌≡◌, ℕ, ℤ, zero, suc, ◌+◌, ◌-◌, ◌≤◌, min, Bool, true, false, cond, ltb, eqb, List, [], ◌∷◌, length, take, drop, Option, Some, None, Result, Ok, Err, arith}
use Rattle.std.specs.Prelude.{bytes_eq}
use Rattle.std.specs.Int.{Width, w16, w32, w64, byte_len, from_le_bytes}
use Rattle.std.proofs.lemmas.List.{length-drop}
use Rattle.lo_model.specs.Held.{chunk_bytes, pieces}
use Rattle.lo_image.specs.declared.fault.Defect.{Defect}
use Rattle.lo_image.specs.declared.fault.Defect.TheVariants.{Magic, Mismatch, Range, Short, Extra}
use Rattle.lo_image.specs.declared.fault.Fault.{Fault}
use Rattle.lo_image.specs.Image.{magic}
use Rattle.lo_base.specs.declared.column.Column.{Column}
use Rattle.lo_base.specs.declared.column.ColType.{ColType}
use Rattle.lo_base.specs.declared.column.ColType.TheVariants as types
use Rattle.lo_base.specs.declared.column.Storage.{Storage}
use Rattle.lo_base.specs.declared.value.Value.{Value}
use Rattle.lo_base.specs.declared.value.Value.TheVariants as values
use Rattle.lo_base.specs.declared.value.Cell.{Cell}
use Rattle.lo_base.specs.declared.value.Cell.TheVariants as cells
use Rattle.lo_opening.specs.declared.opening.ObjectData.{ObjectData}
use Rattle.lo_opening.specs.declared.opening.TableData.{TableData}
use Rattle.lo_image.specs.declared.place.BlockPlace.{BlockPlace}
use Rattle.lo_image.specs.declared.place.ChunkPlace.{ChunkPlace}
use Rattle.lo_image.specs.declared.place.ObjectPlace.{ObjectPlace}
use Rattle.lo_image.specs.declared.place.RowPlace.{RowPlace}
use Rattle.lo_image.specs.declared.place.TableCells.{TableCells}
use Rattle.lo_opening.specs.Opening.{OpeningData}
use Rattle.lo_image.specs.Readers.{◌>>=◌, fails, piece, number, judged, tested, fixed, fixed_piece, behind, both, made, many, each}
use Rattle.lo_image.specs.Reading.{byte_at, counted_at, column_at, after_column, columns_at, kind_at, storage_at, int_at, id_at, bytes_at, inline_at, outside_at, payload_at, tagged_at, cell_at, after_column_cell, cells_at, row_at, after_row, rows_at, TablePlace, table_at, after_table, tables_at, chunk_at, after_chunk, value_at, cell_value_at, next_columns, kind_in, column_value_at, row_values_at, same_columns, table_values_at, no_state, tables_values_at, block_at, after_block, blocks_at, count_defect, size_defect, counter_defect, tables_defect, object_at, after_object, objects_at, Behind, behind_tables, Parts, opening_at, image_at}

abbrev pub StaysIn : {A : Type 0} → ℕ → Result (A × List ℕ) Fault → Type 0
StaysIn n (Ok x) = length x.1 ≤ n
StaysIn n (Err f) = f.left ≤ n

abbrev pub RestStaysIn : ℕ → Result (List ℕ) Fault → Type 0
RestStaysIn n (Ok rest) = length rest ≤ n
RestStaysIn n (Err f) = f.left ≤ n

weaker : {A : Type 0} (m n : ℕ) (r : Result (A × List ℕ) Fault) → m ≤ n → StaysIn m r → StaysIn n r
weaker m n (Ok x) le h = omega (arith, h)
weaker m n (Err f) le h = omega (arith, h)

-- a step, and what follows it
stays_then : {A B : Type 0} (n : ℕ) (r : Result (A × List ℕ) Fault) (f : A × List ℕ → Result (B × List ℕ) Fault) → StaysIn n r → ((x : A × List ℕ) → length x.1 ≤ n → StaysIn n (f x)) → StaysIn n (r >>= f)
stays_then n (Ok x) f h k = k x h
stays_then n (Err e) f h k = h

rest_then : {A : Type 0} (n : ℕ) (r : Result (A × List ℕ) Fault) (f : A × List ℕ → Result (List ℕ) Fault) → StaysIn n r → ((x : A × List ℕ) → length x.1 ≤ n → RestStaysIn n (f x)) → RestStaysIn n (r >>= f)
rest_then n (Ok x) f h k = k x h
rest_then n (Err e) f h k = h

then_rest : {A : Type 0} (n : ℕ) (r : Result (List ℕ) Fault) (f : List ℕ → Result (A × List ℕ) Fault) → RestStaysIn n r → ((x : List ℕ) → length x ≤ n → StaysIn n (f x)) → StaysIn n (r >>= f)
then_rest n (Ok x) f h k = k x h
then_rest n (Err e) f h k = h

pub record Stays (A : Type 0) (r : List ℕ → Result (A × List ℕ) Fault) : Type 0 where
  pub within : (bytes : List ℕ) → StaysIn (length bytes) (r bytes)

pub record RestStays (f : List ℕ → Result (List ℕ) Fault) : Type 0 where
  pub within : (bytes : List ℕ) → RestStaysIn (length bytes) (f bytes)

cut : (b : Bool) (n : ℕ) (bytes : List ℕ) → StaysIn (length bytes) (cond {A = Result (List ℕ × List ℕ) Fault} b (fails Short bytes) (Ok (take n bytes, drop n bytes)))
cut true n bytes = omega arith
cut false n bytes = omega (arith, length-drop n bytes)

piece_stays : (n : ℕ) → Stays (List ℕ) (piece n)
piece_stays n = record { within = λ bytes. cut (ltb (length bytes) n) n bytes }

number_stays : (w : Width) → Stays ℕ (number w)
number_stays w = record { within = λ bytes. stays_then (length bytes) (piece (byte_len w) bytes) (λ x. Ok (from_le_bytes w x.0, x.1)) ((piece_stays (byte_len w)).within bytes) (λ x le. le) }

judged_stays : {A : Type 0} (defect : Option Defect) (bytes : List ℕ) (x : A × List ℕ) → length x.1 ≤ length bytes → StaysIn (length bytes) (judged defect bytes x)
judged_stays None bytes x le = le
judged_stays (Some kind) bytes x le = omega arith

tested_stays : (A : Type 0) (judge : A → Option Defect) (r : List ℕ → Result (A × List ℕ) Fault) → Stays A r → Stays A (tested judge r)
tested_stays A judge r law = record { within = λ bytes. stays_then (length bytes) (r bytes) (λ x. judged (judge x.0) bytes x) (law.within bytes) (λ x le. judged_stays (judge x.0) bytes x le) }

chosen_stays : (b : Bool) (kind : Defect) (bytes rest : List ℕ) → length rest ≤ length bytes → RestStaysIn (length bytes) (cond b (Ok rest) (fails kind bytes))
chosen_stays true kind bytes rest le = le
chosen_stays false kind bytes rest le = omega arith

fixed_stays : (w : Width) (n : ℕ) (kind : Defect) → RestStays (fixed w n kind)
fixed_stays w n kind = record { within = λ bytes. rest_then (length bytes) (number w bytes) (λ x. cond (eqb x.0 n) (Ok x.1) (fails kind bytes)) ((number_stays w).within bytes) (λ x le. chosen_stays (eqb x.0 n) kind bytes x.1 le) }

fixed_piece_stays : (text : List ℕ) (kind : Defect) → RestStays (fixed_piece text kind)
fixed_piece_stays text kind = record { within = λ bytes. rest_then (length bytes) (piece (length text) bytes) (λ x. cond (bytes_eq x.0 text) (Ok x.1) (fails kind bytes)) ((piece_stays (length text)).within bytes) (λ x le. chosen_stays (bytes_eq x.0 text) kind bytes x.1 le) }

behind_stays : (A : Type 0) (f : List ℕ → Result (List ℕ) Fault) (r : List ℕ → Result (A × List ℕ) Fault) → RestStays f → Stays A r → Stays A (behind f r)
behind_stays A f r first law = record { within = λ bytes. then_rest (length bytes) (f bytes) r (first.within bytes) (λ x le. weaker (length x) (length bytes) (r x) le (law.within x)) }

both_stays : (A B : Type 0) (r : List ℕ → Result (A × List ℕ) Fault) (k : A → List ℕ → Result (B × List ℕ) Fault) → Stays A r → ((a : A) → Stays B (k a)) → Stays (A × B) (both r k)
both_stays A B r k law more = record {
  within = λ bytes.
      stays_then (length bytes) (r bytes) (λ x. k x.0 x.1 >>= λ y. Ok ((x.0, y.0), y.1)) (law.within bytes) (λ x le.
      stays_then (length bytes) (k x.0 x.1) (λ y. Ok ((x.0, y.0), y.1)) (weaker (length x.1) (length bytes) (k x.0 x.1) le ((more x.0).within x.1)) (λ y small. small));
}

made_stays : (A B : Type 0) (f : A → B) (r : List ℕ → Result (A × List ℕ) Fault) → Stays A r → Stays B (made f r)
made_stays A B f r law = record { within = λ bytes. stays_then (length bytes) (r bytes) (λ x. Ok (f x.0, x.1)) (law.within bytes) (λ x le. le) }

many_stay_in : (A S : Type 0) (r : S → List ℕ → Result (A × List ℕ) Fault) (next : S → A → S) (law : (s : S) → Stays A (r s)) (s : S) (n : ℕ) (bytes : List ℕ) → StaysIn (length bytes) (many r next s n bytes)
unfolding many
many_stay_in A S r next law s zero bytes = omega arith
many_stay_in A S r next law s (suc n) bytes =
    stays_then (length bytes) (r s bytes) (λ x. many r next (next s x.0) n x.1 >>= λ y. Ok (x.0 ∷ y.0, y.1)) ((law s).within bytes) (λ x le.
    stays_then (length bytes) (many r next (next s x.0) n x.1) (λ y. Ok (x.0 ∷ y.0, y.1)) (weaker (length x.1) (length bytes) (many r next (next s x.0) n x.1) le (many_stay_in A S r next law (next s x.0) n x.1)) (λ y small. small))

many_stays : (A S : Type 0) (r : S → List ℕ → Result (A × List ℕ) Fault) (next : S → A → S) (law : (s : S) → Stays A (r s)) (s : S) (n : ℕ) → Stays (List A) (many r next s n)
many_stays A S r next law s n = record { within = λ bytes. many_stay_in A S r next law s n bytes }

each_stay_in : (A B S : Type 0) (r : S → A → List ℕ → Result (B × List ℕ) Fault) (next : S → A → B → S) (law : (s : S) (a : A) → Stays B (r s a)) (s : S) (items : List A) (bytes : List ℕ) → StaysIn (length bytes) (each r next s items bytes)
unfolding each
each_stay_in A B S r next law s [] bytes = omega arith
each_stay_in A B S r next law s (a ∷ items) bytes =
    stays_then (length bytes) (r s a bytes) (λ x. each r next (next s a x.0) items x.1 >>= λ y. Ok (x.0 ∷ y.0, y.1)) ((law s a).within bytes) (λ x le.
    stays_then (length bytes) (each r next (next s a x.0) items x.1) (λ y. Ok (x.0 ∷ y.0, y.1)) (weaker (length x.1) (length bytes) (each r next (next s a x.0) items x.1) le (each_stay_in A B S r next law (next s a x.0) items x.1)) (λ y small. small))

each_stays : (A B S : Type 0) (r : S → A → List ℕ → Result (B × List ℕ) Fault) (next : S → A → B → S) (law : (s : S) (a : A) → Stays B (r s a)) (s : S) (items : List A) → Stays (List B) (each r next s items)
each_stays A B S r next law s items = record { within = λ bytes. each_stay_in A B S r next law s items bytes }

-- ---- the records of an image

byte_in : (bytes : List ℕ) → StaysIn (length bytes) (byte_at bytes)
byte_in [] = omega arith
byte_in (b ∷ rest) = omega arith

byte_stays : Stays ℕ byte_at
byte_stays = record { within = byte_in }

counted_in : (b : Bool) (bytes : List ℕ) (n : ℕ) (rest : List ℕ) → length rest ≤ length bytes → StaysIn (length bytes) (cond {A = Result (List ℕ × List ℕ) Fault} b (fails Short bytes) (piece n rest))
counted_in true bytes n rest le = omega arith
counted_in false bytes n rest le = weaker (length rest) (length bytes) (piece n rest) le ((piece_stays n).within rest)

counted_stays : Stays (List ℕ) counted_at
counted_stays = record { within = λ bytes. stays_then (length bytes) (byte_at bytes) (λ x. cond (ltb (length x.1) x.0) (fails Short bytes) (piece x.0 x.1)) (byte_in bytes) (λ x le. counted_in (ltb (length x.1) x.0) bytes x.0 x.1 le) }

kind_stays : (before : List Column) → Stays ColType (kind_at before)
kind_stays before = made_stays ℕ ColType _ _ (tested_stays ℕ _ byte_at byte_stays)

storage_stays : (kind : ColType) → Stays Storage (storage_at kind)
storage_stays kind = made_stays ℕ Storage _ _ (tested_stays ℕ _ byte_at byte_stays)

column_stays : (before : List Column) → Stays Column (column_at before)
column_stays before = made_stays (List ℕ × (ColType × Storage)) Column _ _ (both_stays (List ℕ) (ColType × Storage) _ (λ name. both (kind_at before) storage_at) (tested_stays (List ℕ) _ counted_at counted_stays) (λ name. both_stays ColType Storage (kind_at before) storage_at (kind_stays before) storage_stays))

columns_stay : Stays (ℕ × List Column) columns_at
columns_stay = both_stays ℕ (List Column) _ (many column_at after_column []) (tested_stays ℕ _ byte_at byte_stays) (λ n. many_stays Column (List Column) column_at after_column column_stays [] n)

int_stays : Stays ℤ int_at
int_stays = made_stays ℕ ℤ _ (number w64) (number_stays w64)

id_stays : (last : Option ℤ) → Stays Cell (id_at last)
id_stays last = behind_stays Cell (fixed_piece (1 ∷ []) Range) _ (fixed_piece_stays (1 ∷ []) Range) (made_stays ℤ Cell cells.Int _ (tested_stays ℤ _ int_at int_stays))

bytes_stay : Stays Cell bytes_at
bytes_stay = made_stays (ℕ × List ℕ) Cell _ _ (both_stays ℕ (List ℕ) _ piece (tested_stays ℕ _ (number w32) (number_stays w32)) piece_stays)

inline_stays : (kind : ColType) → Stays Cell (inline_at kind)
inline_stays types.Int8 = made_stays ℤ Cell cells.Int int_at int_stays
inline_stays types.Oid = made_stays ℕ Cell cells.Oid (number w32) (number_stays w32)
inline_stays types.Lo = made_stays ℕ Cell cells.Oid (number w32) (number_stays w32)
inline_stays types.Bytea = bytes_stay
inline_stays types.Int4Array = bytes_stay

outside_stays : (table value : ℕ) → Stays Cell (outside_at table value)
outside_stays table value =
    let Bytes = List ℕ in
    let last : ℕ → List ℕ → Result (Bytes × List ℕ) Fault = λ raw. behind (fixed w32 (raw - 4) Mismatch) (behind (fixed w32 value Mismatch) (behind (fixed w32 table Mismatch) (piece 0))) in
    made_stays (ℕ × Bytes) Cell _ _ (behind_stays (ℕ × Bytes) (fixed_piece (1 ∷ 18 ∷ []) Mismatch) _ (fixed_piece_stays (1 ∷ 18 ∷ []) Mismatch)
    (both_stays ℕ Bytes _ last (tested_stays ℕ _ (number w32) (number_stays w32)) (λ raw.
    behind_stays Bytes (fixed w32 (raw - 4) Mismatch) _ (fixed_stays w32 (raw - 4) Mismatch) (behind_stays Bytes (fixed w32 value Mismatch) _ (fixed_stays w32 value Mismatch) (behind_stays Bytes (fixed w32 table Mismatch) (piece 0) (fixed_stays w32 table Mismatch) (piece_stays 0))))))

null_stays : Stays Cell (λ bytes. Ok (cells.Null, bytes))
null_stays = record { within = λ bytes. omega arith }

payload_stays : (kind : ColType) (table value tag : ℕ) → Stays Cell (payload_at kind table value tag)
payload_stays kind table value zero = null_stays
payload_stays kind table value (suc zero) = inline_stays kind
payload_stays kind table value (suc (suc n)) = outside_stays table value

cell_stays : (table value : ℕ) (column : Column) → Stays Cell (cell_at table value column)
cell_stays table value column = tested_stays Cell _ (tagged_at table value column) (made_stays (ℕ × Cell) Cell _ _ (both_stays ℕ Cell _ (payload_at column.kind table value) (tested_stays ℕ _ byte_at byte_stays) (payload_stays column.kind table value)))

row_stays : (columns : List Column) (table : ℕ) (p : RowPlace) → Stays (List Cell) (row_at columns table p)
row_stays columns table p = tested_stays (List Cell) _ (cells_at columns table p) (made_stays (Cell × List Cell) (List Cell) _ _ (both_stays Cell (List Cell) (id_at p.last) (λ id. each (cell_at table) after_column_cell p.value (drop 1 columns)) (id_stays p.last) (λ id. each_stays Column Cell ℕ (cell_at table) after_column_cell (cell_stays table) p.value (drop 1 columns))))

table_stays : (p : TablePlace) → Stays TableCells (table_at p)
table_stays p =
    let Rows = ℕ × List (List Cell) in
    let Columns = ℕ × List Column in
    let rows : Columns → List ℕ → Result (Rows × List ℕ) Fault = λ columns. both (number w64) (rows_at columns.1 p.table p.value) in
    made_stays (List ℕ × (Columns × Rows)) TableCells _ _ (both_stays (List ℕ) (Columns × Rows) _ (λ name. both columns_at rows) (tested_stays (List ℕ) _ counted_at counted_stays)
    (λ name. both_stays Columns Rows columns_at rows columns_stay (λ columns. both_stays ℕ (List (List Cell)) (number w64) (rows_at columns.1 p.table p.value) (number_stays w64) (λ n. many_stays (List Cell) RowPlace (row_at columns.1 p.table) after_row (row_stays columns.1 p.table) (record { last = None; value = p.value }) n))))

chunk_stays : (value : ℕ) (p : ChunkPlace) → Stays (List ℕ) (chunk_at value p)
chunk_stays value p =
    let Bytes = List ℕ in
    behind_stays Bytes (fixed w32 value Mismatch) _ (fixed_stays w32 value Mismatch) (behind_stays Bytes (fixed w32 p.number Mismatch) _ (fixed_stays w32 p.number Mismatch) (behind_stays Bytes (fixed w16 (min chunk_bytes p.left) Mismatch) _ (fixed_stays w16 (min chunk_bytes p.left) Mismatch) (piece_stays (min chunk_bytes p.left))))

value_stays : (value len : ℕ) → Stays (List ℕ) (value_at value len)
value_stays value len = made_stays (List (List ℕ)) (List ℕ) _ _ (many_stays (List ℕ) ChunkPlace (chunk_at value) after_chunk (chunk_stays value) (record { number = 0; left = len }) (pieces chunk_bytes len))

cell_value_stays : (kind : ColType) (c : Cell) → Stays Value (cell_value_at kind c)
cell_value_stays kind cells.Null = record { within = λ bytes. omega arith }
cell_value_stays kind (cells.Int z) = record { within = λ bytes. omega arith }
cell_value_stays kind (cells.Oid n) = record { within = λ bytes. omega arith }
cell_value_stays kind (cells.Inline own) = record { within = λ bytes. omega arith }
cell_value_stays kind (cells.Text own) = record { within = λ bytes. omega arith }
cell_value_stays kind (cells.Outside n value) = made_stays (List ℕ) Value values.Bytes _ (tested_stays (List ℕ) _ (value_at value n) (value_stays value n))

row_values_stay : (columns : List Column) (row : List Cell) → Stays (List Value) (row_values_at columns row)
row_values_stay columns row = each_stays Cell Value (List Column) column_value_at next_columns (λ cs c. cell_value_stays (kind_in cs) c) columns row

table_values_stay : (nothing : ℕ) (t : TableCells) → Stays TableData (table_values_at nothing t)
table_values_stay nothing t = made_stays (List (List Value)) TableData _ _ (each_stays (List Cell) (List Value) (List Column) row_values_at same_columns row_values_stay t.columns t.rows)

block_stays : (size : ℕ) (p : BlockPlace) → Stays (ℕ × List ℕ) (block_at size p)
block_stays size p = both_stays ℕ (List ℕ) _ _ (tested_stays ℕ _ (number w32) (number_stays w32)) (λ b. behind_stays (List ℕ) _ _ (fixed_stays w16 _ Mismatch) (tested_stays (List ℕ) _ _ (piece_stays _)))

object_stays : (p : ObjectPlace) → Stays ObjectData (object_at p)
object_stays p =
    let Blocks = List (ℕ × List ℕ) in
    let counted : ℕ → List ℕ → Result ((ℕ × Blocks) × List ℕ) Fault = λ size. both (tested (count_defect size p.held) (number w32)) (blocks_at size p.held) in
    let sized : ℕ → List ℕ → Result ((ℕ × (ℕ × Blocks)) × List ℕ) Fault = λ oid. both (tested size_defect (number w64)) counted in
    made_stays (ℕ × (ℕ × (ℕ × Blocks))) ObjectData _ _ (both_stays ℕ (ℕ × (ℕ × Blocks)) _ sized (tested_stays ℕ _ (number w32) (number_stays w32)) (λ oid. both_stays ℕ (ℕ × Blocks) _ counted (tested_stays ℕ size_defect (number w64) (number_stays w64)) (λ size. both_stays ℕ Blocks _ (blocks_at size p.held) (tested_stays ℕ _ (number w32) (number_stays w32)) (λ n. many_stays (ℕ × List ℕ) BlockPlace (block_at size) after_block (block_stays size) (record { least = 0; left = n; held = p.held + n }) n))))

behind_all_stays : (tables : List TableCells) → Stays Behind (behind_tables tables)
behind_all_stays tables =
    let Listed = ℕ × List ObjectData in
    let listed : ℕ → List ℕ → Result (Listed × List ℕ) Fault = λ held. both (number w64) (objects_at held) in
    let shown : ℕ → List ℕ → Result ((List TableData × Listed) × List ℕ) Fault = λ held. both (tables_values_at tables) (λ ts. listed held) in
    both_stays ℕ (List TableData × Listed) _ shown (tested_stays ℕ _ (number w64) (number_stays w64)) (λ held. both_stays (List TableData) Listed (tables_values_at tables) (λ ts. listed held) (each_stays TableCells TableData ℕ table_values_at no_state table_values_stay 0 tables)
    (λ ts. both_stays ℕ (List ObjectData) (number w64) (objects_at held) (number_stays w64) (λ n. many_stays ObjectData ObjectPlace object_at after_object object_stays (record { least = 0; held = held }) n)))

opening_stays : Stays OpeningData opening_at
opening_stays =
    let Tables = ℕ × List TableCells in
    let Rest = Tables × Behind in
    let tabled : List ℕ → Result (Tables × List ℕ) Fault = both (tested tables_defect (number w16)) tables_at in
    let rest : List ℕ → Result (Rest × List ℕ) Fault = both tabled (λ tables. behind_tables tables.1) in
    let counted : List ℕ → Result ((ℕ × Rest) × List ℕ) Fault = both (tested counter_defect (number w64)) (λ counter. rest) in
    behind_stays OpeningData (fixed_piece magic Magic) _ (fixed_piece_stays magic Magic) (made_stays Parts OpeningData _ _ (both_stays ℕ (ℕ × Rest) _ (λ blocks. counted) (tested_stays ℕ _ (number w32) (number_stays w32))
    (λ blocks. both_stays ℕ Rest _ (λ counter. rest) (tested_stays ℕ _ (number w64) (number_stays w64))
    (λ counter. both_stays Tables Behind tabled (λ tables. behind_tables tables.1) (both_stays ℕ (List TableCells) _ tables_at (tested_stays ℕ _ (number w16) (number_stays w16)) (λ n. many_stays TableCells TablePlace table_at after_table table_stays (record { last = None; table = 1; value = 1 }) n)) (λ tables. behind_all_stays tables.1)))))

extra_in : (n : ℕ) (b : Bool) (x : OpeningData × List ℕ) (f : Fault) → length x.1 ≤ n → cond {A = Result OpeningData Fault} b (Ok x.0) (fails Extra x.1) ≡ Err f → f.left ≤ n
extra_in n true x f le same = absurd cc
extra_in n false x f le same = let is : length x.1 ≡ f.left = cc in omega (arith, le, is)

extra_at : (n : ℕ) (r : Result (OpeningData × List ℕ) Fault) (f : Fault) → StaysIn n r → (r >>= λ x. cond (eqb (length x.1) 0) (Ok x.0) (fails Extra x.1)) ≡ Err f → f.left ≤ n
extra_at n (Err e) f h same = let is : e.left ≡ f.left = cc in omega (arith, h, is)
extra_at n (Ok x) f h same = extra_in n (eqb (length x.1) 0) x f h same

-- the place of the first fault is within the bytes
pub image_fault_within : (bytes : List ℕ) (f : Fault) → image_at bytes ≡ Err f → f.left ≤ length bytes
unfolding image_at
image_fault_within bytes f e = extra_at (length bytes) (opening_at bytes) f (opening_stays.within bytes) e
