-- The law for a cell: alternatives by its tag, and by the column's type.
use Rattle.std.proofs.Common.{◌≡◌, ◌≢◌, ℕ, ℤ, zero, suc, ◌+◌, ◌-◌, ◌^◌, ◌<◌, ◌≤◌, Bool, true, false, cond, ◌&&◌, ◌||◌, not, leb, eqb, List, [], ◌∷◌, ◌++◌, length, Ok, Option, Some, None, Fits, refl, sym, ap, subst, ◌∙◌, arith, inl, inr}
use Rattle.std.specs.Int.{w32, w64, to_le_bytes, cast_signed, cast_unsigned}
use Rattle.std.specs.Int.RustNames.{FitsSigned}
use Rattle.std.proofs.lemmas.Bool.Decides.{nat_tests}
use Rattle.std.proofs.lemmas.Bool.{cases_Bool}
use Rattle.std.proofs.lemmas.List.{nil_from_length}
use Rattle.std.proofs.Math.Facts.{sfits_to_z, Fits-of_z}
use Rattle.std.proofs.lemmas.Int.{to_z-of_z, of_z-to_z}
use Rattle.lo_base.specs.declared.column.Column.{Column}
use Rattle.lo_base.specs.declared.column.ColType.{ColType}
use Rattle.lo_base.specs.declared.column.ColType.TheVariants as types
use Rattle.lo_base.specs.declared.column.Storage.{Storage}
use Rattle.lo_base.specs.declared.value.Value.TheVariants as values
use Rattle.lo_base.specs.declared.value.Cell.{Cell}
use Rattle.lo_base.specs.declared.value.Cell.TheVariants as cells
use Rattle.toast_plan.specs.Pointer.{pointer_form}
use Rattle.expanded_array.specs.Flat.{IsFlat}
use Rattle.expanded_array.specs.Layout.{is_flat_layout}
use Rattle.expanded_array.proofs.FlatLaws.{flat_laid_out, laid_out_is_flat}
use Rattle.lo_image.specs.declared.fault.Defect.{Defect}
use Rattle.lo_image.specs.declared.fault.Defect.TheVariants.{Mismatch, Range, Array}
use Rattle.lo_opening.specs.Opening.{IsArrayIfThere}
use Rattle.lo_image.specs.Readers.{piece, number, tested, fixed, fixed_piece, behind, both, made}
use Rattle.lo_image.specs.Reading.{byte_at, int_at, is_plain, tag_defect, length_defect, raw_defect, null_at, inline_of, bytes_at, inline_at, outside_of_raw, outside_at, payload_at, second, tagged_at, array_defect, cell_defect, cell_at}
use Rattle.lo_image.proofs.ReaderLaws.{IsBytes, ok_is, Reads, Judges, wide32, wide64, number_reads, piece_reads, fixed_piece_is, tested_reads, behind_reads, fixed_reads, both_reads, made_reads, same_reads}
use Rattle.lo_image.proofs.ListLaws.{AreSmall, bytes_of_small, AreLong, bytes_read}
use Rattle.lo_image.proofs.ColumnLaws.{byte_reads}

-- ---- numbers

pub int_reads : Reads ℤ int_at (λ z. to_le_bytes w64 (cast_unsigned w64 z)) (FitsSigned w64)
int_reads =
    made_reads ℕ ℤ (cast_signed w64) (number w64) (to_le_bytes w64) (λ n. n < 2 ^ 64) (λ z. to_le_bytes w64 (cast_unsigned w64 z)) (FitsSigned w64) (number_reads w64 (2 ^ 64) wide64)
    (record {
      back = cast_unsigned w64;
      there = λ z is. to_z-of_z w64 z is;
      here = λ n is. (ap (to_le_bytes w64) (sym (of_z-to_z w64 n is)), (let range : Fits w64 n = omega (arith, is) in sfits_to_z range));
      again = λ z is. (refl, (let range : Fits w64 (cast_unsigned w64 z) = Fits-of_z is in omega (arith, range)));
    })

length_judged : Judges ℕ (λ n. n < 2 ^ 32) length_defect (λ n. n ≤ 16777216)
length_judged = record { sound = λ n is e. grind (arith, nat_tests); again = λ n is rule. grind (arith, nat_tests) }

pub record IsRaw (n : ℕ) : Type 0 where
  pub some : 4 ≤ n
  pub few : n ≤ 16777220

raw_judged : Judges ℕ (λ n. n < 2 ^ 32) raw_defect IsRaw
raw_judged = record {
  sound = λ n is e. record { some = grind (arith, nat_tests); few = grind (arith, nat_tests) };
  again = λ n is rule. let some = rule.some in let few = rule.few in grind (arith, nat_tests);
}

pub record TagRule (storage : Storage) (tag : ℕ) : Type 0 where
  pub few : tag ≤ 2
  pub movable : tag ≡ 2 → is_plain storage ≡ false

tag_of_tests : (storage : Storage) (plain : Bool) (tag : ℕ) → is_plain storage ≡ plain → cond {A = Option Defect} (leb tag 1 || (eqb tag 2 && not plain)) None (Some Range) ≡ None → TagRule storage tag
tag_of_tests storage true tag p e = record { few = grind (arith, nat_tests); movable = λ two. absurd (let le : tag ≤ 1 = grind (arith, nat_tests) in omega (arith, le, two)) }
tag_of_tests storage false tag p e = record { few = grind (arith, nat_tests); movable = λ two. p }

tag_from : (storage : Storage) (plain : Bool) (tag : ℕ) → is_plain storage ≡ plain → TagRule storage tag → cond {A = Option Defect} (leb tag 1 || (eqb tag 2 && not plain)) None (Some Range) ≡ None
tag_from storage true tag p rule = let few = rule.few in let other : tag ≡ 2 → true ≡ false = λ two. sym p ∙ rule.movable two in let le : tag ≤ 1 = elim (cases_Bool (eqb tag 2)) [ inl two ↦ absurd (let is : tag ≡ 2 = grind (arith, nat_tests) in let bad = other is in cc) | inr off ↦ let is : tag ≢ 2 = grind (arith, nat_tests) in omega (arith, few, is) ] in grind (arith, nat_tests)
tag_from storage false tag p rule = let few = rule.few in grind (arith, nat_tests)

tag_judged : (storage : Storage) → Judges ℕ (λ n. n < 256) (tag_defect storage) (TagRule storage)
tag_judged storage = record { sound = λ n is e. tag_of_tests storage (is_plain storage) n refl e; again = λ n is rule. tag_from storage (is_plain storage) n refl rule }

-- ---- what stands behind a tag

abbrev pub is_oid_kind : ColType → Bool
is_oid_kind types.Int8 = false
is_oid_kind types.Oid = true
is_oid_kind types.Lo = true
is_oid_kind types.Bytea = false
is_oid_kind types.Int4Array = false

abbrev pub is_bytes_kind : ColType → Bool
is_bytes_kind types.Int8 = false
is_bytes_kind types.Oid = false
is_bytes_kind types.Lo = false
is_bytes_kind types.Bytea = true
is_bytes_kind types.Int4Array = true

-- a cell with its tag, where that value's number is the next
abbrev pub IsPayload : ColType → (table value tag : ℕ) → Cell → Type 0
IsPayload kind table value tag cells.Null = tag ≡ 0
IsPayload kind table value tag (cells.Int z) = (tag ≡ 1) × (kind ≡ types.Int8) × FitsSigned w64 z
IsPayload kind table value tag (cells.Oid n) = (tag ≡ 1) × (is_oid_kind kind ≡ true) × (n < 2 ^ 32)
IsPayload kind table value tag (cells.Inline bytes) = (tag ≡ 1) × (is_bytes_kind kind ≡ true) × (length bytes ≤ 16777216) × AreSmall bytes
IsPayload kind table value tag (cells.Text bytes) = ⊥
IsPayload kind table value tag (cells.Outside n number) = (tag ≡ 2) × (n ≤ 16777216) × (number ≡ value) × (value < 2 ^ 32) × (table < 2 ^ 32)

abbrev pub tail_form : (table : ℕ) → Cell → List ℕ
tail_form table cells.Null = []
tail_form table (cells.Int z) = to_le_bytes w64 (cast_unsigned w64 z)
tail_form table (cells.Oid n) = to_le_bytes w32 n
tail_form table (cells.Inline bytes) = to_le_bytes w32 (length bytes) ++ bytes
tail_form table (cells.Text bytes) = []
tail_form table (cells.Outside n number) = pointer_form (record { length = n; value = number; table = table })

null_takes : (kind : ColType) (table value : ℕ) (bytes : List ℕ) (x : Cell × List ℕ) → null_at bytes ≡ Ok x → (bytes ≡ tail_form table x.0 ++ x.1) × IsPayload kind table value 0 x.0
null_takes kind table value bytes x e = subst (λ (y : Cell × List ℕ). (bytes ≡ tail_form table y.0 ++ y.1) × IsPayload kind table value 0 y.0) (ok_is (cells.Null, bytes) x e) (refl, refl)

null_again : (kind : ColType) (table value : ℕ) (c : Cell) (rest : List ℕ) → IsPayload kind table value 0 c → null_at (tail_form table c ++ rest) ≡ Ok (c, rest)
null_again kind table value cells.Null rest is = refl
null_again kind table value (cells.Int z) rest is = absurd (omega (arith, is.0))
null_again kind table value (cells.Oid n) rest is = absurd (omega (arith, is.0))
null_again kind table value (cells.Inline bytes) rest is = absurd (omega (arith, is.0))
null_again kind table value (cells.Text bytes) rest is = absurd is
null_again kind table value (cells.Outside n number) rest is = absurd (omega (arith, is.0))

null_reads : (kind : ColType) (table value : ℕ) → Reads Cell null_at (tail_form table) (IsPayload kind table value 0)
null_reads kind table value = record { takes = λ bytes x fits e. null_takes kind table value bytes x e; again = λ c rest is. null_again kind table value c rest is }

-- the parts of a cell of one kind, and parts of no use of the others
abbrev int_of : Cell → ℤ
int_of cells.Null = cast_signed w64 0
int_of (cells.Int z) = z
int_of (cells.Oid n) = cast_signed w64 0
int_of (cells.Inline bytes) = cast_signed w64 0
int_of (cells.Text bytes) = cast_signed w64 0
int_of (cells.Outside n number) = cast_signed w64 0

abbrev oid_of : Cell → ℕ
oid_of cells.Null = 0
oid_of (cells.Int z) = 0
oid_of (cells.Oid n) = n
oid_of (cells.Inline bytes) = 0
oid_of (cells.Text bytes) = 0
oid_of (cells.Outside n number) = 0

abbrev bytes_of : Cell → List ℕ
bytes_of cells.Null = []
bytes_of (cells.Int z) = []
bytes_of (cells.Oid n) = []
bytes_of (cells.Inline bytes) = bytes
bytes_of (cells.Text bytes) = []
bytes_of (cells.Outside n number) = []

abbrev length_of : Cell → ℕ
length_of cells.Null = 0
length_of (cells.Int z) = 0
length_of (cells.Oid n) = 0
length_of (cells.Inline bytes) = 0
length_of (cells.Text bytes) = 0
length_of (cells.Outside n number) = n

int_back : (table value : ℕ) (c : Cell) → IsPayload types.Int8 table value 1 c → (cells.Int (int_of c) ≡ c) × (to_le_bytes w64 (cast_unsigned w64 (int_of c)) ≡ tail_form table c) × FitsSigned w64 (int_of c)
int_back table value cells.Null is = absurd (omega (arith, is))
int_back table value (cells.Int z) is = (refl, refl, is.2)
int_back table value (cells.Oid n) is = absurd (let bad = is.1 in cc)
int_back table value (cells.Inline bytes) is = absurd (let bad = is.1 in cc)
int_back table value (cells.Text bytes) is = absurd is
int_back table value (cells.Outside n number) is = absurd (omega (arith, is.0))

oid_back : (kind : ColType) (table value : ℕ) (c : Cell) → is_oid_kind kind ≡ true → IsPayload kind table value 1 c → (cells.Oid (oid_of c) ≡ c) × (to_le_bytes w32 (oid_of c) ≡ tail_form table c) × (oid_of c < 2 ^ 32)
oid_back kind table value cells.Null k is = absurd (omega (arith, is))
oid_back kind table value (cells.Int z) k is = absurd (let bad : is_oid_kind types.Int8 ≡ true = rw is.1 at k in cc)
oid_back kind table value (cells.Oid n) k is = (refl, refl, is.2)
oid_back kind table value (cells.Inline bytes) k is = absurd (both_kinds kind k is.1)
  where
    both_kinds : (kind : ColType) → is_oid_kind kind ≡ true → is_bytes_kind kind ≡ true → ⊥
    both_kinds types.Int8 k b = absurd cc
    both_kinds types.Oid k b = absurd cc
    both_kinds types.Lo k b = absurd cc
    both_kinds types.Bytea k b = absurd cc
    both_kinds types.Int4Array k b = absurd cc
oid_back kind table value (cells.Text bytes) k is = absurd is
oid_back kind table value (cells.Outside n number) k is = absurd (omega (arith, is.0))

not_int : (kind : ColType) → is_bytes_kind kind ≡ true → kind ≡ types.Int8 → ⊥
not_int kind k e = let bad : is_bytes_kind types.Int8 ≡ true = rw e at k in absurd cc

not_oid : (kind : ColType) → is_bytes_kind kind ≡ true → is_oid_kind kind ≡ true → ⊥
not_oid types.Int8 k b = absurd cc
not_oid types.Oid k b = absurd cc
not_oid types.Lo k b = absurd cc
not_oid types.Bytea k b = absurd cc
not_oid types.Int4Array k b = absurd cc

inline_back : (kind : ColType) (table value : ℕ) (c : Cell) → is_bytes_kind kind ≡ true → IsPayload kind table value 1 c → (cells.Inline (bytes_of c) ≡ c) × (to_le_bytes w32 (length (bytes_of c)) ++ bytes_of c ≡ tail_form table c) × (length (bytes_of c) ≤ 16777216) × AreSmall (bytes_of c)
inline_back kind table value cells.Null k is = absurd (omega (arith, is))
inline_back kind table value (cells.Int z) k is = absurd (not_int kind k is.1)
inline_back kind table value (cells.Oid n) k is = absurd (not_oid kind k is.1)
inline_back kind table value (cells.Inline bytes) k is = (refl, refl, is.2, is.3)
inline_back kind table value (cells.Text bytes) k is = absurd is
inline_back kind table value (cells.Outside n number) k is = absurd (omega (arith, is.0))

int_cell_reads : (table value : ℕ) → Reads Cell (made cells.Int int_at) (tail_form table) (IsPayload types.Int8 table value 1)
int_cell_reads table value =
    made_reads ℤ Cell cells.Int int_at (λ z. to_le_bytes w64 (cast_unsigned w64 z)) (FitsSigned w64) (tail_form table) (IsPayload types.Int8 table value 1) int_reads
    (record {
      back = int_of;
      there = λ c is. (int_back table value c is).0;
      here = λ z is. (refl, (refl, refl, is));
      again = λ c is. let g = int_back table value c is in (g.1, g.2);
    })

oid_cell_reads : (kind : ColType) (table value : ℕ) → is_oid_kind kind ≡ true → Reads Cell (made cells.Oid (number w32)) (tail_form table) (IsPayload kind table value 1)
oid_cell_reads kind table value k =
    made_reads ℕ Cell cells.Oid (number w32) (to_le_bytes w32) (λ n. n < 2 ^ 32) (tail_form table) (IsPayload kind table value 1) (number_reads w32 (2 ^ 32) wide32)
    (record {
      back = oid_of;
      there = λ c is. (oid_back kind table value c k is).0;
      here = λ n is. (refl, (refl, k, is));
      again = λ c is. let g = oid_back kind table value c k is in (g.1, g.2);
    })

bytes_reads : (kind : ColType) (table value : ℕ) → is_bytes_kind kind ≡ true → Reads Cell bytes_at (tail_form table) (IsPayload kind table value 1)
bytes_reads kind table value k =
    let lens = tested_reads ℕ (number w32) (to_le_bytes w32) (λ n. n < 2 ^ 32) length_defect (λ n. n ≤ 16777216) (number_reads w32 (2 ^ 32) wide32) length_judged in
    made_reads (ℕ × List ℕ) Cell inline_of (both (tested length_defect (number w32)) piece) (λ x. to_le_bytes w32 x.0 ++ x.1) (λ x. ((x.0 < 2 ^ 32) × (x.0 ≤ 16777216)) × AreLong x.0 x.1) (tail_form table) (IsPayload kind table value 1)
    (both_reads ℕ (List ℕ) (tested length_defect (number w32)) piece (to_le_bytes w32) (λ n a. a) (λ n. (n < 2 ^ 32) × (n ≤ 16777216)) AreLong lens (λ n is. bytes_read n))
    (record {
      back = λ c. (length (bytes_of c), bytes_of c);
      there = λ c is. (inline_back kind table value c k is).0;
      here = λ x is. let len = is.1.len in let few = is.0.1 in (rw len refl, (refl, k, omega (arith, len, few), is.1.small));
      again = λ c is. let g = inline_back kind table value c k is in let few = g.2 in (g.1, ((omega (arith, few), few), record { len = refl; small = g.3 }));
    })

inline_reads : (kind : ColType) (table value : ℕ) → Reads Cell (inline_at kind) (tail_form table) (IsPayload kind table value 1)
inline_reads types.Int8 table value = int_cell_reads table value
inline_reads types.Oid table value = oid_cell_reads types.Oid table value refl
inline_reads types.Lo table value = oid_cell_reads types.Lo table value refl
inline_reads types.Bytea table value = bytes_reads types.Bytea table value refl
inline_reads types.Int4Array table value = bytes_reads types.Int4Array table value refl

abbrev numbers_form : ℕ → ℕ → ℕ × List ℕ → List ℕ
numbers_form table value x = 1 ∷ 18 ∷ [] ++ (to_le_bytes w32 x.0 ++ (to_le_bytes w32 (x.0 - 4) ++ (to_le_bytes w32 value ++ (to_le_bytes w32 table ++ x.1))))

abbrev AreNumbers : ℕ → ℕ → ℕ × List ℕ → Type 0
AreNumbers table value x = ((x.0 < 2 ^ 32) × IsRaw x.0) × ((x.0 - 4 < 2 ^ 32) × ((value < 2 ^ 32) × ((table < 2 ^ 32) × (length x.1 ≡ 0))))

outside_numbers : (table value : ℕ) → Reads (ℕ × List ℕ) (behind (fixed_piece (1 ∷ 18 ∷ []) Mismatch) (both (tested raw_defect (number w32)) (λ raw. behind (fixed w32 (raw - 4) Mismatch) (behind (fixed w32 value Mismatch) (behind (fixed w32 table Mismatch) (piece 0)))))) (numbers_form table value) (AreNumbers table value)
outside_numbers table value =
    let Bytes = List ℕ in
    let raws = tested_reads ℕ (number w32) (to_le_bytes w32) (λ n. n < 2 ^ 32) raw_defect IsRaw (number_reads w32 (2 ^ 32) wide32) raw_judged in
    let tables = fixed_reads Bytes w32 (2 ^ 32) wide32 table Mismatch (piece 0) (λ a. a) (λ a. length a ≡ 0) (piece_reads 0) in
    let values = fixed_reads Bytes w32 (2 ^ 32) wide32 value Mismatch (behind (fixed w32 table Mismatch) (piece 0)) (λ a. to_le_bytes w32 table ++ a) (λ a. (table < 2 ^ 32) × (length a ≡ 0)) tables in
    let lens = λ (raw : ℕ). fixed_reads Bytes w32 (2 ^ 32) wide32 (raw - 4) Mismatch (behind (fixed w32 value Mismatch) (behind (fixed w32 table Mismatch) (piece 0))) (λ a. to_le_bytes w32 value ++ (to_le_bytes w32 table ++ a)) (λ a. (value < 2 ^ 32) × ((table < 2 ^ 32) × (length a ≡ 0))) values in
    let r = both (tested raw_defect (number w32)) (λ raw. behind (fixed w32 (raw - 4) Mismatch) (behind (fixed w32 value Mismatch) (behind (fixed w32 table Mismatch) (piece 0)))) in
    let more = both_reads ℕ Bytes (tested raw_defect (number w32)) (λ raw. behind (fixed w32 (raw - 4) Mismatch) (behind (fixed w32 value Mismatch) (behind (fixed w32 table Mismatch) (piece 0)))) (to_le_bytes w32) (λ raw a. to_le_bytes w32 (raw - 4) ++ (to_le_bytes w32 value ++ (to_le_bytes w32 table ++ a)))
    (λ n. (n < 2 ^ 32) × IsRaw n) (λ raw a. (raw - 4 < 2 ^ 32) × ((value < 2 ^ 32) × ((table < 2 ^ 32) × (length a ≡ 0)))) raws (λ raw is. lens raw) in
    behind_reads (ℕ × Bytes) (fixed_piece (1 ∷ 18 ∷ []) Mismatch) (1 ∷ 18 ∷ []) r (λ x. to_le_bytes w32 x.0 ++ (to_le_bytes w32 (x.0 - 4) ++ (to_le_bytes w32 value ++ (to_le_bytes w32 table ++ x.1)))) (λ x. ((x.0 < 2 ^ 32) × IsRaw x.0) × ((x.0 - 4 < 2 ^ 32) × ((value < 2 ^ 32) × ((table < 2 ^ 32) × (length x.1 ≡ 0))))) (fixed_piece_is (1 ∷ 18 ∷ []) Mismatch) more

outside_here : (kind : ColType) (table value : ℕ) (x : ℕ × List ℕ) → AreNumbers table value x → (numbers_form table value x ≡ tail_form table (outside_of_raw value x)) × IsPayload kind table value 2 (outside_of_raw value x)
outside_here kind table value x is =
    let some = is.0.1.some in
    let few = is.0.1.few in
    let raw : x.0 - 4 + 4 ≡ x.0 = omega (arith, some) in
    let nothing : x.1 ≡ [] = nil_from_length x.1 is.1.1.1.1 in (
      ap (λ (y : List ℕ). 1 ∷ 18 ∷ [] ++ (to_le_bytes w32 x.0 ++ (to_le_bytes w32 (x.0 - 4) ++ (to_le_bytes w32 value ++ (to_le_bytes w32 table ++ y))))) nothing
          ∙ ap (λ (n : ℕ). 1 ∷ 18 ∷ [] ++ (to_le_bytes w32 n ++ (to_le_bytes w32 (x.0 - 4) ++ (to_le_bytes w32 value ++ (to_le_bytes w32 table ++ []))))) (sym raw),
      (refl, omega (arith, few), refl, is.1.1.0, is.1.1.1.0),
    )

outside_back : (kind : ColType) (table value : ℕ) (c : Cell) → IsPayload kind table value 2 c → (outside_of_raw value (length_of c + 4, []) ≡ c) × (numbers_form table value (length_of c + 4, []) ≡ tail_form table c) × AreNumbers table value (length_of c + 4, [])
outside_back kind table value cells.Null is = absurd (omega (arith, is))
outside_back kind table value (cells.Int z) is = absurd (omega (arith, is.0))
outside_back kind table value (cells.Oid n) is = absurd (omega (arith, is.0))
outside_back kind table value (cells.Inline bytes) is = absurd (omega (arith, is.0))
outside_back kind table value (cells.Text bytes) is = absurd is
outside_back kind table value (cells.Outside n number) is =
    let few = is.1 in
    let len : n + 4 - 4 ≡ n = omega arith in (
      rw (len, ← is.2) refl,
      rw (len, is.2) refl,
      ((omega (arith, few), record { some = omega arith; few = omega (arith, few) }), (omega (arith, few), (is.3, (is.4, refl)))),
    )

outside_reads : (kind : ColType) (table value : ℕ) → Reads Cell (outside_at table value) (tail_form table) (IsPayload kind table value 2)
outside_reads kind table value =
    made_reads (ℕ × List ℕ) Cell (outside_of_raw value) (behind (fixed_piece (1 ∷ 18 ∷ []) Mismatch) (both (tested raw_defect (number w32)) (λ raw. behind (fixed w32 (raw - 4) Mismatch) (behind (fixed w32 value Mismatch) (behind (fixed w32 table Mismatch) (piece 0))))))
    (numbers_form table value) (AreNumbers table value) (tail_form table) (IsPayload kind table value 2) (outside_numbers table value)
    (record {
      back = λ c. (length_of c + 4, []);
      there = λ c is. (outside_back kind table value c is).0;
      here = λ x is. outside_here kind table value x is;
      again = λ c is. let g = outside_back kind table value c is in (g.1, g.2);
    })

-- ---- the cell

payload_reads : (kind : ColType) (table value tag : ℕ) → tag ≤ 2 → Reads Cell (payload_at kind table value tag) (tail_form table) (IsPayload kind table value tag)
payload_reads kind table value zero le = null_reads kind table value
payload_reads kind table value (suc zero) le = inline_reads kind table value
payload_reads kind table value (suc (suc zero)) le = outside_reads kind table value
payload_reads kind table value (suc (suc (suc n))) le = absurd (omega (arith, le))

abbrev pub tag_of : Cell → ℕ
tag_of cells.Null = 0
tag_of (cells.Int z) = 1
tag_of (cells.Oid n) = 1
tag_of (cells.Inline bytes) = 1
tag_of (cells.Text bytes) = 0
tag_of (cells.Outside n number) = 2

abbrev pub cell_form : (table : ℕ) → Cell → List ℕ
cell_form table c = tag_of c ∷ tail_form table c

tag_is : (kind : ColType) (table value tag : ℕ) (c : Cell) → IsPayload kind table value tag c → tag ≡ tag_of c
tag_is kind table value tag cells.Null is = is
tag_is kind table value tag (cells.Int z) is = is.0
tag_is kind table value tag (cells.Oid n) is = is.0
tag_is kind table value tag (cells.Inline bytes) is = is.0
tag_is kind table value tag (cells.Text bytes) is = absurd is
tag_is kind table value tag (cells.Outside n number) is = is.0

pub record IsTagged (table value : ℕ) (column : Column) (c : Cell) : Type 0 where
  pub tag : TagRule column.storage (tag_of c)
  pub payload : IsPayload column.kind table value (tag_of c) c

tagged_reads : (table value : ℕ) (column : Column) → Reads Cell (tagged_at table value column) (cell_form table) (IsTagged table value column)
tagged_reads table value column =
    let kind = column.kind in
    let storage = column.storage in
    made_reads (ℕ × Cell) Cell second (both (tested (tag_defect storage) byte_at) (payload_at kind table value)) (λ x. x.0 ∷ [] ++ tail_form table x.1) (λ x. ((x.0 < 256) × TagRule storage x.0) × IsPayload kind table value x.0 x.1) (cell_form table) (IsTagged table value column)
    (both_reads ℕ Cell (tested (tag_defect storage) byte_at) (payload_at kind table value) (λ b. b ∷ []) (λ tag. tail_form table) (λ n. (n < 256) × TagRule storage n) (IsPayload kind table value) (tested_reads ℕ byte_at (λ b. b ∷ []) (λ b. b < 256) (tag_defect storage) (TagRule storage) byte_reads (tag_judged storage)) (λ tag is. payload_reads kind table value tag is.1.few))
    (record {
      back = λ c. (tag_of c, c);
      there = λ c is. refl;
      here = λ x is.
          let tag = tag_is kind table value x.0 x.1 is.1 in
          (ap (λ (n : ℕ). n ∷ tail_form table x.1) tag, record { tag = subst (TagRule storage) tag is.0.1; payload = subst (λ (n : ℕ). IsPayload kind table value n x.1) tag is.1 });
      again = λ c is. let few = is.tag.few in (refl, ((omega (arith, few), is.tag), is.payload));
    })

-- ---- arrays

pub flat_again : (bytes : List ℕ) → IsFlat bytes → is_flat_layout bytes ≡ true
flat_again bytes f = ap is_flat_layout f.bytes_are ∙ flat_laid_out f.array f.held

pub flat_sound : (bytes : List ℕ) → IsBytes bytes → is_flat_layout bytes ≡ true → IsFlat bytes
flat_sound bytes fits e = laid_out_is_flat bytes (record { each = fits }) e

none_unless : (a : Bool) → cond {A = Option Defect} (not a) (Some Array) None ≡ None → a ≡ true
none_unless true e = refl
none_unless false e = absurd cc

pub array_sound : (kind : ColType) (bytes : List ℕ) → AreSmall bytes → array_defect kind bytes ≡ None → IsArrayIfThere kind (values.Bytes bytes)
array_sound types.Int8 bytes small e = tt
array_sound types.Oid bytes small e = tt
array_sound types.Lo bytes small e = tt
array_sound types.Bytea bytes small e = tt
array_sound types.Int4Array bytes small e = flat_sound bytes (bytes_of_small bytes small) (none_unless (is_flat_layout bytes) e)

pub array_again : (kind : ColType) (bytes : List ℕ) → IsArrayIfThere kind (values.Bytes bytes) → array_defect kind bytes ≡ None
array_again types.Int8 bytes h = refl
array_again types.Oid bytes h = refl
array_again types.Lo bytes h = refl
array_again types.Bytea bytes h = refl
array_again types.Int4Array bytes h = rw (flat_again bytes h) refl

abbrev pub CellArray : ColType → Cell → Type 0
CellArray kind cells.Null = Unit {0}
CellArray kind (cells.Int z) = Unit {0}
CellArray kind (cells.Oid n) = Unit {0}
CellArray kind (cells.Inline bytes) = IsArrayIfThere kind (values.Bytes bytes)
CellArray kind (cells.Text bytes) = Unit {0}
CellArray kind (cells.Outside n number) = Unit {0}

cell_sound : (kind : ColType) (table value tag : ℕ) (c : Cell) → IsPayload kind table value tag c → cell_defect kind c ≡ None → CellArray kind c
cell_sound kind table value tag cells.Null is e = tt
cell_sound kind table value tag (cells.Int z) is e = tt
cell_sound kind table value tag (cells.Oid n) is e = tt
cell_sound kind table value tag (cells.Inline bytes) is e = array_sound kind bytes is.3 e
cell_sound kind table value tag (cells.Text bytes) is e = tt
cell_sound kind table value tag (cells.Outside n number) is e = tt

cell_passes : (kind : ColType) (c : Cell) → CellArray kind c → cell_defect kind c ≡ None
cell_passes kind cells.Null h = refl
cell_passes kind (cells.Int z) h = refl
cell_passes kind (cells.Oid n) h = refl
cell_passes kind (cells.Inline bytes) h = array_again kind bytes h
cell_passes kind (cells.Text bytes) h = refl
cell_passes kind (cells.Outside n number) h = refl

pub record IsCellAt (table value : ℕ) (column : Column) (c : Cell) : Type 0 where
  pub tagged : IsTagged table value column c
  pub array : CellArray column.kind c

pub cell_reads : (table value : ℕ) (column : Column) → Reads Cell (cell_at table value column) (cell_form table) (IsCellAt table value column)
cell_reads table value column =
    same_reads Cell (cell_at table value column) (cell_form table) (λ c. IsTagged table value column c × CellArray column.kind c) (cell_form table) (IsCellAt table value column)
    (tested_reads Cell (tagged_at table value column) (cell_form table) (IsTagged table value column) (cell_defect column.kind) (CellArray column.kind) (tagged_reads table value column)
    (record { sound = λ c is e. cell_sound column.kind table value (tag_of c) c is.payload e; again = λ c is rule. cell_passes column.kind c rule }))
    (λ c is. (refl, record { tagged = is.0; array = is.1 })) (λ c is. (is.tagged, is.array))
