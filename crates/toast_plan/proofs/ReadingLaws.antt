-- What is read is a field that stands there, and a field that stands there is read.
use Rattle.std.proofs.Common.{◌≡◌, ◌≢◌, ℕ, ℤ, zero, suc, ◌+◌, ◌-◌, ◌<◌, ◌≤◌, ◌^◌, Bool, true, false, ◌||◌, cond, ltb, leb, List, [], ◌∷◌, ◌++◌, length, map, get_or, take, drop, Option, Some, None, inl, inr, refl, sym, ap, subst, ◌∙◌, append_assoc, add-one, arith, Fits}
use Rattle.std.proofs.Math.Seq.{drop-cons, take-length}
use Rattle.std.specs.Prelude.{bytes_eq, Result, Ok, Err, OnOk}
use Rattle.std.specs.Result.{is_err}
use Rattle.std.specs.Int.{Width, w32, w64, byte_len, from_le_bytes, to_le_bytes, cast_unsigned, cast_signed}
use Rattle.std.specs.Int.RustNames.{FitsSigned}
use Rattle.std.proofs.Math.Facts.{sfits_to_z, Fits-of_z}
use Rattle.std.proofs.lemmas.Int.{to_z-of_z, of_z-to_z}
use Rattle.std.proofs.lemmas.Bool.{cases_lt, cases_Bool, ltb-false, le-ltb, leb-true, le-leb, ne_eqb, and_parts, and_from, or_parts, or_from}
use Rattle.std.proofs.lemmas.Option.{same_Some}
use Rattle.std.proofs.lemmas.Slice.Eq.{bytes_eq-Decides}
use Rattle.std.proofs.lemmas.List.{take_at, drop_at, take-append-drop, length-append, length-take, get_or-drop, get_or-take, get_or_past}
use Rattle.std.proofs.lemmas.Nat.{le_bytes_4, le_bytes_8, from_le_bytes-to_le_bytes_4, from_le_bytes-to_le_bytes_8}
use Rattle.lo_base.specs.declared.column.Column.{Column}
use Rattle.lo_base.specs.declared.column.ColType.{ColType}
use Rattle.lo_base.specs.declared.column.ColType.TheVariants as types
use Rattle.lo_base.specs.declared.value.Cell.{Cell}
use Rattle.lo_base.specs.declared.value.Cell.TheVariants as cells
use Rattle.toast_plan.specs.declared.pointer.Pointer.{Pointer}
use Rattle.toast_plan.specs.Pointer.{pointer_form, IsPointer}
use Rattle.toast_plan.specs.Row.{Field, Null, Int, Oid, Inline, Outside, field_form, row_form, AreBytes, IsFieldOf, AreFields, cell_of}
use Rattle.toast_plan.specs.Reading.{◌>>=◌, behind, number_front, int_front, oid_front, piece_front, inline_front, pointer_numbers, is_pointer, outside_front, value_front, moved_front, tagged_front, cell_front, cells_front}
use Rattle.toast_plan.proofs.Pieces.{small_bytes}
use Rattle.toast_plan.proofs.PointerLaws.{pointer_again}

abbrev pub IsBytes : List ℕ → Type 0
IsBytes bytes = (i : ℕ) → get_or bytes i 0 < 256

IsBytes-drop : (n : ℕ) (bytes : List ℕ) → IsBytes bytes → IsBytes (drop n bytes)
IsBytes-drop n bytes h i = rw get_or-drop (h (n + i))

IsBytes-take : (n : ℕ) (bytes : List ℕ) → IsBytes bytes → IsBytes (take n bytes)
IsBytes-take n bytes h i =
    elim (cases_lt i n) [
      | inl lt ↦ rw (get_or-take n bytes i 0 lt) (h i)
      | inr le ↦ rw (get_or_past (take n bytes) i 0 (omega (arith, length-take n bytes))) (omega arith)
    ]

IsBytes-rest : (b : ℕ) (bytes : List ℕ) → IsBytes (b ∷ bytes) → IsBytes bytes
IsBytes-rest b bytes h i = h (suc i)

four_below : (bytes : List ℕ) → IsBytes bytes → from_le_bytes w32 bytes < 2 ^ 32
four_below bytes fits = omega (arith, fits 0, fits 1, fits 2, fits 3)

-- ---- pointers

numbers_fit : (bytes : List ℕ) → IsBytes bytes → (pointer_numbers bytes).length ≤ 16777216 → IsPointer (pointer_numbers bytes)
numbers_fit bytes fits le = record {
  length = le;
  value = four_below (take 4 (drop 10 bytes)) (IsBytes-take 4 (drop 10 bytes) (IsBytes-drop 10 bytes fits));
  table = four_below (take 4 (drop 14 bytes)) (IsBytes-take 4 (drop 14 bytes) (IsBytes-drop 14 bytes fits));
}

pub record IsSpelled (bytes : List ℕ) (p : Pointer) : Type 0 where
  pub valid : IsPointer p
  pub form : bytes ≡ pointer_form p

tested : (bytes : List ℕ) → IsBytes bytes → is_pointer bytes (pointer_numbers bytes) ≡ true → IsSpelled bytes (pointer_numbers bytes)
tested bytes fits e =
    let p = pointer_numbers bytes in
    let both = and_parts (leb p.length 16777216) (bytes_eq bytes (pointer_form p)) e in
    record { valid = numbers_fit bytes fits (leb-true p.length 16777216 both.0); form = (bytes_eq-Decides bytes (pointer_form p)).0 both.1 }

spelled : (bytes : List ℕ) (p : Pointer) → IsPointer p → bytes ≡ pointer_form p → is_pointer bytes p ≡ true
spelled bytes p is e = and_from (leb p.length 16777216) (bytes_eq bytes (pointer_form p)) (le-leb p.length 16777216 is.length) ((bytes_eq-Decides bytes (pointer_form p)).1 e)

pub outside_none : (bytes : List ℕ) → IsBytes bytes → ((p : Pointer) → IsPointer p → take 18 bytes ≢ pointer_form p) → outside_front bytes ≡ None
outside_none bytes fits none =
    elim (cases_Bool (is_pointer (take 18 bytes) (pointer_numbers (take 18 bytes)))) [
      | inl holds ↦ let s = tested (take 18 bytes) (IsBytes-take 18 bytes fits) holds in absurd (none (pointer_numbers (take 18 bytes)) s.valid s.form)
      | inr misses ↦ rw misses refl
    ]

abbrev chosen : Bool → Pointer → List ℕ → Option (Cell × List ℕ)
chosen b p rest = cond b (Some (cells.Outside p.length p.value, rest)) None

pub outside_some : (bytes : List ℕ) (p : Pointer) → IsPointer p → take 18 bytes ≡ pointer_form p → outside_front bytes ≡ Some (cells.Outside p.length p.value, drop 18 bytes)
outside_some bytes p is e =
    let front = take 18 bytes in
    let same : pointer_numbers front ≡ p = pointer_again front p (from_le_bytes w32 (take 4 (drop 6 front))) (from_le_bytes w32 (take 4 (drop 10 front))) (from_le_bytes w32 (take 4 (drop 14 front))) is e refl refl refl in
    ap (λ (q : Pointer). chosen (is_pointer front q) q (drop 18 bytes)) same ∙ ap (λ (b : Bool). chosen b p (drop 18 bytes)) (spelled front p is e)

-- ---- steps

abbrev done : {A : Type 0} → A → Option A
done x = Some x

pub record Bound (A B : Type 0) (o : Option A) (f : A → Option B) (y : B) : Type 0 where
  pub first : A
  pub found : o ≡ Some first
  pub then : f first ≡ Some y

bound : {A B : Type 0} (o : Option A) (f : A → Option B) (y : B) → (o >>= f) ≡ Some y → Bound A B o f y
bound None f y e = absurd cc
bound (Some x) f y e = record { first = x; found = refl; then = e }

-- ---- numbers

pub record IsWide (w : Width) (limit : ℕ) : Type 0 where
  pub len : (n : ℕ) → length (to_le_bytes w n) ≡ byte_len w
  pub back : (bytes : List ℕ) → length bytes ≡ byte_len w → IsBytes bytes → to_le_bytes w (from_le_bytes w bytes) ≡ bytes
  pub again : (n : ℕ) → n < limit → from_le_bytes w (to_le_bytes w n) ≡ n
  pub below : (bytes : List ℕ) → IsBytes bytes → from_le_bytes w bytes < limit

wide32 : IsWide w32 (2 ^ 32)
wide32 = record {
  len = λ n. refl;
  back = λ bytes len fits. le_bytes_4 bytes _ len fits refl;
  again = λ n lt. from_le_bytes-to_le_bytes_4 n lt;
  below = λ bytes fits. four_below bytes fits;
}

wide64 : IsWide w64 (2 ^ 64)
wide64 = record {
  len = λ n. refl;
  back = λ bytes len fits. le_bytes_8 bytes _ len fits refl;
  again = λ n lt. from_le_bytes-to_le_bytes_8 n lt;
  below = λ bytes fits. omega (arith, fits 0, fits 1, fits 2, fits 3, fits 4, fits 5, fits 6, fits 7);
}

pub record IsNumber (w : Width) (limit : ℕ) (bytes : List ℕ) (n : ℕ) (rest : List ℕ) : Type 0 where
  pub form : bytes ≡ to_le_bytes w n ++ rest
  pub below : n < limit
  pub rest_fits : IsBytes rest

number_takes : (w : Width) (limit : ℕ) (wide : IsWide w limit) (bytes : List ℕ) (x : ℕ × List ℕ) → IsBytes bytes → number_front w bytes ≡ Some x → IsNumber w limit bytes x.0 x.1
number_takes w limit wide bytes x fits e =
    elim (cases_Bool (ltb (length bytes) (byte_len w))) [
      | inl short ↦ absurd (let none : None ≡ Some x = rw short at e in cc)
      | inr long ↦
          let k = byte_len w in
          let some : done (from_le_bytes w (take k bytes), drop k bytes) ≡ done x = rw long at e in
          let same : (from_le_bytes w (take k bytes), drop k bytes) ≡ x = same_Some (from_le_bytes w (take k bytes), drop k bytes) x some in
          let le : k ≤ length bytes = ltb-false (length bytes) k long in
          let front : to_le_bytes w (from_le_bytes w (take k bytes)) ≡ take k bytes = wide.back (take k bytes) (omega (arith, length-take k bytes)) (IsBytes-take k bytes fits) in
          subst (λ (y : ℕ × List ℕ). IsNumber w limit bytes y.0 y.1) same (record {
            form = sym (ap (λ (t : List ℕ). t ++ drop k bytes) front ∙ take-append-drop k bytes);
            below = wide.below (take k bytes) (IsBytes-take k bytes fits);
            rest_fits = IsBytes-drop k bytes fits;
          })
    ]

number_again : (w : Width) (limit : ℕ) (wide : IsWide w limit) (n : ℕ) (rest : List ℕ) → n < limit → number_front w (to_le_bytes w n ++ rest) ≡ Some (n, rest)
number_again w limit wide n rest lt =
    let len = wide.len n in
    let long : ltb (length (to_le_bytes w n ++ rest)) (byte_len w) ≡ false = le-ltb _ _ (omega (arith, length-append (to_le_bytes w n) rest)) in
    rw (long, take_at (to_le_bytes w n) rest (byte_len w) len, drop_at (to_le_bytes w n) rest (byte_len w) len, wide.again n lt) refl

-- ---- fields

pub record Takes (kind : ColType) (bytes : List ℕ) (cell : Cell) (rest : List ℕ) : Type 0 where
  pub field : Field
  pub is : IsFieldOf kind field
  pub form : bytes ≡ field_form field ++ rest
  pub shown : cell ≡ cell_of field
  pub rest_fits : IsBytes rest

int_takes : (bytes : List ℕ) (x : Cell × List ℕ) → IsBytes bytes → int_front bytes ≡ Some x → Takes types.Int8 (1 ∷ bytes) x.0 x.1
int_takes bytes x fits e =
    let b = bound (number_front w64 bytes) (λ n. Some (cells.Int (cast_signed w64 n.0), n.1)) x e in
    let n = b.first.0 in
    let rest = b.first.1 in
    let t = number_takes w64 (2 ^ 64) wide64 bytes b.first fits b.found in
    let below : n < 2 ^ 64 = t.below in
    let range : Fits w64 n = omega (arith, below) in
    let same : (cells.Int (cast_signed w64 n), rest) ≡ x = same_Some (cells.Int (cast_signed w64 n), rest) x b.then in
    subst (λ (y : Cell × List ℕ). Takes types.Int8 (1 ∷ bytes) y.0 y.1) same (record {
      field = Int (cast_signed w64 n);
      is = sfits_to_z range;
      form = ap (λ (bs : List ℕ). 1 ∷ bs) (t.form ∙ ap (λ (m : ℕ). to_le_bytes w64 m ++ rest) (sym (of_z-to_z w64 n below)));
      shown = refl;
      rest_fits = t.rest_fits;
    })

oid_takes : (kind : ColType) (bytes : List ℕ) (x : Cell × List ℕ) → ((n : ℕ) → n < 2 ^ 32 → IsFieldOf kind (Oid n)) → IsBytes bytes → oid_front bytes ≡ Some x → Takes kind (1 ∷ bytes) x.0 x.1
oid_takes kind bytes x is fits e =
    let b = bound (number_front w32 bytes) (λ n. Some (cells.Oid n.0, n.1)) x e in
    let t = number_takes w32 (2 ^ 32) wide32 bytes b.first fits b.found in
    let same : (cells.Oid b.first.0, b.first.1) ≡ x = same_Some (cells.Oid b.first.0, b.first.1) x b.then in
    subst (λ (y : Cell × List ℕ). Takes kind (1 ∷ bytes) y.0 y.1) same (record {
      field = Oid b.first.0;
      is = is b.first.0 t.below;
      form = ap (λ (bs : List ℕ). 1 ∷ bs) t.form;
      shown = refl;
      rest_fits = t.rest_fits;
    })

pub record IsPiece (n : ℕ) (bytes : List ℕ) (x : Cell × List ℕ) : Type 0 where
  pub few : n ≤ 16777216
  pub within : n ≤ length bytes
  pub same : (cells.Inline (take n bytes), drop n bytes) ≡ x

piece_takes : (n : ℕ) (bytes : List ℕ) (x : Cell × List ℕ) → piece_front n bytes ≡ Some x → IsPiece n bytes x
piece_takes n bytes x e =
    elim (cases_Bool (ltb 16777216 n || ltb (length bytes) n)) [
      | inl holds ↦ absurd (let none : None ≡ Some x = rw holds at e in cc)
      | inr misses ↦
          let both = or_parts (ltb 16777216 n) (ltb (length bytes) n) misses in
          let some : done (cells.Inline (take n bytes), drop n bytes) ≡ done x = rw misses at e in
          record {
            few = ltb-false 16777216 n both.0;
            within = ltb-false (length bytes) n both.1;
            same = same_Some (cells.Inline (take n bytes), drop n bytes) x some;
          }
    ]

inline_takes : (kind : ColType) (bytes : List ℕ) (x : Cell × List ℕ) → ((b : List ℕ) → AreBytes b → IsFieldOf kind (Inline b)) → IsBytes bytes → inline_front bytes ≡ Some x → Takes kind (1 ∷ bytes) x.0 x.1
inline_takes kind bytes x is fits e =
    let b = bound (number_front w32 bytes) (λ n. piece_front n.0 n.1) x e in
    let n = b.first.0 in
    let rest = b.first.1 in
    let t = number_takes w32 (2 ^ 32) wide32 bytes b.first fits b.found in
    let p = piece_takes n rest x b.then in
    let len : length (take n rest) ≡ n = omega (arith, length-take n rest, p.within) in
    let parts : bytes ≡ to_le_bytes w32 n ++ (take n rest ++ drop n rest) = t.form ∙ ap (λ (bs : List ℕ). to_le_bytes w32 n ++ bs) (sym (take-append-drop n rest)) in
    let grouped : bytes ≡ (to_le_bytes w32 (length (take n rest)) ++ take n rest) ++ drop n rest = parts ∙ sym (append_assoc (to_le_bytes w32 n) (take n rest) (drop n rest)) ∙ ap (λ (m : ℕ). (to_le_bytes w32 m ++ take n rest) ++ drop n rest) (sym len) in
    subst (λ (y : Cell × List ℕ). Takes kind (1 ∷ bytes) y.0 y.1) p.same (record {
      field = Inline (take n rest);
      is = is (take n rest) (record { few = omega (arith, len, p.few); small = small_bytes (take n rest) (IsBytes-take n rest t.rest_fits) });
      form = ap (λ (bs : List ℕ). 1 ∷ bs) grouped;
      shown = refl;
      rest_fits = IsBytes-drop n rest t.rest_fits;
    })

outside_takes : (kind : ColType) (bytes : List ℕ) (x : Cell × List ℕ) → ((p : Pointer) → IsPointer p → IsFieldOf kind (Outside p)) → IsBytes bytes → outside_front bytes ≡ Some x → Takes kind (2 ∷ bytes) x.0 x.1
outside_takes kind bytes x is fits e =
    let front = take 18 bytes in
    let p = pointer_numbers front in
    elim (cases_Bool (is_pointer front p)) [
      | inr misses ↦ absurd (let none : None ≡ Some x = sym (ap (λ (b : Bool). chosen b p (drop 18 bytes)) misses) ∙ e in cc)
      | inl holds ↦
          let s = tested front (IsBytes-take 18 bytes fits) holds in
          let some : done (cells.Outside p.length p.value, drop 18 bytes) ≡ done x = sym (ap (λ (b : Bool). chosen b p (drop 18 bytes)) holds) ∙ e in
          let same : (cells.Outside p.length p.value, drop 18 bytes) ≡ x = same_Some (cells.Outside p.length p.value, drop 18 bytes) x some in
          subst (λ (y : Cell × List ℕ). Takes kind (2 ∷ bytes) y.0 y.1) same (record {
            field = Outside p;
            is = is p s.valid;
            form = ap (λ (bs : List ℕ). 2 ∷ bs) (sym (take-append-drop 18 bytes) ∙ ap (λ (t : List ℕ). t ++ drop 18 bytes) s.form);
            shown = refl;
            rest_fits = IsBytes-drop 18 bytes fits;
          })
    ]

value_takes : (kind : ColType) (bytes : List ℕ) (x : Cell × List ℕ) → IsBytes bytes → value_front kind bytes ≡ Some x → Takes kind (1 ∷ bytes) x.0 x.1
value_takes types.Int8 bytes x fits e = int_takes bytes x fits e
value_takes types.Oid bytes x fits e = oid_takes types.Oid bytes x (λ n lt. lt) fits e
value_takes types.Lo bytes x fits e = oid_takes types.Lo bytes x (λ n lt. lt) fits e
value_takes types.Bytea bytes x fits e = inline_takes types.Bytea bytes x (λ b are. are) fits e
value_takes types.Int4Array bytes x fits e = inline_takes types.Int4Array bytes x (λ b are. are) fits e

moved_takes : (kind : ColType) (bytes : List ℕ) (x : Cell × List ℕ) → IsBytes bytes → moved_front kind bytes ≡ Some x → Takes kind (2 ∷ bytes) x.0 x.1
moved_takes types.Int8 bytes x fits e = absurd cc
moved_takes types.Oid bytes x fits e = absurd cc
moved_takes types.Lo bytes x fits e = absurd cc
moved_takes types.Bytea bytes x fits e = outside_takes types.Bytea bytes x (λ p is. is) fits e
moved_takes types.Int4Array bytes x fits e = outside_takes types.Int4Array bytes x (λ p is. is) fits e

no_tag : (kind : ColType) (tag : ℕ) (bytes : List ℕ) → 3 ≤ tag → tagged_front kind tag bytes ≡ None
no_tag kind tag bytes le = rw (ne_eqb tag 0 (λ e. omega (arith, e)), ne_eqb tag 1 (λ e. omega (arith, e)), ne_eqb tag 2 (λ e. omega (arith, e))) refl

cell_takes : (kind : ColType) (bytes : List ℕ) (x : Cell × List ℕ) → IsBytes bytes → cell_front kind bytes ≡ Some x → Takes kind bytes x.0 x.1
cell_takes kind [] x fits e = absurd cc
cell_takes kind (zero ∷ bytes) x fits e =
    subst (λ (y : Cell × List ℕ). Takes kind (0 ∷ bytes) y.0 y.1) (same_Some (cells.Null, bytes) x e) (record { field = Null; is = tt; form = refl; shown = refl; rest_fits = IsBytes-rest 0 bytes fits })
cell_takes kind (suc zero ∷ bytes) x fits e = value_takes kind bytes x (IsBytes-rest 1 bytes fits) e
cell_takes kind (suc (suc zero) ∷ bytes) x fits e = moved_takes kind bytes x (IsBytes-rest 2 bytes fits) e
cell_takes kind (suc (suc (suc tag)) ∷ bytes) x fits e = absurd (let none : None ≡ Some x = sym (no_tag kind (suc (suc (suc tag))) bytes (omega arith)) ∙ e in cc)

int_again : (z : ℤ) (rest : List ℕ) → FitsSigned w64 z → int_front (to_le_bytes w64 (cast_unsigned w64 z) ++ rest) ≡ Some (cells.Int z, rest)
int_again z rest fits =
    let m = cast_unsigned w64 z in
    let range : Fits w64 m = Fits-of_z fits in
    let below : m < 2 ^ 64 = omega (arith, range) in
    ap (λ (o : Option (ℕ × List ℕ)). o >>= λ n. Some (cells.Int (cast_signed w64 n.0), n.1)) (number_again w64 (2 ^ 64) wide64 m rest below) ∙ ap (λ (y : ℤ). Some (cells.Int y, rest)) (to_z-of_z w64 z fits)

oid_again : (n : ℕ) (rest : List ℕ) → n < 2 ^ 32 → oid_front (to_le_bytes w32 n ++ rest) ≡ Some (cells.Oid n, rest)
oid_again n rest lt = ap (λ (o : Option (ℕ × List ℕ)). o >>= λ n. Some (cells.Oid n.0, n.1)) (number_again w32 (2 ^ 32) wide32 n rest lt)

piece_again : (bytes rest : List ℕ) → length bytes ≤ 16777216 → piece_front (length bytes) (bytes ++ rest) ≡ Some (cells.Inline bytes, rest)
piece_again bytes rest few =
    let misses : (ltb 16777216 (length bytes) || ltb (length (bytes ++ rest)) (length bytes)) ≡ false = or_from (ltb 16777216 (length bytes)) (ltb (length (bytes ++ rest)) (length bytes)) (le-ltb 16777216 (length bytes) few) (le-ltb (length (bytes ++ rest)) (length bytes) (omega (arith, length-append bytes rest))) in
    rw (misses, take_at bytes rest (length bytes) refl, drop_at bytes rest (length bytes) refl) refl

inline_again : (bytes rest : List ℕ) → AreBytes bytes → inline_front (to_le_bytes w32 (length bytes) ++ (bytes ++ rest)) ≡ Some (cells.Inline bytes, rest)
inline_again bytes rest are =
    ap (λ (o : Option (ℕ × List ℕ)). o >>= λ n. piece_front n.0 n.1) (number_again w32 (2 ^ 32) wide32 (length bytes) (bytes ++ rest) (omega (arith, are.few))) ∙ piece_again bytes rest are.few

outside_again : (p : Pointer) (rest : List ℕ) → IsPointer p → outside_front (pointer_form p ++ rest) ≡ Some (cells.Outside p.length p.value, rest)
outside_again p rest is = outside_some (pointer_form p ++ rest) p is refl

pub cell_again : (kind : ColType) (f : Field) (rest : List ℕ) → IsFieldOf kind f → cell_front kind (field_form f ++ rest) ≡ Some (cell_of f, rest)
cell_again kind Null rest is = refl
cell_again types.Int8 (Int z) rest is = int_again z rest is
cell_again types.Int8 (Oid n) rest is = absurd is
cell_again types.Int8 (Inline bytes) rest is = absurd is
cell_again types.Int8 (Outside p) rest is = absurd is
cell_again types.Oid (Int z) rest is = absurd is
cell_again types.Oid (Oid n) rest is = oid_again n rest is
cell_again types.Oid (Inline bytes) rest is = absurd is
cell_again types.Oid (Outside p) rest is = absurd is
cell_again types.Lo (Int z) rest is = absurd is
cell_again types.Lo (Oid n) rest is = oid_again n rest is
cell_again types.Lo (Inline bytes) rest is = absurd is
cell_again types.Lo (Outside p) rest is = absurd is
cell_again types.Bytea (Int z) rest is = absurd is
cell_again types.Bytea (Oid n) rest is = absurd is
cell_again types.Bytea (Inline bytes) rest is = inline_again bytes rest is
cell_again types.Bytea (Outside p) rest is = outside_again p rest is
cell_again types.Int4Array (Int z) rest is = absurd is
cell_again types.Int4Array (Oid n) rest is = absurd is
cell_again types.Int4Array (Inline bytes) rest is = inline_again bytes rest is
cell_again types.Int4Array (Outside p) rest is = outside_again p rest is

-- ---- rows

pub record TakesAll (cs : List Column) (bytes : List ℕ) (found : List Cell) (rest : List ℕ) : Type 0 where
  pub fields : List Field
  pub are : AreFields cs fields
  pub form : bytes ≡ row_form fields ++ rest
  pub shown : found ≡ map cell_of fields

pub cells_take : (cs : List Column) (bytes : List ℕ) (x : List Cell × List ℕ) → IsBytes bytes → cells_front cs bytes ≡ Some x → TakesAll cs bytes x.0 x.1
cells_take [] bytes x fits e =
    subst (λ (y : List Cell × List ℕ). TakesAll [] bytes y.0 y.1) (same_Some ([], bytes) x e) (record { fields = []; are = tt; form = refl; shown = refl })
cells_take (c ∷ cs) bytes x fits e =
    let a = bound (cell_front c.kind bytes) (λ first. cells_front cs first.1 >>= λ others. Some (first.0 ∷ others.0, others.1)) x e in
    let b = bound (cells_front cs a.first.1) (λ others. Some (a.first.0 ∷ others.0, others.1)) x a.then in
    let t = cell_takes c.kind bytes a.first fits a.found in
    let u = cells_take cs a.first.1 b.first t.rest_fits b.found in
    let same : (a.first.0 ∷ b.first.0, b.first.1) ≡ x = same_Some (a.first.0 ∷ b.first.0, b.first.1) x b.then in
    subst (λ (y : List Cell × List ℕ). TakesAll (c ∷ cs) bytes y.0 y.1) same (record {
      fields = t.field ∷ u.fields;
      are = (t.is, u.are);
      form = t.form ∙ ap (λ (bs : List ℕ). field_form t.field ++ bs) u.form ∙ sym (append_assoc (field_form t.field) (row_form u.fields) b.first.1);
      shown = ap (λ (d : Cell). d ∷ b.first.0) t.shown ∙ ap (λ (ds : List Cell). cell_of t.field ∷ ds) u.shown;
    })

pub cells_again : (cs : List Column) (fs : List Field) (rest : List ℕ) → AreFields cs fs → cells_front cs (row_form fs ++ rest) ≡ Some (map cell_of fs, rest)
cells_again [] [] rest are = refl
cells_again [] (f ∷ fs) rest are = absurd are
cells_again (c ∷ cs) [] rest are = absurd are
cells_again (c ∷ cs) (f ∷ fs) rest are =
    let regrouped : row_form (f ∷ fs) ++ rest ≡ field_form f ++ (row_form fs ++ rest) = append_assoc (field_form f) (row_form fs) rest in
    let go : Cell × List ℕ → Option (List Cell × List ℕ) = λ first. cells_front cs first.1 >>= λ others. Some (first.0 ∷ others.0, others.1) in
    ap (cells_front (c ∷ cs)) regrouped
    ∙ ap (λ (o : Option (Cell × List ℕ)). o >>= go) (cell_again c.kind f (row_form fs ++ rest) are.0)
    ∙ ap (λ (o : Option (List Cell × List ℕ)). o >>= λ others. Some (cell_of f ∷ others.0, others.1)) (cells_again cs fs rest are.1)

-- ---- one more cell

another : (front : List Cell) (cell : Cell) (others : Option (List Cell × List ℕ)) → behind front (others >>= λ x. Some (cell ∷ x.0, x.1)) ≡ behind (front ++ cell ∷ []) others
another front cell None = refl
another front cell (Some x) = ap (λ (ds : List Cell). Some (ds, x.1)) (sym (append_assoc front (cell ∷ []) x.0))

pub reads_on : (front : List Cell) (cell : Cell) (cs : List Column) (i : ℕ) (c : Column) (bytes rest : List ℕ) (whole : Option (List Cell × List ℕ)) → c ≡ get_or cs i c → i < length cs → cell_front c.kind bytes ≡ Some (cell, rest)
    → behind front (cells_front (drop i cs) bytes) ≡ whole → behind (front ++ cell ∷ []) (cells_front (drop (i + 1) cs) rest) ≡ whole
reads_on front cell cs i c bytes rest whole is lt found so_far =
    let step : drop i cs ≡ c ∷ drop (i + 1) cs = rw add-one (drop-cons cs i c lt ∙ ap (λ (x : Column). x ∷ drop (suc i) cs) (sym is)) in
    let go : Cell × List ℕ → Option (List Cell × List ℕ) = λ first. cells_front (drop (i + 1) cs) first.1 >>= λ others. Some (first.0 ∷ others.0, others.1) in
    let one : cells_front (drop i cs) bytes ≡ (cells_front (drop (i + 1) cs) rest >>= λ others. Some (cell ∷ others.0, others.1)) =
    ap (λ (ds : List Column). cells_front ds bytes) step ∙ ap (λ (o : Option (Cell × List ℕ)). o >>= go) found in
    sym (another front cell (cells_front (drop (i + 1) cs) rest)) ∙ sym (ap (behind front) one) ∙ so_far

rest_is : (tag : ℕ) (bytes : List ℕ) → take (length (tag ∷ bytes) - 1) (drop 1 (tag ∷ bytes)) ≡ bytes
rest_is tag bytes = let one : suc (length bytes) - 1 ≡ length bytes = omega arith in ap (λ (n : ℕ). take n bytes) one ∙ take-length bytes

pub behind_tag : (kind : ColType) (bytes : List ℕ) (cell : Cell) (taken : ℕ) → 1 ≤ length bytes → tagged_front kind (get_or bytes 0 0) (take (length bytes - 1) (drop 1 bytes)) ≡ Some (cell, drop taken (take (length bytes - 1) (drop 1 bytes)))
    → cell_front kind bytes ≡ Some (cell, drop (taken + 1) bytes)
behind_tag kind [] cell taken le e = absurd (omega arith)
behind_tag kind (tag ∷ bytes) cell taken le e =
    let rest = take (length (tag ∷ bytes) - 1) (drop 1 (tag ∷ bytes)) in
    ap (tagged_front kind tag) (sym (rest_is tag bytes)) ∙ e ∙ ap (λ (r : List ℕ). Some (cell, drop taken r)) (rest_is tag bytes) ∙ rw add-one refl

-- what a call that did not fail promised
pub pushed : {T E : Type 0} (r : Result T E) (P : Type 0) → is_err r ≡ false → OnOk r P → P
pushed (Ok x) P e h = h
pushed (Err x) P e h = absurd cc
