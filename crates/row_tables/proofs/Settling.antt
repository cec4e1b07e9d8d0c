-- Values that are moved out of a row: the numbers under which they are moved out, what is told of these, and the row's cells
-- behind it.
use Rattle.std.proofs.Common.{ℕ, suc, ◌+◌, ◌<◌, ◌≤◌, ◌≡◌, ◌≢◌, Bool, true, false, List, [], ◌∷◌, ◌++◌, length, refl, ap, sym, subst, ◌∙◌, arith}
use Rattle.std.specs.Prelude.{◌==◌, ◌||◌}
use Rattle.std.proofs.lemmas.Bool.{cond-true, cond-false, eq-eqb, ne_eqb}
use Rattle.lo_base.specs.declared.column.Column.{Column}
use Rattle.lo_base.specs.declared.value.Value.TheVariants as values
use Rattle.lo_base.specs.declared.value.Cell.{Cell}
use Rattle.lo_base.specs.declared.value.Cell.TheVariants as cells
use Rattle.row_versions.specs.Count.{Different}
use Rattle.row_versions.specs.Stack.{Each, Pairwise}
use Rattle.row_versions.proofs.Stacking.{each_more, each_both}
use Rattle.toast_plan.specs.Row.{FitColumns}
use Rattle.row_tables.specs.declared.row_key.RowKey.{RowKey}
use Rattle.row_tables.specs.Cells.{Told, Moved, AreCells, IsCell, all_moved, all_settled, has_moved, has_number, is_among, moved_out_of, next_after, number_of, numbers_in, settled, told_with, value_told, values_told}
use Rattle.row_tables.specs.Values.{HasId}
use Rattle.row_tables.proofs.EachOf.{any_append, cons_same, each_append, each_left, each_right, or_false, or_swap, pairwise_across, pairwise_join, pairwise_right}

-- what is told of a value that moves out
abbrev pub told_now : (clock : ℕ) → RowKey → List ℕ → Told
told_now clock key bytes = record { bytes = bytes; moved = clock; home = key }

abbrev pub IsToldNow : (clock : ℕ) → RowKey → (ℕ → Told) → Moved → Type 0
IsToldNow clock key told m = told m.number ≡ told_now clock key m.bytes

-- of a number the same is told
abbrev pub IsToldAlike : (new old : ℕ → Told) → ℕ → Type 0
IsToldAlike new old n = new n ≡ old n

abbrev pub IsNumbered : (low high : ℕ) → Moved → Type 0
IsNumbered low high m = (low ≤ m.number) × (m.number < high)

abbrev pub IsBefore : Moved → Moved → Type 0
IsBefore a b = a.number < b.number

-- numbers of what moves out

-- of one cell at most one value moves out, under the number given
abbrev IsFront : ℕ → List Moved → Type 0
IsFront n [] = Unit {0}
IsFront n (m ∷ []) = m.number ≡ n
IsFront n (m ∷ k ∷ ms) = ⊥

front_is : (o : Bool) (c : Cell) (n : ℕ) → IsFront n (moved_out_of o c n)
front_is false c n = tt
front_is true cells.Null n = tt
front_is true (cells.Int z) n = tt
front_is true (cells.Oid i) n = tt
front_is true (cells.Inline bytes) n = refl
front_is true (cells.Text bytes) n = tt
front_is true (cells.Outside l m) n = tt

front_at : (n : ℕ) (xs : List Moved) → IsFront n xs → Each (λ (m : Moved). m.number ≡ n) xs
front_at n [] front = tt
front_at n (m ∷ []) front = (front, tt)
front_at n (m ∷ k ∷ ms) front = absurd front

numbered_wider : (low high low' high' : ℕ) → low' ≤ low → high ≤ high' → (ms : List Moved) → Each (IsNumbered low high) ms → Each (IsNumbered low' high') ms
numbered_wider low high low' high' down up ms h = each_more (IsNumbered low high) (IsNumbered low' high') (λ m b. (let l : low ≤ m.number = b.0 in omega (arith, l, down), let u : m.number < high = b.1 in omega (arith, u, up))) ms h

numbered_front : (n : ℕ) (xs rest : List Moved) → IsFront n xs → Each (IsNumbered (n + length xs) (n + length xs + length rest)) rest → Each (IsNumbered n (n + length (xs ++ rest))) (xs ++ rest)
numbered_front n [] rest front h = numbered_wider (n + 0) (n + 0 + length rest) n (n + length rest) (omega arith) (omega arith) rest h
numbered_front n (m ∷ []) rest front h = ((omega (arith, front), omega (arith, front)), numbered_wider (n + 1) (n + 1 + length rest) n (n + suc (length rest)) (omega arith) (omega arith) rest h)
numbered_front n (m ∷ k ∷ ms) rest front h = absurd front

pub moved_numbers : (os : List Bool) (row : List Cell) (first : ℕ) → Each (λ (m : Moved). (first ≤ m.number) × (m.number < first + length (all_moved os row first))) (all_moved os row first)
moved_numbers [] row first = tt
moved_numbers (o ∷ os) [] first = tt
moved_numbers (o ∷ os) (c ∷ cs) first = numbered_front first (moved_out_of o c first) (all_moved os cs (next_after o c first)) (front_is o c first) (moved_numbers os cs (next_after o c first))

pub moved_from : (os : List Bool) (row : List Cell) (first : ℕ) → Each (λ (m : Moved). first ≤ m.number) (all_moved os row first)
moved_from os row first = each_more (IsNumbered first (first + length (all_moved os row first))) (λ (m : Moved). first ≤ m.number) (λ m b. b.0) (all_moved os row first) (moved_numbers os row first)

pub moved_below : (os : List Bool) (row : List Cell) (first : ℕ) → Each (λ (m : Moved). m.number < first + length (all_moved os row first)) (all_moved os row first)
moved_below os row first = each_more (IsNumbered first (first + length (all_moved os row first))) (λ (m : Moved). m.number < first + length (all_moved os row first)) (λ m b. b.1) (all_moved os row first) (moved_numbers os row first)

front_before : (n : ℕ) (xs rest : List Moved) → IsFront n xs → Each (λ (m : Moved). n + length xs ≤ m.number) rest → Each (λ (m : Moved). Each (IsBefore m) rest) xs
front_before n [] rest front low = tt
front_before n (m ∷ []) rest front low = (each_more (λ (k : Moved). n + 1 ≤ k.number) (IsBefore m) (λ k h. omega (arith, h, front)) rest low, tt)
front_before n (m ∷ k ∷ ms) rest front low = absurd front

front_alone : (n : ℕ) (xs : List Moved) → IsFront n xs → Pairwise IsBefore xs
front_alone n [] front = tt
front_alone n (m ∷ []) front = (tt, tt)
front_alone n (m ∷ k ∷ ms) front = absurd front

-- the numbers rise
pub moved_rise : (os : List Bool) (row : List Cell) (first : ℕ) → Pairwise IsBefore (all_moved os row first)
moved_rise [] row first = tt
moved_rise (o ∷ os) [] first = tt
moved_rise (o ∷ os) (c ∷ cs) first =
    pairwise_join IsBefore (moved_out_of o c first) (all_moved os cs (next_after o c first)) (front_alone first (moved_out_of o c first) (front_is o c first)) (front_before first (moved_out_of o c first) (all_moved os cs (next_after o c first)) (front_is o c first) (moved_from os cs (next_after o c first))) (moved_rise os cs (next_after o c first))

-- what is told

told_other : (clock : ℕ) (key : RowKey) (ms : List Moved) (told : ℕ → Told) (n : ℕ) → Each (λ (m : Moved). m.number ≢ n) ms → told_with clock key ms told n ≡ told n
told_other clock key [] told n h = refl
told_other clock key (m ∷ ms) told n h = cond-false (m.number == n) (told_now clock key m.bytes) (told_with clock key ms told n) (ne_eqb m.number n h.0) ∙ told_other clock key ms told n h.1

told_own : (clock : ℕ) (key : RowKey) (ms : List Moved) (told : ℕ → Told) → Pairwise IsBefore ms → Each (IsToldNow clock key (told_with clock key ms told)) ms
told_own clock key [] told h = tt
told_own clock key (m ∷ ms) told h = (cond-true (m.number == m.number) (told_now clock key m.bytes) (told_with clock key ms told m.number) (eq-eqb m.number m.number refl), each_both (IsBefore m) (IsToldNow clock key (told_with clock key ms told)) (IsToldNow clock key (told_with clock key (m ∷ ms) told)) (λ k before is. later k before is) ms h.0 (told_own clock key ms told h.1))
  where
    later : (k : Moved) → m.number < k.number → told_with clock key ms told k.number ≡ told_now clock key k.bytes → told_with clock key (m ∷ ms) told k.number ≡ told_now clock key k.bytes
    later k before is = cond-false (m.number == k.number) (told_now clock key m.bytes) (told_with clock key ms told k.number) (ne_eqb m.number k.number (λ same. omega (arith, before, same))) ∙ is

pub told_before : (clock : ℕ) (key : RowKey) (os : List Bool) (row : List Cell) (first : ℕ) (told : ℕ → Told) (n : ℕ) → n < first → told_with clock key (all_moved os row first) told n ≡ told n
told_before clock key os row first told n before = told_other clock key (all_moved os row first) told n (each_more (λ (m : Moved). first ≤ m.number) (λ (m : Moved). m.number ≢ n) (λ m low same. omega (arith, low, same, before)) (all_moved os row first) (moved_from os row first))

pub told_moved : (clock : ℕ) (key : RowKey) (os : List Bool) (row : List Cell) (first : ℕ) (told : ℕ → Told) → Each (λ (m : Moved). told_with clock key (all_moved os row first) told m.number ≡ told_now clock key m.bytes) (all_moved os row first)
told_moved clock key os row first told = told_own clock key (all_moved os row first) told (moved_rise os row first)

pub told_alike : (clock : ℕ) (key : RowKey) (os : List Bool) (row : List Cell) (first : ℕ) (told : ℕ → Told) (ns : List ℕ) → Each (λ (n : ℕ). n < first) ns → Each (IsToldAlike (told_with clock key (all_moved os row first) told) told) ns
told_alike clock key os row first told ns before = each_more (λ (n : ℕ). n < first) (IsToldAlike (told_with clock key (all_moved os row first) told) told) (λ n less. told_before clock key os row first told n less) ns before

-- the numbers that the cells have

cell_has : (o : Bool) (c : Cell) (first n : ℕ) → is_among (number_of (settled o c first)) n ≡ (has_moved (moved_out_of o c first) n || is_among (number_of c) n)
cell_has false c first n = refl
cell_has true cells.Null first n = refl
cell_has true (cells.Int z) first n = refl
cell_has true (cells.Oid i) first n = refl
cell_has true (cells.Inline bytes) first n = sym (or_false ((first == n) || false))
cell_has true (cells.Text bytes) first n = refl
cell_has true (cells.Outside l m) first n = refl

pub settled_has : (os : List Bool) (row : List Cell) (first n : ℕ) → has_number (all_settled os row first) n ≡ (has_moved (all_moved os row first) n || has_number row n)
settled_has [] row first n = refl
settled_has (o ∷ os) [] first n = refl
settled_has (o ∷ os) (c ∷ cs) first n =
    any_append (λ (m : ℕ). m == n) (number_of (settled o c first)) (numbers_in (all_settled os cs (next_after o c first)))
    ∙ ap (λ (b : Bool). b || has_number (all_settled os cs (next_after o c first)) n) (cell_has o c first n)
    ∙ ap (λ (b : Bool). (has_moved (moved_out_of o c first) n || is_among (number_of c) n) || b) (settled_has os cs (next_after o c first) n)
    ∙ or_swap (has_moved (moved_out_of o c first) n) (is_among (number_of c) n) (has_moved (all_moved os cs (next_after o c first)) n) (has_number cs n)
    ∙ ap (λ (b : Bool). b || (is_among (number_of c) n || has_number cs n)) (sym (any_append (λ (m : Moved). m.number == n) (moved_out_of o c first) (all_moved os cs (next_after o c first))))
    ∙ ap (λ (b : Bool). has_moved (all_moved (o ∷ os) (c ∷ cs) first) n || b) (sym (any_append (λ (m : ℕ). m == n) (number_of c) (numbers_in cs)))

-- what holds of the numbers of a row and of those that move out holds of the numbers behind it

cell_each : (P : ℕ → Type 0) (o : Bool) (c : Cell) (n : ℕ) → Each P (number_of c) → Each (λ (m : Moved). P m.number) (moved_out_of o c n) → Each P (number_of (settled o c n))
cell_each P false c n h k = h
cell_each P true cells.Null n h k = tt
cell_each P true (cells.Int z) n h k = tt
cell_each P true (cells.Oid i) n h k = tt
cell_each P true (cells.Inline bytes) n h k = (k.0, tt)
cell_each P true (cells.Text bytes) n h k = tt
cell_each P true (cells.Outside l m) n h k = h

pub settled_each : (P : ℕ → Type 0) (os : List Bool) (row : List Cell) (n : ℕ) → Each P (numbers_in row) → Each (λ (m : Moved). P m.number) (all_moved os row n) → Each P (numbers_in (all_settled os row n))
settled_each P [] row n h k = h
settled_each P (o ∷ os) [] n h k = tt
settled_each P (o ∷ os) (c ∷ cs) n h k =
    each_append P (number_of (settled o c n)) (numbers_in (all_settled os cs (next_after o c n)))
    (cell_each P o c n (each_left P (number_of c) (numbers_in cs) h) (each_left (λ (m : Moved). P m.number) (moved_out_of o c n) (all_moved os cs (next_after o c n)) k))
    (settled_each P os cs (next_after o c n) (each_right P (number_of c) (numbers_in cs) h) (each_right (λ (m : Moved). P m.number) (moved_out_of o c n) (all_moved os cs (next_after o c n)) k))

pub number_once : (c : Cell) → Different (number_of c)
number_once cells.Null = tt
number_once (cells.Int z) = tt
number_once (cells.Oid n) = tt
number_once (cells.Inline bytes) = tt
number_once (cells.Text bytes) = tt
number_once (cells.Outside l n) = (tt, tt)

-- no number stands twice
pub settled_once : (first : ℕ) (os : List Bool) (row : List Cell) (n : ℕ) → first ≤ n → Each (λ (k : ℕ). k < first) (numbers_in row) → Different (numbers_in row) → Different (numbers_in (all_settled os row n))
settled_once first [] row n later below once = once
settled_once first (o ∷ os) [] n later below once = tt
settled_once first (o ∷ os) (c ∷ cs) n later below once =
    pairwise_join (λ (a b : ℕ). a ≢ b) (number_of (settled o c n)) (numbers_in (all_settled os cs (next_after o c n)))
    (number_once (settled o c n))
    (cell_each IsApart o c n
    (each_both (λ (x : ℕ). Each (λ (k : ℕ). x ≢ k) (numbers_in cs)) (λ (x : ℕ). x < first) IsApart (λ x apart less. old_apart x apart less) (number_of c) (pairwise_across (λ (a b : ℕ). a ≢ b) (number_of c) (numbers_in cs) once) (each_left (λ (k : ℕ). k < first) (number_of c) (numbers_in cs) below))
    (each_both (λ (m : Moved). m.number ≡ n) (λ (m : Moved). Each (IsBefore m) (all_moved os cs (next_after o c n))) (λ (m : Moved). IsApart m.number) (λ m is before. new_apart m is before) (moved_out_of o c n) (front_at n (moved_out_of o c n) (front_is o c n)) (front_before n (moved_out_of o c n) (all_moved os cs (next_after o c n)) (front_is o c n) (moved_from os cs (next_after o c n)))))
    (settled_once first os cs (next_after o c n) (omega (arith, later)) rest_below (pairwise_right (λ (a b : ℕ). a ≢ b) (number_of c) (numbers_in cs) once))
  where
    IsApart : ℕ → Type 0
    IsApart x = Each (λ (k : ℕ). x ≢ k) (numbers_in (all_settled os cs (next_after o c n)))

    rest_below : Each (λ (k : ℕ). k < first) (numbers_in cs)
    rest_below = each_right (λ (k : ℕ). k < first) (number_of c) (numbers_in cs) below

    old_apart : (x : ℕ) → Each (λ (k : ℕ). x ≢ k) (numbers_in cs) → x < first → Each (λ (k : ℕ). x ≢ k) (numbers_in (all_settled os cs (next_after o c n)))
    old_apart x apart less = settled_each (λ (k : ℕ). x ≢ k) os cs (next_after o c n) apart (each_more (λ (m : Moved). next_after o c n ≤ m.number) (λ (m : Moved). x ≢ m.number) (λ m low same. omega (arith, low, same, less, later)) (all_moved os cs (next_after o c n)) (moved_from os cs (next_after o c n)))

    new_apart : (m : Moved) → m.number ≡ n → Each (IsBefore m) (all_moved os cs (next_after o c n)) → Each (λ (k : ℕ). m.number ≢ k) (numbers_in (all_settled os cs (next_after o c n)))
    new_apart m is before = settled_each (λ (k : ℕ). m.number ≢ k) os cs (next_after o c n) (each_more (λ (k : ℕ). k < first) (λ (k : ℕ). m.number ≢ k) (λ k less same. omega (arith, less, same, is, later)) (numbers_in cs) rest_below) (each_more (IsBefore m) (λ (k : Moved). m.number ≢ k.number) (λ k less same. omega (arith, less, same)) (all_moved os cs (next_after o c n)) before)

-- values

value_settled : (new old : ℕ → Told) (clock : ℕ) (key : RowKey) (o : Bool) (c : Cell) (n : ℕ) → Each (IsToldAlike new old) (number_of c) → Each (IsToldNow clock key new) (moved_out_of o c n) → value_told new (settled o c n) ≡ value_told old c
value_settled new old clock key false cells.Null n h k = refl
value_settled new old clock key false (cells.Int z) n h k = refl
value_settled new old clock key false (cells.Oid i) n h k = refl
value_settled new old clock key false (cells.Inline bytes) n h k = refl
value_settled new old clock key false (cells.Text bytes) n h k = refl
value_settled new old clock key false (cells.Outside l m) n h k = ap (λ (t : Told). values.Bytes t.bytes) h.0
value_settled new old clock key true cells.Null n h k = refl
value_settled new old clock key true (cells.Int z) n h k = refl
value_settled new old clock key true (cells.Oid i) n h k = refl
value_settled new old clock key true (cells.Inline bytes) n h k = ap (λ (t : Told). values.Bytes t.bytes) k.0
value_settled new old clock key true (cells.Text bytes) n h k = refl
value_settled new old clock key true (cells.Outside l m) n h k = ap (λ (t : Told). values.Bytes t.bytes) h.0

-- where the same is told of a row's numbers, its values are the same
pub values_alike : (new old : ℕ → Told) (row : List Cell) → Each (IsToldAlike new old) (numbers_in row) → values_told new row ≡ values_told old row
values_alike new old [] h = refl
values_alike new old (c ∷ cs) h = cons_same (value_told new c) (value_told old c) (values_told new cs) (values_told old cs) (at c (each_left (IsToldAlike new old) (number_of c) (numbers_in cs) h)) (values_alike new old cs (each_right (IsToldAlike new old) (number_of c) (numbers_in cs) h))
  where
    at : (c : Cell) → Each (IsToldAlike new old) (number_of c) → value_told new c ≡ value_told old c
    at cells.Null k = refl
    at (cells.Int z) k = refl
    at (cells.Oid i) k = refl
    at (cells.Inline bytes) k = refl
    at (cells.Text bytes) k = refl
    at (cells.Outside l m) k = ap (λ (t : Told). values.Bytes t.bytes) k.0

pub values_kept : (new old : ℕ → Told) (clock : ℕ) (key : RowKey) (os : List Bool) (row : List Cell) (n : ℕ) → Each (IsToldAlike new old) (numbers_in row) → Each (IsToldNow clock key new) (all_moved os row n) → values_told new (all_settled os row n) ≡ values_told old row
values_kept new old clock key [] row n h k = values_alike new old row h
values_kept new old clock key (o ∷ os) [] n h k = refl
values_kept new old clock key (o ∷ os) (c ∷ cs) n h k =
    cons_same (value_told new (settled o c n)) (value_told old c) (values_told new (all_settled os cs (next_after o c n))) (values_told old cs)
    (value_settled new old clock key o c n (each_left (IsToldAlike new old) (number_of c) (numbers_in cs) h) (each_left (IsToldNow clock key new) (moved_out_of o c n) (all_moved os cs (next_after o c n)) k))
    (values_kept new old clock key os cs (next_after o c n) (each_right (IsToldAlike new old) (number_of c) (numbers_in cs) h) (each_right (IsToldNow clock key new) (moved_out_of o c n) (all_moved os cs (next_after o c n)) k))

pub settled_values : (clock : ℕ) (key : RowKey) (os : List Bool) (row : List Cell) (first : ℕ) (told : ℕ → Told) → Each (λ (n : ℕ). n < first) (numbers_in row) → values_told (told_with clock key (all_moved os row first) told) (all_settled os row first) ≡ values_told told row
settled_values clock key os row first told before = values_kept (told_with clock key (all_moved os row first) told) told clock key os row first (told_alike clock key os row first told (numbers_in row) before) (told_moved clock key os row first told)

-- cells

pub cells_below : (told : ℕ → Told) (key : RowKey) (next : ℕ) (row : List Cell) → Each (IsCell told key next) row → Each (λ (n : ℕ). n < next) (numbers_in row)
cells_below told key next [] h = tt
cells_below told key next (c ∷ cs) h = each_append (λ (n : ℕ). n < next) (number_of c) (numbers_in cs) (at c h.0) (cells_below told key next cs h.1)
  where
    at : (c : Cell) → IsCell told key next c → Each (λ (n : ℕ). n < next) (number_of c)
    at cells.Null k = tt
    at (cells.Int z) k = tt
    at (cells.Oid i) k = tt
    at (cells.Inline bytes) k = tt
    at (cells.Text bytes) k = tt
    at (cells.Outside l m) k = (k.2, tt)

cell_alike : (new old : ℕ → Told) (key : RowKey) (first high : ℕ) (c : Cell) → first ≤ high → IsCell old key first c → Each (IsToldAlike new old) (number_of c) → IsCell new key high c
cell_alike new old key first high cells.Null more h k = tt
cell_alike new old key first high (cells.Int z) more h k = tt
cell_alike new old key first high (cells.Oid i) more h k = tt
cell_alike new old key first high (cells.Inline bytes) more h k = tt
cell_alike new old key first high (cells.Text bytes) more h k = h
cell_alike new old key first high (cells.Outside l m) more h k = (h.0 ∙ ap (λ (t : Told). length t.bytes) (sym k.0), ap (λ (t : Told). t.home) k.0 ∙ h.1, (let less : m < first = h.2 in omega (arith, less, more)))

-- where the same is told of a row's numbers, its cells are cells, also for later numbers
pub cells_alike : (new old : ℕ → Told) (key : RowKey) (first high : ℕ) (row : List Cell) → first ≤ high → Each (IsCell old key first) row → Each (IsToldAlike new old) (numbers_in row) → Each (IsCell new key high) row
cells_alike new old key first high [] more h k = tt
cells_alike new old key first high (c ∷ cs) more h k = (cell_alike new old key first high c more h.0 (each_left (IsToldAlike new old) (number_of c) (numbers_in cs) k), cells_alike new old key first high cs more h.1 (each_right (IsToldAlike new old) (number_of c) (numbers_in cs) k))

cell_settled : (new old : ℕ → Told) (clock : ℕ) (key : RowKey) (first high : ℕ) (o : Bool) (c : Cell) (n : ℕ) → first ≤ high → IsCell old key first c → Each (IsToldAlike new old) (number_of c) → Each (IsToldNow clock key new) (moved_out_of o c n) → Each (λ (m : Moved). m.number < high) (moved_out_of o c n) → IsCell new key high (settled o c n)
cell_settled new old clock key first high false c n more h alike now below = cell_alike new old key first high c more h alike
cell_settled new old clock key first high true cells.Null n more h alike now below = tt
cell_settled new old clock key first high true (cells.Int z) n more h alike now below = tt
cell_settled new old clock key first high true (cells.Oid i) n more h alike now below = tt
cell_settled new old clock key first high true (cells.Inline bytes) n more h alike now below = (ap (λ (t : Told). length t.bytes) (sym now.0), ap (λ (t : Told). t.home) now.0, below.0)
cell_settled new old clock key first high true (cells.Text bytes) n more h alike now below = h
cell_settled new old clock key first high true (cells.Outside l m) n more h alike now below = cell_alike new old key first high (cells.Outside l m) more h alike

cells_settled : (new old : ℕ → Told) (clock : ℕ) (key : RowKey) (first high : ℕ) (os : List Bool) (row : List Cell) (n : ℕ) → first ≤ high → Each (IsCell old key first) row → Each (IsToldAlike new old) (numbers_in row) → Each (IsToldNow clock key new) (all_moved os row n) → Each (λ (m : Moved). m.number < high) (all_moved os row n) → Each (IsCell new key high) (all_settled os row n)
cells_settled new old clock key first high [] row n more h alike now below = cells_alike new old key first high row more h alike
cells_settled new old clock key first high (o ∷ os) [] n more h alike now below = tt
cells_settled new old clock key first high (o ∷ os) (c ∷ cs) n more h alike now below = (
  cell_settled new old clock key first high o c n more h.0
      (each_left (IsToldAlike new old) (number_of c) (numbers_in cs) alike)
      (each_left (IsToldNow clock key new) (moved_out_of o c n) (all_moved os cs (next_after o c n)) now)
      (each_left (λ (m : Moved). m.number < high) (moved_out_of o c n) (all_moved os cs (next_after o c n)) below),
  cells_settled new old clock key first high os cs (next_after o c n) more h.1
      (each_right (IsToldAlike new old) (number_of c) (numbers_in cs) alike)
      (each_right (IsToldNow clock key new) (moved_out_of o c n) (all_moved os cs (next_after o c n)) now)
      (each_right (λ (m : Moved). m.number < high) (moved_out_of o c n) (all_moved os cs (next_after o c n)) below),
)

pub settled_cells : (clock : ℕ) (key : RowKey) (os : List Bool) (row : List Cell) (first : ℕ) (told : ℕ → Told) (columns : List Column) → AreCells told key first columns row → AreCells (told_with clock key (all_moved os row first) told) key (first + length (all_moved os row first)) columns (all_settled os row first)
settled_cells clock key os row first told columns h =
    let before : Each (λ (n : ℕ). n < first) (numbers_in row) = cells_below told key first row h.each in
    let same : values_told (told_with clock key (all_moved os row first) told) (all_settled os row first) ≡ values_told told row = settled_values clock key os row first told before in
    record {
      each = cells_settled (told_with clock key (all_moved os row first) told) told clock key first (first + length (all_moved os row first)) os row first (omega arith) h.each (told_alike clock key os row first told (numbers_in row) before) (told_moved clock key os row first told) (moved_below os row first);
      once = settled_once first os row first (omega arith) before h.once;
      fit = subst (FitColumns columns) (sym same) h.fit;
      id = subst (HasId key.id) (sym same) h.id;
    }
