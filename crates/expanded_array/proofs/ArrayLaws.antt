-- Elements of an array by their index.
use Rattle.std.proofs.Common.{◌≡◌, ◌+◌, ◌-◌, ◌<◌, ◌≤◌, ℕ, zero, suc, ℤ, pos, negsuc, List, [], ◌∷◌, ◌++◌, length, get_or, true, false, cond, Option, Some, None, Result, Ok, Err, refl, ap, sym, subst, ◌∙◌, arith, nat_lt, nat_eq, inl, inr}
use Rattle.std.specs.Prelude.{◌-ℤ◌, ◌≤ℤ◌, ◌<ℤ◌, int_lt, FitsSigned, IfSome, OnOk, OnErr, replicate, set}
use Rattle.std.specs.Option.{option_map}
use Rattle.std.specs.Int.{w32}
use Rattle.std.proofs.lemmas.Int.{ints}
use Rattle.std.proofs.lemmas.Bool.{cases_Bool, cond-true, cond-false, cond_both, ltb-false, ne_eqb}
use Rattle.std.proofs.lemmas.List.{get_or_past, length-set, length-append, length-replicate, append-nil}
use Rattle.expanded_array.specs.Array.{Array, Empty, Bounded, elements_of, element_at, IsHeld, element_above, index_above, index_in, limit, last_limit, last_of, lower_bound, size_of, size_set, elements_set, array_set, excess}
use Rattle.expanded_array.specs.Layout.{array_of}
use Rattle.expanded_array.specs.Kept.{size_after, excess_of}
use Rattle.expanded_array.proofs.Packing.{AreInt4, int4_cons, tail_are_int4}

pub array_of-some : (lower : ℤ) (es : List (Option ℤ)) → 0 < length es → array_of lower es ≡ Bounded lower es
array_of-some lower [] h = absurd (omega arith)
array_of-some lower (e ∷ es) h = refl

no_element_above : (d : ℤ) → element_above [] d ≡ None
no_element_above (pos k) = refl
no_element_above (negsuc k) = refl

pub element_at_array : (lower : ℤ) (es : List (Option ℤ)) (sub : ℤ) → element_at (array_of lower es) sub ≡ element_above es (sub -ℤ lower)
element_at_array lower [] sub = sym (no_element_above (sub -ℤ lower))
element_at_array lower (e ∷ es) sub = refl

above_none : (es : List (Option ℤ)) (d : ℤ) → index_above d (length es) ≡ None → element_above es d ≡ None
above_none es (negsuc k) e = refl
above_none es (pos k) e = elim (cases_Bool (nat_lt k (length es))) [
  | inl within ↦ let some : Some k ≡ None = sym (cond-true (nat_lt k (length es)) (Some k) None within) ∙ e in cc
  | inr beyond ↦ get_or_past es k None (ltb-false k (length es) beyond)
]

above_some : (es : List (Option ℤ)) (d : ℤ) (i : ℕ) → index_above d (length es) ≡ Some i → element_above es d ≡ get_or es i None
above_some es (negsuc k) i e = cc
above_some es (pos k) i e = elim (cases_Bool (nat_lt k (length es))) [
  | inl within ↦ let same : Some k ≡ Some i = sym (cond-true (nat_lt k (length es)) (Some k) None within) ∙ e in let index : k ≡ i = cc in ap (λ j. get_or es j None) index
  | inr beyond ↦ let none : None ≡ Some i = sym (cond-false (nat_lt k (length es)) (Some k) None beyond) ∙ e in cc
]

-- the element at a subscript outside the bounds, and within them
pub element_outside : (lower : ℤ) (es : List (Option ℤ)) (sub : ℤ) (n : ℕ) → n ≡ length es → index_in sub lower n ≡ None → element_at (array_of lower es) sub ≡ None
element_outside lower es sub n len e = element_at_array lower es sub ∙ above_none es (sub -ℤ lower) (ap (index_in sub lower) (sym len) ∙ e)

pub element_inside : (lower : ℤ) (es : List (Option ℤ)) (sub : ℤ) (n i : ℕ) → n ≡ length es → index_in sub lower n ≡ Some i → element_at (array_of lower es) sub ≡ get_or es i None
element_inside lower es sub n i len e = element_at_array lower es sub ∙ above_some es (sub -ℤ lower) i (ap (index_in sub lower) (sym len) ∙ e)

-- ---- sizes

pub length_set : (es : List (Option ℤ)) (d : ℤ) (v : Option ℤ) → length (elements_set es d v) ≡ size_set d (length es)
length_set es (pos k) v = omega (arith, length-set (es ++ replicate (k + 1 - length es) None) k v, length-append es (replicate (k + 1 - length es) None), length-replicate {A = Option ℤ} (k + 1 - length es) None)
length_set es (negsuc k) v = omega (arith, length-append (replicate k None) es, length-replicate {A = Option ℤ} k None)

size_array_set : (lower : ℤ) (es : List (Option ℤ)) (sub : ℤ) (v : Option ℤ) → size_of (array_set (array_of lower es) sub v) ≡ size_after sub lower (length es)
size_array_set lower [] sub v = refl
size_array_set lower (e ∷ es) sub v = length_set (e ∷ es) (sub -ℤ lower) v ∙ sym (cond-false (nat_eq (length (e ∷ es)) 0) _ _ (ne_eqb _ _ (λ z. omega arith)))

pub excess_is : (lower : ℤ) (es : List (Option ℤ)) (sub : ℤ) → excess (array_of lower es) sub ≡ excess_of sub lower (length es)
excess_is lower es sub = ap (λ n. cond (int_lt last_limit sub) (Some (limit + 1)) (cond (nat_lt limit n) (Some n) None)) (size_array_set lower es sub None)

size_same : (a : Array) (sub : ℤ) (v w : Option ℤ) → size_of (array_set a sub v) ≡ size_of (array_set a sub w)
size_same Empty sub v w = refl
size_same (Bounded lower es) sub v w = length_set es (sub -ℤ lower) v ∙ sym (length_set es (sub -ℤ lower) w)

no_excess : (a : Array) (sub : ℤ) → excess a sub ≡ None → (int_lt last_limit sub ≡ false) × (size_of (array_set a sub None) ≤ limit)
no_excess a sub e =
    elim (cases_Bool (int_lt last_limit sub)) [
      | inl beyond ↦ let some : Some (limit + 1) ≡ None = sym (cond-true (int_lt last_limit sub) _ _ beyond) ∙ e in cc
      | inr below ↦ elim (cases_Bool (nat_lt limit (size_of (array_set a sub None)))) [
        | inl many ↦ let some : Some (size_of (array_set a sub None)) ≡ None = sym (cond-false (int_lt last_limit sub) _ _ below ∙ cond-true (nat_lt limit (size_of (array_set a sub None))) _ _ many) ∙ e in cc
        | inr few ↦ (below, ltb-false _ _ few)
      ]
    ]

-- ---- a set array

int4_set : (es : List (Option ℤ)) (k : ℕ) (v : Option ℤ) → IfSome v (FitsSigned w32) → AreInt4 es → AreInt4 (set es k v)
int4_set [] k v here h = h
int4_set (e ∷ es) zero v here h = int4_cons v es here (tail_are_int4 e es h)
int4_set (e ∷ es) (suc k) v here h = int4_cons e (set es k v) (h 0 None (omega arith)) (int4_set es k v here (tail_are_int4 e es h))

no_int4 : AreInt4 []
no_int4 = λ k d lt. absurd (omega arith)

int4_nulls : (n : ℕ) (es : List (Option ℤ)) → AreInt4 es → AreInt4 (replicate n None ++ es)
int4_nulls zero es h = h
int4_nulls (suc n) es h = int4_cons None (replicate n None ++ es) tt (int4_nulls n es h)

int4_append : (es fs : List (Option ℤ)) → AreInt4 es → AreInt4 fs → AreInt4 (es ++ fs)
int4_append [] fs h g = g
int4_append (e ∷ es) fs h g = int4_cons e (es ++ fs) (h 0 None (omega arith)) (int4_append es fs (tail_are_int4 e es h) g)

int4_elements : (es : List (Option ℤ)) (d : ℤ) (v : Option ℤ) → IfSome v (FitsSigned w32) → AreInt4 es → AreInt4 (elements_set es d v)
int4_elements es (pos k) v here h =
    let nulls : AreInt4 (replicate (k + 1 - length es) None) = subst AreInt4 (append-nil (replicate (k + 1 - length es) None)) (int4_nulls (k + 1 - length es) [] no_int4) in
    int4_set (es ++ replicate (k + 1 - length es) None) k v here (int4_append es (replicate (k + 1 - length es) None) h nulls)
int4_elements es (negsuc k) v here h = int4_cons v (replicate k None ++ es) here (int4_nulls k es h)

some_set : (es : List (Option ℤ)) (d : ℤ) (v : Option ℤ) → 0 < length (elements_set es d v)
some_set es (pos k) v = omega (arith, length_set es (pos k) v)
some_set es (negsuc k) v = omega arith

lower_fits : (lower sub : ℤ) → FitsSigned w32 lower → FitsSigned w32 sub → FitsSigned w32 (lower_bound lower sub)
lower_fits lower sub f g = cond_both (int_lt sub lower) sub lower (λ z. FitsSigned w32 z) (λ e. g) (λ e. f)

pub not_below : (lower sub : ℤ) → lower ≤ℤ sub → int_lt sub lower ≡ false
not_below lower sub h = grind (arith, ints)

pub is_below : (lower sub : ℤ) → sub <ℤ lower → int_lt sub lower ≡ true
is_below lower sub h = grind (arith, ints)

sub_le : (sub : ℤ) → int_lt last_limit sub ≡ false → sub ≤ℤ last_limit
sub_le sub e = grind (arith, ints)

last_above : (lower sub : ℤ) (n : ℕ) (d : ℤ) → d ≡ sub -ℤ lower → 0 < n → last_of lower n ≤ℤ last_limit → sub ≤ℤ last_limit → last_of (lower_bound lower sub) (size_set d n) ≤ℤ last_limit
last_above lower sub n (pos k) e some h le =
    let up : lower ≤ℤ sub = omega (arith, ints) in
    let same : lower_bound lower sub ≡ lower = cond-false (int_lt sub lower) sub lower (not_below lower sub up) in
    rw same (omega (arith, ints))
last_above lower sub n (negsuc k) e some h le =
    let down : sub <ℤ lower = omega (arith, ints) in
    let same : lower_bound lower sub ≡ sub = cond-true (int_lt sub lower) sub lower (is_below lower sub down) in
    rw same (omega (arith, ints))

last_set : (lower sub : ℤ) (n : ℕ) → 0 < n → last_of lower n ≤ℤ last_limit → int_lt last_limit sub ≡ false → last_of (lower_bound lower sub) (size_set (sub -ℤ lower) n) ≤ℤ last_limit
last_set lower sub n some h e = last_above lower sub n (sub -ℤ lower) refl some h (sub_le sub e)

pub set_held : (a : Array) (sub : ℤ) (v : Option ℤ) → IsHeld a → excess a sub ≡ None → FitsSigned w32 sub → IfSome v (FitsSigned w32) → IsHeld (array_set a sub v)
set_held Empty sub v h e f g =
    let p = no_excess Empty sub e in
    record {
      array = record { some = omega arith; int4 = f; last = let le : sub ≤ℤ last_limit = sub_le sub p.0 in omega (arith, ints); numbers = int4_cons v [] g no_int4 };
      few = omega arith;
    }
set_held (Bounded lower es) sub v h e f g =
    let p = no_excess (Bounded lower es) sub e in
    record {
      array = record {
        some = some_set es (sub -ℤ lower) v;
        int4 = lower_fits lower sub h.array.int4 f;
        last = subst (λ n. last_of (lower_bound lower sub) n ≤ℤ last_limit) (sym (length_set es (sub -ℤ lower) v)) (last_set lower sub (length es) h.array.some h.array.last p.0);
        numbers = int4_elements es (sub -ℤ lower) v g h.array.numbers;
      };
      few = omega (arith, size_same (Bounded lower es) sub v None, p.1);
    }

-- an array after a set that may have found no memory
pub held_after : {T E : Type 0} (r : Result T E) (old new : Array) (sub : ℤ) (v : Option ℤ) → IsHeld old → excess old sub ≡ None → FitsSigned w32 sub → IfSome v (FitsSigned w32) → OnOk r (new ≡ array_set old sub v) → OnErr r (new ≡ old) → IsHeld new
held_after (Ok x) old new sub v h e f g ok err = subst IsHeld (sym ok) (set_held old sub v h e f g)
held_after (Err x) old new sub v h e f g ok err = subst IsHeld (sym err) h

pub map_none : (o : Option ℕ) → None ≡ option_map (λ n. pos n) o → o ≡ None
map_none None e = refl
map_none (Some n) e = cc

pub on_ok_always : {T E P : Type 0} (r : Result T E) → P → OnOk r P
on_ok_always (Ok x) p = p
on_ok_always (Err e) p = tt

pub elements_of_array : (lower : ℤ) (es : List (Option ℤ)) → elements_of (array_of lower es) ≡ es
elements_of_array lower [] = refl
elements_of_array lower (e ∷ es) = refl

pub bounded_array : (lower : ℤ) (es : List (Option ℤ)) → 0 < length es → array_of lower es ≡ Bounded lower (elements_of (array_of lower es))
bounded_array lower [] h = absurd (omega arith)
bounded_array lower (e ∷ es) h = refl
