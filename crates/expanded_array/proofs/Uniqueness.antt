-- A text spells one array, and printed text spells the array that was printed.
use Rattle.std.proofs.Common.{◌≡◌, ◌^◌, ◌<◌, ◌≤◌, ℕ, zero, suc, ℤ, pos, negsuc, List, [], ◌∷◌, ◌++◌, length, drop, get_or, map, Bool, true, false, cond, Option, Some, None, Result, Ok, Err, refl, ap, ap₂, sym, subst, ◌∙◌, arith, nat_eq, nat_lt, inl, inr}
use Rattle.std.specs.Prelude.{◌≢◌, ◌≤ℤ◌, ◌==◌, FitsSigned, neg_ℤ, IfOk, IfErr, IfSome, codes}
use Rattle.std.specs.Int.{w32, IsInRange}
use Rattle.std.specs.Fmt.{decimal, signed_decimal}
use Rattle.std.specs.Ordering.{int_eq}
use Rattle.std.specs.List.{AllZip, slice_split}
use Rattle.std.specs.Char.{to_ascii_lowercase}
use Rattle.std.specs.Str.Parse.{IsNumeral, AllDigits, digits_value, without_leading_sign, signed_digits_value}
use Rattle.std.proofs.lemmas.Bool.{lt-ltb, cases_Bool, cond-true, cond-false, ne_eqb}
use Rattle.std.proofs.lemmas.Bool.Decides.{Decides-int_eq}
use Rattle.std.proofs.lemmas.Fmt.{decimal_is_IsNumeral, signed_decimal_injective}
use Rattle.std.proofs.lemmas.Str.Parse.{digit_at}
use Rattle.std.proofs.lemmas.List.{append_assoc, append-nil, same_from_push, get_or_default}
use Rattle.std.proofs.lemmas.List.Splits.{slice_split_at, length-slice_split}
use Rattle.std.proofs.lemmas.Int.{ints}
use lib.Signed.{mag}
use Rattle.expanded_array.specs.Array.{Array, Empty, Bounded, HasBounds, IsArray, IsHeld, last_of, last_limit, size_of}
use Rattle.expanded_array.specs.Text.{array_text, bounds_text, element_text, explicit_bounds, joined}
use Rattle.expanded_array.specs.Spelling.{HasNoBrace, HasNoColon, SpellsBounded, SpellsBounds, SpellsElement, SpellsElements, Spells, IsTextDenial, ReadsAgain, is_comma}
use Rattle.lo_base.specs.declared.refusal.Denied.{Denied}
use Rattle.lo_base.specs.declared.refusal.Denied.TheVariants.{By, NoMemory}
use Rattle.expanded_array.proofs.Packing.{AreInt4, int4_cons, tail_are_int4}
use Rattle.expanded_array.specs.Layout.{array_of}
use Rattle.expanded_array.proofs.SpellingLaws.{comma_none}

-- ---- bytes that do not stand in a text

abbrev pub HasNo : ℕ → List ℕ → Type 0
HasNo c bytes = (k : ℕ) → k < length bytes → get_or bytes k 0 ≡ c → ⊥

no_append : (c : ℕ) (xs ys : List ℕ) → HasNo c xs → HasNo c ys → HasNo c (xs ++ ys)
no_append c [] ys h g k lt e = g k lt e
no_append c (x ∷ xs) ys h g zero lt e = h zero (omega arith) e
no_append c (x ∷ xs) ys h g (suc k) lt e = no_append c xs ys (λ j l. h (suc j) (omega arith)) g k (omega arith) e

no_one : (c x : ℕ) → x ≢ c → HasNo c (x ∷ [])
no_one c x ne zero lt e = ne e
no_one c x ne (suc k) lt e = absurd (omega arith)

no_digits : (c : ℕ) (ds : List ℕ) → (IsInRange 48 57 c → ⊥) → AllDigits 10 ds → HasNo c ds
no_digits c ds ne h k lt e = ne (subst (IsInRange 48 57) e (digit_at ds k h lt))

-- where a byte first stands
first_at : (c : ℕ) (f g u v : List ℕ) → HasNo c f → HasNo c g → f ++ (c ∷ u) ≡ g ++ (c ∷ v) → (f ≡ g) × (u ≡ v)
first_at c [] [] u v h k e = (refl, cc)
first_at c [] (y ∷ g) u v h k e = absurd (k zero (omega arith) (cc))
first_at c (x ∷ f) [] u v h k e = absurd (h zero (omega arith) (cc))
first_at c (x ∷ f) (y ∷ g) u v h k e =
    let heads : x ≡ y = cc in
    let tails : f ++ (c ∷ u) ≡ g ++ (c ∷ v) = cc in
    let rest = first_at c f g u v (λ j l. h (suc j) (omega arith)) (λ j l. k (suc j) (omega arith)) tails in
    (ap₂ (λ z zs. z ∷ zs) heads rest.0, rest.1)

no_signed : (c : ℕ) (z : ℤ) → (IsInRange 48 57 c → ⊥) → 45 ≢ c → mag z < 2 ^ 63 → HasNo c (signed_decimal z)
no_signed c (pos n) ne minus small = no_digits c (decimal n) ne ((decimal_is_IsNumeral n (omega arith)).0.1)
no_signed c (negsuc n) ne minus small = no_append c (45 ∷ []) (decimal (suc n)) (no_one c 45 minus) (no_digits c (decimal (suc n)) ne ((decimal_is_IsNumeral (suc n) (omega arith)).0.1))

int4_small : (z : ℤ) → FitsSigned w32 z → mag z < 2 ^ 63
int4_small z h = omega (arith, h.sfits)

pub no_colon_int4 : (z : ℤ) → FitsSigned w32 z → HasNoColon (signed_decimal z)
no_colon_int4 z h = no_signed 58 z (λ r. omega (arith, r)) (λ e. omega arith) (int4_small z h)

-- explicit bounds, from the lower one on
pub explicit_behind : (lower : ℤ) (count : ℕ) → explicit_bounds lower count ≡ 91 ∷ (signed_decimal lower ++ (58 ∷ (signed_decimal (last_of lower count) ++ codes "]=")))
explicit_behind lower count =
    ap (λ xs. 91 ∷ xs) (append_assoc (signed_decimal lower ++ codes ":") (signed_decimal (last_of lower count)) (codes "]=") ∙ append_assoc (signed_decimal lower) (codes ":") (signed_decimal (last_of lower count) ++ codes "]="))

explicit_one : (l m : ℤ) (count : ℕ) → FitsSigned w32 l → FitsSigned w32 m → explicit_bounds l count ≡ explicit_bounds m count → l ≡ m
explicit_one l m count f g e =
    let same : 91 ∷ (signed_decimal l ++ (58 ∷ (signed_decimal (last_of l count) ++ codes "]="))) ≡ 91 ∷ (signed_decimal m ++ (58 ∷ (signed_decimal (last_of m count) ++ codes "]="))) = sym (explicit_behind l count) ∙ e ∙ explicit_behind m count in
    let tails : signed_decimal l ++ (58 ∷ (signed_decimal (last_of l count) ++ codes "]=")) ≡ signed_decimal m ++ (58 ∷ (signed_decimal (last_of m count) ++ codes "]=")) = cc in
    signed_decimal_injective l m (int4_small l f) (int4_small m g) ((first_at 58 (signed_decimal l) (signed_decimal m) _ _ (no_colon_int4 l f) (no_colon_int4 m g) tails).0)

pub bounds_one : (bytes : List ℕ) (l m : ℤ) (count : ℕ) → FitsSigned w32 l → FitsSigned w32 m → SpellsBounds bytes l count → SpellsBounds bytes m count → l ≡ m
bounds_one bytes l m count f g (inl a) (inl b) = a.1 ∙ sym b.1
bounds_one bytes l m count f g (inl a) (inr b) = let e : [] ≡ 91 ∷ (signed_decimal m ++ (58 ∷ (signed_decimal (last_of m count) ++ codes "]="))) = sym a.0 ∙ b ∙ explicit_behind m count in cc
bounds_one bytes l m count f g (inr a) (inl b) = let e : [] ≡ 91 ∷ (signed_decimal l ++ (58 ∷ (signed_decimal (last_of l count) ++ codes "]="))) = sym b.0 ∙ a ∙ explicit_behind l count in cc
bounds_one bytes l m count f g (inr a) (inr b) = explicit_one l m count f g (sym a ∙ b)

mag_between : (z : ℤ) → z ≤ℤ last_limit → negsuc 2147483648 ≤ℤ z → mag z < 2 ^ 63
mag_between (pos n) h g = let le : n ≤ 2147483646 = omega (arith, ints) in omega arith
mag_between (negsuc n) h g = let le : n ≤ 2147483648 = omega (arith, ints) in omega arith

last_low : (l : ℤ) (count : ℕ) → FitsSigned w32 l → negsuc 2147483648 ≤ℤ last_of l count
last_low (pos n) count f = omega (arith, ints)
last_low (negsuc n) count f = let small : n < 2 ^ 31 = omega (arith, f.sfits) in omega (arith, ints)

last_small : (l : ℤ) (count : ℕ) → FitsSigned w32 l → last_of l count ≤ℤ last_limit → mag (last_of l count) < 2 ^ 63
last_small l count f h = mag_between (last_of l count) h (last_low l count f)

pub no_brace_bounds : (bytes : List ℕ) (l : ℤ) (count : ℕ) → FitsSigned w32 l → last_of l count ≤ℤ last_limit → SpellsBounds bytes l count → HasNoBrace bytes
no_brace_bounds bytes l count f h (inl a) = subst HasNoBrace (sym a.0) (λ k lt e. absurd (omega arith))
no_brace_bounds bytes l count f h (inr b) = subst HasNoBrace (sym b)
    (no_append 123 (codes "[" ++ signed_decimal l ++ codes ":" ++ signed_decimal (last_of l count)) (codes "]=")
    (no_append 123 (codes "[" ++ signed_decimal l ++ codes ":") (signed_decimal (last_of l count))
    (no_append 123 (codes "[" ++ signed_decimal l) (codes ":")
    (no_append 123 (codes "[") (signed_decimal l) (no_one 123 91 (λ e. omega arith)) (no_signed 123 l (λ r. omega (arith, r)) (λ e. omega arith) (int4_small l f)))
    (no_one 123 58 (λ e. omega arith)))
    (no_signed 123 (last_of l count) (λ r. omega (arith, r)) (λ e. omega arith) (last_small l count f h)))
    (no_append 123 (93 ∷ []) (61 ∷ []) (no_one 123 93 (λ e. omega arith)) (no_one 123 61 (λ e. omega arith))))

-- ---- one reading

-- a digit is no letter
digit_no_letter : (c : ℕ) → IsInRange 48 57 c → to_ascii_lowercase c ≡ 117 → ⊥
digit_no_letter c r e = let small : to_ascii_lowercase c ≡ c = cond-true (nat_lt c 65) c _ (lt-ltb c 65 (omega (arith, r))) in omega (arith, r, small)

digit_range : (c : ℕ) (cs : List ℕ) → AllDigits 10 (c ∷ cs) → IsInRange 48 57 c
digit_range c cs h = digit_at (c ∷ cs) 0 h (omega arith)

second_digit : (b c : ℕ) (cs : List ℕ) (minus plus : Bool) → AllDigits 10 (cond minus (c ∷ cs) (drop (cond plus 1 0) (b ∷ c ∷ cs))) → IsInRange 48 57 c
second_digit b c cs true plus h = digit_range c cs h
second_digit b c cs false true h = digit_range c cs h
second_digit b c cs false false h = digit_range c cs h.1

second_is_digit : (b c : ℕ) (cs : List ℕ) → IsNumeral 10 (without_leading_sign (b ∷ c ∷ cs)) → IsInRange 48 57 c
second_is_digit b c cs h = second_digit b c cs (b == 45) (b == 43) h.1

pub word_no_number : (bytes : List ℕ) → map to_ascii_lowercase bytes ≡ codes "null" → IsNumeral 10 (without_leading_sign bytes) → ⊥
word_no_number [] w h = cc
word_no_number (b ∷ []) w h = cc
word_no_number (b ∷ c ∷ cs) w h = let second : to_ascii_lowercase c ≡ 117 = cc in digit_no_letter c (second_is_digit b c cs h) second

element_one : (p : List ℕ) (a b : Option ℤ) → SpellsElement p a → SpellsElement p b → a ≡ b
element_one p None None h k = refl
element_one p None (Some z) h k = absurd (word_no_number p h k.0)
element_one p (Some z) None h k = absurd (word_no_number p k h.0)
element_one p (Some y) (Some z) h k = ap Some (h.2 ∙ sym k.2)

zip_one : (ps : List (List ℕ)) (xs ys : List (Option ℤ)) → AllZip SpellsElement ps xs → AllZip SpellsElement ps ys → xs ≡ ys
zip_one [] [] [] h k = refl
zip_one [] (x ∷ xs) ys h k = absurd h
zip_one [] [] (y ∷ ys) h k = absurd k
zip_one (p ∷ ps) [] ys h k = absurd h
zip_one (p ∷ ps) (x ∷ xs) [] h k = absurd k
zip_one (p ∷ ps) (x ∷ xs) (y ∷ ys) h k = ap₂ (λ z zs. z ∷ zs) (element_one p x y h.0 k.0) (zip_one ps xs ys h.1 k.1)

pub elements_one : (body : List ℕ) (xs ys : List (Option ℤ)) → SpellsElements body xs → SpellsElements body ys → xs ≡ ys
elements_one body xs ys h k = zip_one (slice_split is_comma body) xs ys h k

-- bounds and body of a text
pub braces_one : (text b d u v : List ℕ) → HasNoBrace b → HasNoBrace d → text ≡ b ++ codes "{" ++ u ++ codes "}" → text ≡ d ++ (codes "{" ++ v) → (b ≡ d) × (v ≡ u ++ codes "}")
braces_one text b d u v h k e g =
    let whole : b ++ (123 ∷ (u ++ codes "}")) ≡ d ++ (123 ∷ v) = sym (append_assoc (b ++ codes "{") u (codes "}") ∙ append_assoc b (codes "{") (u ++ codes "}")) ∙ sym e ∙ g in
    let p = first_at 123 b d (u ++ codes "}") v h k whole in
    (p.0, sym p.1)

-- ---- what a reader has found

-- an array that the text spells has these bounds and this body
pub parts_one : (text b behind : List ℕ) (l : ℤ) (es : List (Option ℤ)) → text ≡ b ++ (codes "{" ++ behind) → HasNoBrace b → (s : SpellsBounded text l es) → (s.bounds ≡ b) × (behind ≡ s.body ++ codes "}")
parts_one text b behind l es whole first s =
    braces_one text s.bounds b s.body behind (no_brace_bounds s.bounds l (length es) s.int4 s.last s.bounds_are) first s.whole whole

pub body_elements : (text b behind body : List ℕ) (l : ℤ) (es : List (Option ℤ)) → text ≡ b ++ (codes "{" ++ behind) → HasNoBrace b → behind ≡ body ++ codes "}" → SpellsBounded text l es → SpellsElements body es
body_elements text b behind body l es whole first end s =
    let p = parts_one text b behind l es whole first s in
    subst (λ xs. SpellsElements xs es) ((same_from_push s.body body 125 125 (sym p.1 ∙ end)).0) s.elements_are

pub bounds_found : (text b behind : List ℕ) (l : ℤ) (es : List (Option ℤ)) → text ≡ b ++ (codes "{" ++ behind) → HasNoBrace b → SpellsBounded text l es → SpellsBounds b l (length es)
bounds_found text b behind l es whole first s =
    subst (λ xs. SpellsBounds xs l (length es)) ((parts_one text b behind l es whole first s).0) s.bounds_are

pub too_long : (l : ℤ) (count : ℕ) → 2 ^ 32 ≤ count → FitsSigned w32 l → last_of l count ≤ℤ last_limit → ⊥
too_long (pos n) count many f h = omega (arith, ints)
too_long (negsuc n) count many f h = omega (arith, ints, f.sfits)

pub text_whole : (text b behind body : List ℕ) → text ≡ b ++ (codes "{" ++ behind) → behind ≡ body ++ codes "}" → text ≡ b ++ codes "{" ++ body ++ codes "}"
text_whole text b behind body e f = e ∙ ap (λ xs. b ++ (codes "{" ++ xs)) f ∙ sym (append_assoc (b ++ codes "{") body (codes "}") ∙ append_assoc b (codes "{") (body ++ codes "}"))

-- ---- printed elements are spelled

plain_number : (ds : List ℕ) → 0 < length ds → AllDigits 10 ds → (without_leading_sign ds ≡ ds) × (signed_digits_value 10 ds ≡ pos (digits_value 10 ds))
plain_number ds some h =
    let first : IsInRange 48 57 (get_or ds 0 0) = digit_at ds 0 h some in
    let minus : nat_eq (get_or ds 0 0) 45 ≡ false = ne_eqb _ _ (λ e. omega (arith, first)) in
    let plus : nat_eq (get_or ds 0 0) 43 ≡ false = ne_eqb _ _ (λ e. omega (arith, first)) in
    let bare : without_leading_sign ds ≡ ds = cond-false (nat_eq (get_or ds 0 0) 45) _ _ minus ∙ ap (λ b. drop (cond b 1 0) ds) plus in
    (bare, cond-false (nat_eq (get_or ds 0 0) 45) _ _ minus ∙ ap (λ xs. pos (digits_value 10 xs)) bare)

pub number_spelled : (z : ℤ) → FitsSigned w32 z → SpellsElement (signed_decimal z) (Some z)
number_spelled (pos n) f =
    let d = decimal_is_IsNumeral n (omega (arith, f.sfits)) in
    let p = plain_number (decimal n) d.0.0 d.0.1 in
    (subst (IsNumeral 10) (sym p.0) d.0, f, ap pos (sym d.1) ∙ sym p.1)
number_spelled (negsuc n) f =
    let d = decimal_is_IsNumeral (suc n) (omega (arith, f.sfits)) in
    (d.0, f, ap (λ k. neg_ℤ (pos k)) (sym d.1))

element_spelled : (e : Option ℤ) → IfSome e (FitsSigned w32) → SpellsElement (element_text e) e
element_spelled None f = refl
element_spelled (Some z) f = number_spelled z f

no_comma_text : (e : Option ℤ) → IfSome e (FitsSigned w32) → HasNo 44 (element_text e)
no_comma_text None f = no_append 44 (78 ∷ []) (85 ∷ 76 ∷ 76 ∷ []) (no_one 44 78 (λ e. omega arith)) (no_append 44 (85 ∷ []) (76 ∷ 76 ∷ []) (no_one 44 85 (λ e. omega arith)) (no_append 44 (76 ∷ []) (76 ∷ []) (no_one 44 76 (λ e. omega arith)) (no_one 44 76 (λ e. omega arith))))
no_comma_text (Some z) f = no_signed 44 z (λ r. omega (arith, r)) (λ e. omega arith) (int4_small z f)

not_comma : (bytes : List ℕ) → HasNo 44 bytes → (k : ℕ) → k < length bytes → is_comma (get_or bytes k 0) ≡ false
not_comma bytes h k lt = ne_eqb _ _ (h k lt)

split_printed : (e : Option ℤ) (es : List (Option ℤ)) → AreInt4 (e ∷ es) → slice_split is_comma (joined (e ∷ es)) ≡ map element_text (e ∷ es)
split_printed e [] h = ap (slice_split is_comma) (append-nil (element_text e)) ∙ comma_none (element_text e) (not_comma (element_text e) (no_comma_text e (h 0 None (omega arith))))
split_printed e (f ∷ es) h =
    slice_split_at is_comma (element_text e) 44 (joined (f ∷ es)) (λ k d lt. ap is_comma (get_or_default (element_text e) k d 0 lt) ∙ not_comma (element_text e) (no_comma_text e (h 0 None (omega arith))) k lt) refl
    ∙ ap (λ xs. element_text e ∷ xs) (split_printed f es (tail_are_int4 e (f ∷ es) h))

zip_printed : (es : List (Option ℤ)) → AreInt4 es → AllZip SpellsElement (map element_text es) es
zip_printed [] h = tt
zip_printed (e ∷ es) h = (element_spelled e (h 0 None (omega arith)), zip_printed es (tail_are_int4 e es h))

printed_elements : (es : List (Option ℤ)) → 0 < length es → AreInt4 es → SpellsElements (joined es) es
printed_elements [] some h = absurd (omega arith)
printed_elements (e ∷ es) some h = subst (λ ps. AllZip SpellsElement ps (e ∷ es)) (sym (split_printed e es h)) (zip_printed (e ∷ es) h)

printed_bounds : (lower : ℤ) (count : ℕ) → SpellsBounds (bounds_text lower count) lower count
printed_bounds lower count = elim (cases_Bool (int_eq lower (pos 1))) [
  | inl one ↦ inl (cond-true (int_eq lower (pos 1)) _ _ one, (Decides-int_eq lower (pos 1)).0 one)
  | inr other ↦ inr (cond-false (int_eq lower (pos 1)) _ _ other)
]

-- the printed text of an array spells it
pub printed_spells : (a : Array) → IsArray a → Spells (array_text a) a
printed_spells Empty h = refl
printed_spells (Bounded lower es) h = record {
  bounds = bounds_text lower (length es);
  body = joined es;
  whole = refl;
  bounds_are = printed_bounds lower (length es);
  elements_are = printed_elements es h.some h.numbers;
  int4 = h.int4;
  last = h.last;
}

-- ---- one array for each text

nothing_spelled : (es : List (Option ℤ)) → SpellsElements [] es → ⊥
nothing_spelled [] h = h
nothing_spelled (None ∷ es) h = let word : [] ≡ codes "null" = h.0 in cc
nothing_spelled (Some z ∷ es) h = omega (arith, h.0.0.0)

pub empty_no_bounded : (l : ℤ) (es : List (Option ℤ)) → SpellsBounded (codes "{}") l es → ⊥
empty_no_bounded l es s =
    let p = parts_one (codes "{}") [] (codes "}") l es refl (λ k lt e. absurd (omega arith)) s in
    nothing_spelled es (subst (λ xs. SpellsElements xs es) (sym ((same_from_push [] s.body 125 125 p.1).0)) s.elements_are)

pub bounded_one : (text : List ℕ) (l m : ℤ) (xs ys : List (Option ℤ)) → SpellsBounded text l xs → SpellsBounded text m ys → Bounded l xs ≡ Bounded m ys
bounded_one text l m xs ys s t =
    let whole : text ≡ t.bounds ++ (codes "{" ++ (t.body ++ codes "}")) = t.whole ∙ append_assoc (t.bounds ++ codes "{") t.body (codes "}") ∙ append_assoc t.bounds (codes "{") (t.body ++ codes "}") in
    let free = no_brace_bounds t.bounds m (length ys) t.int4 t.last t.bounds_are in
    let p = parts_one text t.bounds (t.body ++ codes "}") l xs whole free s in
    let same : xs ≡ ys = elements_one t.body xs ys (body_elements text t.bounds (t.body ++ codes "}") t.body l xs whole free refl s) t.elements_are in
    let bounds : SpellsBounds t.bounds l (length ys) = subst (λ zs. SpellsBounds t.bounds l (length zs)) same (bounds_found text t.bounds (t.body ++ codes "}") l xs whole free s) in
    ap₂ Bounded (bounds_one t.bounds l m (length ys) s.int4 t.int4 bounds t.bounds_are) same

pub spells_one : (text : List ℕ) (a b : Array) → Spells text a → Spells text b → a ≡ b
spells_one text Empty Empty h k = refl
spells_one text Empty (Bounded m ys) h k = absurd (empty_no_bounded m ys (subst (λ t. SpellsBounded t m ys) h k))
spells_one text (Bounded l xs) Empty h k = absurd (empty_no_bounded l xs (subst (λ t. SpellsBounded t l xs) k h))
spells_one text (Bounded l xs) (Bounded m ys) h k = bounded_one text l m xs ys h k

-- ---- what is spelled is an array

pub length_all_zip_of : (ps : List (List ℕ)) (es : List (Option ℤ)) → AllZip SpellsElement ps es → length ps ≡ length es
length_all_zip_of [] [] h = refl
length_all_zip_of [] (e ∷ es) h = absurd h
length_all_zip_of (p ∷ ps) [] h = absurd h
length_all_zip_of (p ∷ ps) (e ∷ es) h = ap suc (length_all_zip_of ps es h.1)

some_spelled : (bytes : List ℕ) (es : List (Option ℤ)) → SpellsElements bytes es → 0 < length es
some_spelled bytes es h = omega (arith, length_all_zip_of (slice_split is_comma bytes) es h, length-slice_split is_comma bytes)

int4_spelled : (ps : List (List ℕ)) (es : List (Option ℤ)) → AllZip SpellsElement ps es → AreInt4 es
int4_spelled [] [] h = λ k d lt. absurd (omega arith)
int4_spelled [] (e ∷ es) h = absurd h
int4_spelled (p ∷ ps) [] h = absurd h
int4_spelled (p ∷ ps) (None ∷ es) h = int4_cons None es tt (int4_spelled ps es h.1)
int4_spelled (p ∷ ps) (Some z ∷ es) h = int4_cons (Some z) es h.0.1 (int4_spelled ps es h.1)

pub spelled_bounds : (text : List ℕ) (l : ℤ) (es : List (Option ℤ)) → SpellsBounded text l es → HasBounds l es
spelled_bounds text l es s = record {
  some = some_spelled s.body es s.elements_are;
  int4 = s.int4;
  last = s.last;
  numbers = int4_spelled (slice_split is_comma s.body) es s.elements_are;
}

-- the array of a list of elements that a text spells
pub spelled_array : (text : List ℕ) (l : ℤ) (es : List (Option ℤ)) → SpellsBounded text l es → Spells text (array_of l es) × IsArray (array_of l es)
spelled_array text l [] s = let b = spelled_bounds text l [] s in absurd (omega (arith, b.some))
spelled_array text l (e ∷ es) s = (s, spelled_bounds text l (e ∷ es) s)

-- what the reader answers to printed text
pub reads_again : (text : List ℕ) (a : Array) (r : Result Array Denied) → IsHeld a → text ≡ array_text a → IfOk r (λ b. Spells text b) → IfErr r (IsTextDenial text) → ReadsAgain a r
reads_again text a (Ok b) h e ok err = spells_one text b a ok (subst (λ t. Spells t a) (sym e) (printed_spells a h.array))
reads_again text a (Err NoMemory) h e ok err = tt
reads_again text a (Err (By refusal)) h e ok (inl bad) = bad.1 a (subst (λ t. Spells t a) (sym e) (printed_spells a h.array))
reads_again text a (Err (By refusal)) h e ok (inr big) =
    let same : big.array ≡ a = spells_one text big.array a big.spelled (subst (λ t. Spells t a) (sym e) (printed_spells a h.array)) in
    let size : size_of big.array ≡ size_of a = ap size_of same in
    omega (arith, big.many, h.few)
