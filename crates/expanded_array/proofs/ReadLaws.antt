-- What is computed of a text is what it spells.
use Rattle.std.proofs.Common.{◌≡◌, ◌-◌, ◌≤◌, ℕ, ℤ, pos, negsuc, List, [], ◌∷◌, length, map, true, ◌&&◌, Option, Some, None, refl, ap, sym, subst, ◌∙◌, arith, inl, inr, nat_lt}
use Rattle.std.specs.Prelude.{IfSome, IfNone, FitsSigned, bytes_eq, codes, int_le, is_some, option_map, ◌≤ℤ◌}
use Rattle.std.specs.Char.{to_ascii_lowercase, digit_value}
use Rattle.std.specs.Int.{w32}
use Rattle.std.specs.List.{AllZip, list_all}
use Rattle.std.specs.Str.Parse.{AllDigits, IsNumeral, signed_digits_value, without_leading_sign}
use Rattle.std.proofs.lemmas.Bool.{and_from, and_parts, cases_Bool, cond-true, cond-false, ltb-true, lt-ltb}
use Rattle.std.proofs.lemmas.Int.{ints}
use Rattle.std.proofs.lemmas.Option.{same_Some}
use Rattle.std.proofs.lemmas.Slice.Eq.{bytes_eq-Decides}
use Rattle.expanded_array.specs.Spelling.{SpellsElement}
use Rattle.expanded_array.proofs.FlatLaws.{le_tells, tells_le}
use Rattle.expanded_array.proofs.Uniqueness.{word_no_number}
use Rattle.expanded_array.specs.Read.{element_of, is_element, is_int4, is_numeral, number_of}

-- ---- numbers

digits_true : (ds : List ℕ) → AllDigits 10 ds → list_all (λ c. nat_lt (digit_value c) 10) ds ≡ true
digits_true [] h = refl
digits_true (c ∷ cs) h = and_from (nat_lt (digit_value c) 10) (list_all (λ c. nat_lt (digit_value c) 10) cs) (lt-ltb (digit_value c) 10 h.0) (digits_true cs h.1)

true_digits : (ds : List ℕ) → list_all (λ c. nat_lt (digit_value c) 10) ds ≡ true → AllDigits 10 ds
true_digits [] e = tt
true_digits (c ∷ cs) e =
    let both = and_parts (nat_lt (digit_value c) 10) (list_all (λ c. nat_lt (digit_value c) 10) cs) e in
    (ltb-true (digit_value c) 10 both.0, true_digits cs both.1)

numeral_true : (ds : List ℕ) → IsNumeral 10 ds → is_numeral ds ≡ true
numeral_true ds h = and_from (nat_lt 0 (length ds)) (list_all (λ c. nat_lt (digit_value c) 10) ds) (lt-ltb 0 (length ds) h.0) (digits_true ds h.1)

true_numeral : (ds : List ℕ) → is_numeral ds ≡ true → IsNumeral 10 ds
true_numeral ds e =
    let both = and_parts (nat_lt 0 (length ds)) (list_all (λ c. nat_lt (digit_value c) 10) ds) e in
    (ltb-true 0 (length ds) both.0, true_digits ds both.1)

int4_low : (z : ℤ) → FitsSigned w32 z → negsuc 2147483647 ≤ℤ z
int4_low (pos n) h = omega (arith, ints)
int4_low (negsuc n) h = omega (arith, ints, h.sfits)

int4_high : (z : ℤ) → FitsSigned w32 z → z ≤ℤ pos 2147483647
int4_high (pos n) h = omega (arith, ints, h.sfits)
int4_high (negsuc n) h = omega (arith, ints)

int4_true : (z : ℤ) → FitsSigned w32 z → is_int4 z ≡ true
int4_true z h = and_from (int_le (negsuc 2147483647) z) (int_le z (pos 2147483647)) (le_tells (negsuc 2147483647) z (int4_low z h)) (le_tells z (pos 2147483647) (int4_high z h))

true_int4 : (z : ℤ) → is_int4 z ≡ true → FitsSigned w32 z
true_int4 (pos n) e =
    let both = and_parts (int_le (negsuc 2147483647) (pos n)) (int_le (pos n) (pos 2147483647)) e in
    let high : pos n ≤ℤ pos 2147483647 = tells_le (pos n) (pos 2147483647) both.1 in
    record { sfits = omega (arith, ints) }
true_int4 (negsuc n) e =
    let both = and_parts (int_le (negsuc 2147483647) (negsuc n)) (int_le (negsuc n) (pos 2147483647)) e in
    let low : negsuc 2147483647 ≤ℤ negsuc n = tells_le (negsuc 2147483647) (negsuc n) both.0 in
    record { sfits = omega (arith, ints) }

pub number_read : (bytes : List ℕ) (z : ℤ) → IsNumeral 10 (without_leading_sign bytes) → FitsSigned w32 z → z ≡ signed_digits_value 10 bytes → number_of bytes ≡ Some z
number_read bytes z numeral fits value =
    cond-true (is_numeral (without_leading_sign bytes) && is_int4 (signed_digits_value 10 bytes)) _ None
    (and_from (is_numeral (without_leading_sign bytes)) (is_int4 (signed_digits_value 10 bytes)) (numeral_true (without_leading_sign bytes) numeral) (int4_true (signed_digits_value 10 bytes) (subst (FitsSigned w32) value fits)))
    ∙ ap (λ y. Some y) (sym value)

pub record IsNumber (bytes : List ℕ) (z : ℤ) : Type 0 where
  pub numeral : IsNumeral 10 (without_leading_sign bytes)
  pub fits : FitsSigned w32 z
  pub value : z ≡ signed_digits_value 10 bytes

pub read_number : (bytes : List ℕ) (z : ℤ) → number_of bytes ≡ Some z → IsNumber bytes z
read_number bytes z e =
    elim (cases_Bool (is_numeral (without_leading_sign bytes) && is_int4 (signed_digits_value 10 bytes))) [
      | inl holds ↦
          let both = and_parts (is_numeral (without_leading_sign bytes)) (is_int4 (signed_digits_value 10 bytes)) holds in
          let same : signed_digits_value 10 bytes ≡ z = same_Some (signed_digits_value 10 bytes) z (sym (cond-true (is_numeral (without_leading_sign bytes) && is_int4 (signed_digits_value 10 bytes)) (Some (signed_digits_value 10 bytes)) None holds) ∙ e) in
          record { numeral = true_numeral (without_leading_sign bytes) both.0; fits = subst (FitsSigned w32) same (true_int4 (signed_digits_value 10 bytes) both.1); value = sym same }
      | inr misses ↦ absurd (let none : None ≡ Some z = sym (cond-false (is_numeral (without_leading_sign bytes) && is_int4 (signed_digits_value 10 bytes)) (Some (signed_digits_value 10 bytes)) None misses) ∙ e in cc)
    ]

-- ---- elements

pub element_read : (bytes : List ℕ) (e : Option ℤ) → SpellsElement bytes e → element_of bytes ≡ Some e
element_read bytes None h = cond-true (bytes_eq (map to_ascii_lowercase bytes) (codes "null")) (Some None) _ ((bytes_eq-Decides (map to_ascii_lowercase bytes) (codes "null")).1 h)
element_read bytes (Some z) h =
    elim (cases_Bool (bytes_eq (map to_ascii_lowercase bytes) (codes "null"))) [
      | inl word ↦ absurd (word_no_number bytes ((bytes_eq-Decides (map to_ascii_lowercase bytes) (codes "null")).0 word) h.0)
      | inr other ↦ cond-false (bytes_eq (map to_ascii_lowercase bytes) (codes "null")) (Some None) _ other ∙ ap (option_map (λ y. Some y)) (number_read bytes z h.0 h.1 h.2)
    ]

number_shown : (bytes : List ℕ) (n : Option ℤ) (e : Option ℤ) → number_of bytes ≡ n → option_map (λ y. Some y) n ≡ Some e → SpellsElement bytes e
number_shown bytes None e is shown = absurd (let none : None ≡ Some e = shown in cc)
number_shown bytes (Some z) e is shown =
    let same : Some z ≡ e = same_Some (Some z) e shown in
    let n = read_number bytes z is in
    subst (SpellsElement bytes) same (n.numeral, n.fits, n.value)

pub read_element : (bytes : List ℕ) (e : Option ℤ) → element_of bytes ≡ Some e → SpellsElement bytes e
read_element bytes e is =
    elim (cases_Bool (bytes_eq (map to_ascii_lowercase bytes) (codes "null"))) [
      | inl word ↦
          let same : None ≡ e = same_Some None e (sym (cond-true (bytes_eq (map to_ascii_lowercase bytes) (codes "null")) (Some None) _ word) ∙ is) in
          subst (SpellsElement bytes) same ((bytes_eq-Decides (map to_ascii_lowercase bytes) (codes "null")).0 word)
      | inr other ↦ number_shown bytes (number_of bytes) e refl (sym (cond-false (bytes_eq (map to_ascii_lowercase bytes) (codes "null")) (Some None) _ other) ∙ is)
    ]

none_read : (bytes : List ℕ) (o : Option (Option ℤ)) → element_of bytes ≡ o → ((e : Option ℤ) → SpellsElement bytes e → ⊥) → None ≡ o
none_read bytes None is none = refl
none_read bytes (Some e) is none = absurd (none e (read_element bytes e is))

-- what a reader found in a part is what is computed of it
pub element_told : (bytes : List ℕ) (r : Option (Option ℤ)) → IfSome r (λ e. SpellsElement bytes e) → IfNone r ((e : Option ℤ) → SpellsElement bytes e → ⊥) → r ≡ element_of bytes
element_told bytes None some none = none_read bytes (element_of bytes) refl none
element_told bytes (Some e) some none = sym (element_read bytes e some)

-- ---- elements between commas

pub record HasElements (parts : List (List ℕ)) : Type 0 where
  pub elements : List (Option ℤ)
  pub are : AllZip SpellsElement parts elements

part_first : (part : List ℕ) (parts : List (List ℕ)) (o : Option (Option ℤ)) → element_of part ≡ o → is_some o ≡ true → HasElements parts → HasElements (part ∷ parts)
part_first part parts None is some others = absurd cc
part_first part parts (Some e) is some others = record { elements = e ∷ others.elements; are = (read_element part e is, others.are) }

pub all_elements : (parts : List (List ℕ)) → list_all is_element parts ≡ true → HasElements parts
all_elements [] e = record { elements = []; are = tt }
all_elements (part ∷ parts) e =
    let both = and_parts (is_element part) (list_all is_element parts) e in
    part_first part parts (element_of part) refl both.0 (all_elements parts both.1)

pub zip_all : (parts : List (List ℕ)) (es : List (Option ℤ)) → AllZip SpellsElement parts es → list_all is_element parts ≡ true
zip_all [] es h = refl
zip_all (part ∷ parts) [] h = absurd h
zip_all (part ∷ parts) (e ∷ es) h = and_from (is_element part) (list_all is_element parts) (ap is_some (element_read part e h.0)) (zip_all parts es h.1)
