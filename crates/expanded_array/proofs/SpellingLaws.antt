-- Elements read one by one.
use Rattle.std.proofs.Common.{◌≡◌, ◌+◌, ◌-◌, ◌<◌, ℕ, zero, suc, ℤ, List, [], ◌∷◌, ◌++◌, length, take, drop, get_or, Bool, true, false, Option, Some, None, refl, ap, sym, subst, ◌∙◌, arith, add-one}
use Rattle.std.specs.Prelude.{◌==◌, map, codes, cond, IsAscii}
use Rattle.std.specs.Char.{to_ascii_lowercase}
use Rattle.std.specs.Str.{IsUtf8}
use Rattle.std.specs.Str.Parse.{IsNumeral, AllDigits, without_leading_sign}
use Rattle.std.proofs.lemmas.Bool.{eqb-true}
use Rattle.std.proofs.lemmas.Fmt.{IsAscii-from_digits}
use Rattle.std.proofs.lemmas.Str.{IsUtf8-from_ascii}
use Rattle.std.proofs.lemmas.Str.Ascii.{IsAscii-cons, IsAscii-nil}
use Rattle.std.specs.List.{AllZip, slice_split, onto_first}
use Rattle.std.proofs.lemmas.List.{append_assoc, take_rest}
use Rattle.std.proofs.lemmas.List.Splits.{slice_split-cons_yes, slice_split-cons_no}
use Rattle.expanded_array.specs.Spelling.{SpellsElement, SpellsElements, HasRead, is_comma}

pub zip_push : (ps : List (List ℕ)) (es : List (Option ℤ)) (p : List ℕ) (e : Option ℤ) → AllZip SpellsElement ps es → SpellsElement p e → AllZip SpellsElement (ps ++ p ∷ []) (es ++ e ∷ [])
zip_push [] [] p e h s = (s, tt)
zip_push [] (x ∷ es) p e h s = absurd h
zip_push (q ∷ ps) [] p e h s = absurd h
zip_push (q ∷ ps) (x ∷ es) p e h s = (h.0, zip_push ps es p e h.1 s)

-- a part that spells no element
pub zip_bad : (ps : List (List ℕ)) (p : List ℕ) (more : List (List ℕ)) (es : List (Option ℤ)) → ((e : Option ℤ) → SpellsElement p e → ⊥) → AllZip SpellsElement (ps ++ p ∷ more) es → ⊥
zip_bad [] p more [] bad h = h
zip_bad [] p more (e ∷ es) bad h = bad e h.0
zip_bad (q ∷ ps) p more [] bad h = h
zip_bad (q ∷ ps) p more (e ∷ es) bad h = zip_bad ps p more es bad h.1

pub read_none : (whole : List ℕ) → HasRead whole whole []
read_none whole = record { front = []; split = refl; each = tt }

pub read_more : (whole rest piece more : List ℕ) (es : List (Option ℤ)) (e : Option ℤ) → HasRead whole rest es → slice_split is_comma rest ≡ piece ∷ slice_split is_comma more → SpellsElement piece e → HasRead whole more (es ++ e ∷ [])
read_more whole rest piece more es e r s h = record {
  front = r.front ++ piece ∷ [];
  split = r.split ∙ ap (λ xs. r.front ++ xs) s ∙ sym (append_assoc r.front (piece ∷ []) (slice_split is_comma more));
  each = zip_push r.front es piece e r.each h;
}

pub read_last : (whole rest piece : List ℕ) (es : List (Option ℤ)) (e : Option ℤ) → HasRead whole rest es → slice_split is_comma rest ≡ piece ∷ [] → SpellsElement piece e → SpellsElements whole (es ++ e ∷ [])
read_last whole rest piece es e r s h = subst (λ ps. AllZip SpellsElement ps (es ++ e ∷ [])) (sym (r.split ∙ ap (λ xs. r.front ++ xs) s)) (zip_push r.front es piece e r.each h)

pub read_bad : (whole rest piece : List ℕ) (parts : List (List ℕ)) (es : List (Option ℤ)) → HasRead whole rest es → slice_split is_comma rest ≡ piece ∷ parts → ((e : Option ℤ) → SpellsElement piece e → ⊥) → (fs : List (Option ℤ)) → SpellsElements whole fs → ⊥
read_bad whole rest piece parts es r s bad fs h = zip_bad r.front piece parts fs bad (subst (λ ps. AllZip SpellsElement ps fs) (r.split ∙ ap (λ xs. r.front ++ xs) s) h)

-- ---- cut at a comma

comma_first : (xs : List ℕ) (i : ℕ) → i < length xs → ((k : ℕ) → k < i → is_comma (get_or xs k 0) ≡ false) → is_comma (get_or xs i 0) ≡ true → slice_split is_comma xs ≡ take i xs ∷ slice_split is_comma (drop (suc i) xs)
comma_first [] i lt before here = absurd (omega arith)
comma_first (x ∷ xs) zero lt before here = slice_split-cons_yes is_comma x xs here
comma_first (x ∷ xs) (suc i) lt before here =
    slice_split-cons_no is_comma x xs (before 0 (omega arith))
    ∙ ap (onto_first x) (comma_first xs i (omega arith) (λ k h. before (suc k) (omega arith)) here)

pub comma_at : (xs : List ℕ) (i : ℕ) → i < length xs → ((k : ℕ) → k < i → is_comma (get_or xs k 0) ≡ false) → is_comma (get_or xs i 0) ≡ true → slice_split is_comma xs ≡ take i xs ∷ slice_split is_comma (take (length xs - (i + 1)) (drop (i + 1) xs))
comma_at xs i lt before here =
    comma_first xs i lt before here
    ∙ ap (λ ys. take i xs ∷ slice_split is_comma ys) (ap (λ k. drop k xs) (sym (add-one i)) ∙ sym (take_rest xs (i + 1)))

pub comma_none : (xs : List ℕ) → ((k : ℕ) → k < length xs → is_comma (get_or xs k 0) ≡ false) → slice_split is_comma xs ≡ xs ∷ []
comma_none [] none = refl
comma_none (x ∷ xs) none = slice_split-cons_no is_comma x xs (none 0 (omega arith)) ∙ ap (onto_first x) (comma_none xs (λ k h. none (suc k) (omega arith)))

-- ---- numbers are ASCII

signed_is_ascii : (b : ℕ) (cs : List ℕ) (minus plus : Bool) → minus ≡ (b == 45) → plus ≡ (b == 43) → AllDigits 10 (cond minus cs (drop (cond plus 1 0) (b ∷ cs))) → IsAscii (b ∷ cs)
signed_is_ascii b cs true plus m p h = let e : b ≡ 45 = eqb-true b 45 (sym m) in IsAscii-cons b cs (omega arith) (IsAscii-from_digits cs h)
signed_is_ascii b cs false true m p h = let e : b ≡ 43 = eqb-true b 43 (sym p) in IsAscii-cons b cs (omega arith) (IsAscii-from_digits cs h)
signed_is_ascii b cs false false m p h = IsAscii-from_digits (b ∷ cs) h

pub numeral_is_ascii : (bs : List ℕ) → IsNumeral 10 (without_leading_sign bs) → IsAscii bs
numeral_is_ascii [] h = IsAscii-nil
numeral_is_ascii (b ∷ cs) h = signed_is_ascii b cs (b == 45) (b == 43) refl refl h.1

pub unreadable : (bs : List ℕ) → (map to_ascii_lowercase bs ≡ codes "null" → ⊥) → (IsUtf8 bs → ⊥) → (e : Option ℤ) → SpellsElement bs e → ⊥
unreadable bs word text None h = word h
unreadable bs word text (Some z) h = text (IsUtf8-from_ascii bs (numeral_is_ascii bs h.0))
