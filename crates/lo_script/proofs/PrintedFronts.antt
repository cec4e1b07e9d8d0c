-- Fronts of a printed text, and digits that are printed piece by piece.
use Rattle.std.proofs.Common.{◌≡◌, ℕ, ◌+◌, ◌<◌, List, [], ◌∷◌, ◌++◌, length, get_or, take, drop, refl, sym, ap, subst, ◌∙◌, append_assoc, append-nil}
use Rattle.std.proofs.lemmas.List.{take-append-drop, drop_more}
use Rattle.hex.specs.Hex.{encode_with, encode_lower, lower_digits}
use Rattle.lo_base.specs.Appended.{AddsFront}
use Rattle.lo_base.proofs.Fronts.{front_appended}
use Rattle.lo_script.specs.ReplyText.{after_space, spaced}

pub encode_with-append : (t xs ys : List ℕ) → encode_with t (xs ++ ys) ≡ encode_with t xs ++ encode_with t ys
unfolding encode_with
encode_with-append t [] ys = refl
encode_with-append t (x ∷ xs) ys = rw (encode_with-append t xs ys) refl

-- the digits of some first bytes are printed, and the bytes of `rest` are left
pub record Printed (old now bytes rest : List ℕ) : Type 0 where
  pub front : List ℕ
  pub whole : bytes ≡ front ++ rest
  pub is : now ≡ old ++ encode_lower front

pub nothing_printed : (old bytes : List ℕ) → Printed old old bytes bytes
unfolding encode_with
nothing_printed old bytes = record { front = []; whole = refl; is = sym (append-nil old) }

pub piece_printed : (old now new bytes rest piece after : List ℕ) → Printed old now bytes rest → rest ≡ piece ++ after → new ≡ now ++ encode_lower piece → Printed old new bytes after
piece_printed old now new bytes rest piece after h cut e = record {
  front = h.front ++ piece;
  whole = h.whole ∙ ap (λ (r : List ℕ). h.front ++ r) cut ∙ sym (append_assoc h.front piece after);
  is = e ∙ ap (λ (r : List ℕ). r ++ encode_lower piece) h.is ∙ append_assoc old (encode_lower h.front) (encode_lower piece) ∙ ap (λ (r : List ℕ). old ++ r) (sym (encode_with-append lower_digits h.front piece));
}

pub front_printed : (old now bytes rest : List ℕ) → Printed old now bytes rest → AddsFront old now (encode_lower bytes)
front_printed old now bytes rest h = front_appended old now (encode_lower h.front) (encode_lower rest) (encode_lower bytes) h.is (rw h.whole (encode_with-append lower_digits h.front rest))

-- after a text was appended, a front of the next is a front of both
pub front_after : (old between now text next more whole : List ℕ) → AddsFront between now next → between ≡ old ++ text → whole ≡ text ++ next ++ more → AddsFront old now whole
front_after old between now text next more whole h e w =
    front_appended old now (text ++ take h.count next) (drop h.count next ++ more) whole
    (h.front ∙ ap (λ (r : List ℕ). r ++ take h.count next) e ∙ append_assoc old text (take h.count next))
    (w ∙ ap (λ (r : List ℕ). text ++ r ++ more) (sym (take-append-drop h.count next)) ∙ ap (λ (r : List ℕ). r ++ more) (sym (append_assoc text (take h.count next) (drop h.count next))) ∙ append_assoc (text ++ take h.count next) (drop h.count next) more)

pub front_at_end : (old between now text next whole : List ℕ) → AddsFront between now next → between ≡ old ++ text → whole ≡ text ++ next → AddsFront old now whole
front_at_end old between now text next whole h e w = front_after old between now text next [] whole h e (w ∙ sym (append-nil (text ++ next)))

pub two_appended : (old first both s t : List ℕ) → first ≡ old ++ s → both ≡ first ++ t → both ≡ old ++ (s ++ t)
two_appended old first both s t a b = b ∙ ap (λ (r : List ℕ). r ++ t) a ∙ append_assoc old s t

-- a front of `whole` was appended, and `rest` is left of it
pub record Leaves (old now whole rest : List ℕ) : Type 0 where
  pub front : List ℕ
  pub is : now ≡ old ++ front
  pub split : whole ≡ front ++ rest

pub all_left : (old whole : List ℕ) → Leaves old old whole whole
all_left old whole = record { front = []; is = sym (append-nil old); split = refl }

pub less_left : (old now new whole piece rest : List ℕ) → Leaves old now whole (piece ++ rest) → new ≡ now ++ piece → Leaves old new whole rest
less_left old now new whole piece rest h e = record {
  front = h.front ++ piece;
  is = e ∙ ap (λ (r : List ℕ). r ++ piece) h.is ∙ append_assoc old h.front piece;
  split = h.split ∙ sym (append_assoc h.front piece rest);
}

pub stopped_in : (old now new whole piece rest : List ℕ) → Leaves old now whole (piece ++ rest) → AddsFront now new piece → AddsFront old new whole
stopped_in old now new whole piece rest h front = front_after old now new h.front piece rest whole front h.is (h.split ∙ sym (append_assoc h.front piece rest))

pub none_left : (old now whole : List ℕ) → Leaves old now whole [] → now ≡ old ++ whole
none_left old now whole h = h.is ∙ ap (λ (r : List ℕ). old ++ r) (sym (append-nil h.front) ∙ sym h.split)

-- where the text of the value at an index was not appended whole
pub stopped_at : {A : Type 0} (text : A → List ℕ) (xs : List A) (i : ℕ) (x d : A) (old now new : List ℕ)
    → i < length xs → x ≡ get_or xs i d → Leaves old now (spaced text xs) (spaced text (drop i xs)) → AddsFront now new (after_space (text x))
    → AddsFront old new (spaced text xs)
stopped_at text xs i x d old now new within is h front =
    let here : drop i xs ≡ x ∷ drop (i + 1) xs = drop_more xs i d within ∙ ap (λ y. y ∷ drop (i + 1) xs) (sym is) in
    stopped_in old now new (spaced text xs) (after_space (text x)) (spaced text (drop (i + 1) xs))
    (subst (λ ys. Leaves old now (spaced text xs) (spaced text ys)) here h) front
