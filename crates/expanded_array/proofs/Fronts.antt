-- Text written piece by piece.
use Rattle.std.proofs.Common.{◌≡◌, ◌+◌, ◌<◌, ◌≤◌, ℕ, zero, suc, ℤ, List, [], ◌∷◌, ◌++◌, length, min, take, drop, get_or, Option, None, refl, ap, ap₂, sym, ◌∙◌, arith, add-one}
use Rattle.std.proofs.lemmas.List.{append_assoc, append-nil, take-append-le, take_at, drop_more, drop_all, take_min}
use Rattle.std.specs.Prelude.{pos}
use Rattle.std.specs.Ordering.{int_eq}
use Rattle.std.proofs.lemmas.Bool.{cond-false, false_from_ne_true}
use Rattle.std.proofs.lemmas.Bool.Decides.{Decides-int_eq}
use Rattle.lo_base.specs.Appended.{AddsFront}
use Rattle.expanded_array.specs.Text.{IsAhead, bounds_text, explicit_bounds, joined, with_commas, left_text, next_text}

pub ahead_start : (old whole : List ℕ) → IsAhead old old whole whole
ahead_start old whole = record { front = []; written = sym (append-nil old); behind = refl }

pub ahead_more : (old now next piece left whole : List ℕ) → IsAhead old now (piece ++ left) whole → next ≡ now ++ piece → IsAhead old next left whole
ahead_more old now next piece left whole a e = record {
  front = a.front ++ piece;
  written = e ∙ ap (λ xs. xs ++ piece) a.written ∙ append_assoc old a.front piece;
  behind = append_assoc a.front piece left ∙ a.behind;
}

pub ahead_done : (old now whole : List ℕ) → IsAhead old now [] whole → now ≡ old ++ whole
ahead_done old now whole a = a.written ∙ ap (λ xs. old ++ xs) (sym (append-nil a.front) ∙ a.behind)

take_front : (front piece : List ℕ) (n : ℕ) → take (length front + n) (front ++ piece) ≡ front ++ take n piece
take_front [] piece n = ap (λ k. take k piece) (omega arith)
take_front (x ∷ front) piece n =
    let e : length (x ∷ front) + n ≡ suc (length front + n) = omega arith in
    ap (λ k. take k (x ∷ front ++ piece)) e ∙ ap (λ xs. x ∷ xs) (take_front front piece n)

take_whole : (piece left : List ℕ) (n : ℕ) → take (min n (length piece)) (piece ++ left) ≡ take n piece
take_whole piece left n = take-append-le (min n (length piece)) piece left (omega arith) ∙ take_min n piece

pub ahead_fail : (old now new piece left whole : List ℕ) → IsAhead old now (piece ++ left) whole → AddsFront now new piece → AddsFront old new whole
ahead_fail old now new piece left whole a f = record {
  count = length a.front + min f.count (length piece);
  front = f.front ∙ ap (λ xs. xs ++ take f.count piece) a.written ∙ append_assoc old a.front (take f.count piece)
      ∙ ap (λ xs. old ++ xs) (ap (λ xs. a.front ++ xs) (sym (take_whole piece left f.count)) ∙ sym (take_front a.front (piece ++ left) (min f.count (length piece)))
      ∙ ap (λ xs. take (length a.front + min f.count (length piece)) xs) a.behind);
}

-- where nothing more was written
pub ahead_stop : (old now left whole : List ℕ) → IsAhead old now left whole → AddsFront old now whole
ahead_stop old now left whole a = record {
  count = length a.front;
  front = a.written ∙ ap (λ xs. old ++ xs) (sym (take_at a.front left (length a.front) refl) ∙ ap (take (length a.front)) a.behind);
}

left_cons : (k : ℕ) (e : Option ℤ) (es : List (Option ℤ)) → left_text k (e ∷ es) ≡ next_text k e ++ left_text (suc k) es
left_cons zero e es = refl
left_cons (suc k) e es = refl

-- one element more is written
pub left_more : (es : List (Option ℤ)) (k : ℕ) (e : Option ℤ) → k < length es → e ≡ get_or es k None → left_text k (drop k es) ≡ next_text k e ++ left_text (k + 1) (drop (k + 1) es)
left_more es k e lt is =
    ap (left_text k) (drop_more es k None lt) ∙ left_cons k (get_or es k None) (drop (k + 1) es)
    ∙ ap₂ (λ x n. next_text k x ++ left_text n (drop (k + 1) es)) (sym is) (sym (add-one k))

pub left_none : (es : List (Option ℤ)) (k : ℕ) → length es ≤ k → left_text k (drop k es) ≡ []
left_none es zero le = ap joined (drop_all zero es le)
left_none es (suc k) le = ap with_commas (drop_all (suc k) es le)

-- ---- texts of several pieces

pub join2 : (old o₁ o₂ a b : List ℕ) → o₁ ≡ old ++ a → o₂ ≡ o₁ ++ b → o₂ ≡ old ++ (a ++ b)
join2 old o₁ o₂ a b e₁ e₂ = e₂ ∙ ap (λ xs. xs ++ b) e₁ ∙ append_assoc old a b

pub front_of : (old new front rest whole : List ℕ) → new ≡ old ++ front → front ++ rest ≡ whole → AddsFront old new whole
front_of old new front rest whole e b = ahead_stop old new rest whole (record { front = front; written = e; behind = b })

-- a piece failed behind a front
pub front_then : (old now new front piece rest whole : List ℕ) → now ≡ old ++ front → AddsFront now new piece → (front ++ piece) ++ rest ≡ whole → AddsFront old new whole
front_then old now new front piece rest whole e f b =
    ahead_fail old now new piece rest whole (record { front = front; written = e; behind = sym (append_assoc front piece rest) ∙ b }) f

pub bounds_whole : (lower : ℤ) (count : ℕ) → (lower ≡ pos 1 → ⊥) → bounds_text lower count ≡ explicit_bounds lower count
bounds_whole lower count ne = cond-false (int_eq lower (pos 1)) _ _ (false_from_ne_true _ (λ e. ne ((Decides-int_eq lower (pos 1)).0 e)))
