-- Bytes at a size, and bytes laid over others, part by part.
use Rattle.std.proofs.Common.{◌≡◌, ℕ, ◌+◌, ◌-◌, ◌*◌, ◌<◌, ◌≤◌, inl, inr, List, ◌++◌, length, take, drop, replicate, ap, sym, ◌∙◌, arith, length-append, length-drop}
use Rattle.std.specs.Prelude.{max, min}
use Rattle.std.proofs.lemmas.Bool.{cases_lt}
use Rattle.std.proofs.lemmas.List.{get_or_append_left, get_or_past, get_or-take, get_or-drop, get_or-replicate, length-replicate, length-take}
use Rattle.std.proofs.Math.Seq.{get_or-append_right}
use Rattle.lo_model.specs.Object.{at_size, laid_over}
use Rattle.lo_pages.specs.Object.{byte_at}
use Rattle.lo_pages.specs.Content.{piece_of}

pub at_left : (xs ys : List ℕ) (i : ℕ) → i < length xs → byte_at (xs ++ ys) i ≡ byte_at xs i
at_left xs ys i less = get_or_append_left xs ys 0 i less

pub at_right : (xs ys : List ℕ) (i : ℕ) → length xs ≤ i → byte_at (xs ++ ys) i ≡ byte_at ys (i - length xs)
at_right xs ys i most = get_or-append_right xs ys i 0 most

pub at_past : (xs : List ℕ) (i : ℕ) → length xs ≤ i → byte_at xs i ≡ 0
at_past xs i past = get_or_past xs i 0 past

pub at_take : (n : ℕ) (xs : List ℕ) (i : ℕ) → i < n → byte_at (take n xs) i ≡ byte_at xs i
at_take n xs i less = get_or-take n xs i 0 less

pub at_drop : (n : ℕ) (xs : List ℕ) (i : ℕ) → byte_at (drop n xs) i ≡ byte_at xs (n + i)
at_drop n xs i = get_or-drop n xs i 0

pub at_zeros : (n i : ℕ) → byte_at (replicate n 0) i ≡ 0
at_zeros n i = elim (cases_lt i n) [
  | inl less ↦ get_or-replicate n i 0 0 less
  | inr past ↦ at_past (replicate n 0) i (omega (arith, past, length-replicate {A = ℕ} n 0))
]

pub size_size : (n : ℕ) (xs : List ℕ) → length (at_size n xs) ≡ n
size_size n xs = omega (arith, length-append (take n xs) (replicate (n - length xs) 0), length-take n xs, length-replicate {A = ℕ} (n - length xs) 0)

pub size_in : (n : ℕ) (xs : List ℕ) (i : ℕ) → i < n → byte_at (at_size n xs) i ≡ byte_at xs i
size_in n xs i less = elim (cases_lt i (length xs)) [
  | inl within ↦ at_left (take n xs) (replicate (n - length xs) 0) i (omega (arith, length-take n xs, less, within)) ∙ at_take n xs i less
  | inr past ↦ at_right (take n xs) (replicate (n - length xs) 0) i (omega (arith, length-take n xs, past)) ∙ (at_zeros (n - length xs) (i - length (take n xs)) ∙ sym (at_past xs i past))
]

pub size_out : (n : ℕ) (xs : List ℕ) (i : ℕ) → n ≤ i → byte_at (at_size n xs) i ≡ 0
size_out n xs i past = at_past (at_size n xs) i (omega (arith, size_size n xs, past))

pub length_laid : (at : ℕ) (new xs : List ℕ) → length (laid_over at new xs) ≡ max (length xs) (at + length new)
length_laid at new xs =
    omega (arith, length-append (at_size at xs ++ new) (drop (at + length new) xs), length-append (at_size at xs) new, size_size at xs, length-drop {A = ℕ} (at + length new) xs)

pub laid_before : (at : ℕ) (new xs : List ℕ) (i : ℕ) → i < at → byte_at (laid_over at new xs) i ≡ byte_at xs i
laid_before at new xs i less =
    at_left (at_size at xs ++ new) (drop (at + length new) xs) i (omega (arith, length-append (at_size at xs) new, size_size at xs, less))
    ∙ (at_left (at_size at xs) new i (omega (arith, size_size at xs, less))
    ∙ size_in at xs i less)

pub laid_in : (at : ℕ) (new xs : List ℕ) (i : ℕ) → at ≤ i → i < at + length new → byte_at (laid_over at new xs) i ≡ byte_at new (i - at)
laid_in at new xs i low high =
    at_left (at_size at xs ++ new) (drop (at + length new) xs) i (omega (arith, length-append (at_size at xs) new, size_size at xs, high))
    ∙ (at_right (at_size at xs) new i (omega (arith, size_size at xs, low))
    ∙ ap (λ (n : ℕ). byte_at new (i - n)) (size_size at xs))

pub laid_after : (at : ℕ) (new xs : List ℕ) (i : ℕ) → at + length new ≤ i → byte_at (laid_over at new xs) i ≡ byte_at xs i
laid_after at new xs i past =
    let front : length (at_size at xs ++ new) ≡ at + length new = omega (arith, length-append (at_size at xs) new, size_size at xs) in
    let part : (at + length new) + (i - length (at_size at xs ++ new)) ≡ i = omega (arith, front, past) in
    at_right (at_size at xs ++ new) (drop (at + length new) xs) i (omega (arith, front, past))
    ∙ (at_drop (at + length new) xs (i - length (at_size at xs ++ new))
    ∙ ap (byte_at xs) part)

pub length_piece : (b at : ℕ) (new : List ℕ) → length (piece_of b at new) ≡ min (2048 - (at - 2048 * b)) (length new - (2048 * b - at))
length_piece b at new = omega (arith, length-take (2048 - (at - 2048 * b)) (drop (2048 * b - at) new), length-drop {A = ℕ} (2048 * b - at) new)

pub at_piece : (b at : ℕ) (new : List ℕ) (i : ℕ) → i < 2048 - (at - 2048 * b) → byte_at (piece_of b at new) i ≡ byte_at new ((2048 * b - at) + i)
at_piece b at new i less = at_take (2048 - (at - 2048 * b)) (drop (2048 * b - at) new) i less ∙ at_drop (2048 * b - at) new i
