-- A slice is filled chunk by chunk.
use Rattle.std.proofs.Common.{◌≡◌, ℕ, ◌+◌, ◌-◌, ◌*◌, ◌<◌, ◌≤◌, ◌⊎◌, inl, inr, List, [], ◌++◌, length, take, drop, length-take, length-drop, length-append, append_assoc, append-nil, drop_of_length-le, refl, ap, sym, subst, ◌∙◌, arith}
use Rattle.std.proofs.Math.Seq.{take-add, take-append_seam}
use Rattle.std.proofs.lemmas.Bool.{cases_lt}
use Rattle.std.proofs.lemmas.List.{drop-drop, drop-take, length-take-le, take-take, take_all}
use Rattle.std.proofs.lemmas.Slice.{drop-append-drop}
use Rattle.toast_chunks.specs.Values.{FilledTo, slice_of}

own_take : (n : ℕ) (xs : List ℕ) → take (length (take n xs)) xs ≡ take n xs
own_take n xs = by_place (cases_lt n (length xs))
  where
    by_place : (n < length xs) ⊎ (length xs ≤ n) → take (length (take n xs)) xs ≡ take n xs
    by_place (inl less) = ap (λ (m : ℕ). take m xs) (length-take-le n xs (omega (arith, less)))
    by_place (inr least) = let all : length (take n xs) ≡ length xs = ap (λ (ys : List ℕ). length ys) (take_all n xs least) in ap (λ (m : ℕ). take m xs) all ∙ (take_all (length xs) xs (omega arith) ∙ sym (take_all n xs least))

-- two cuts of a front are one
cut_twice : (a b : ℕ) (xs : List ℕ) → take a (take b xs) ≡ take (length (take a (take b xs))) xs
cut_twice a b xs = by_place (cases_lt a b)
  where
    as_one : (n : ℕ) → take a (take b xs) ≡ take n xs → take a (take b xs) ≡ take (length (take a (take b xs))) xs
    as_one n is = is ∙ sym (ap (λ (ys : List ℕ). take (length ys) xs) is ∙ own_take n xs)

    by_place : (a < b) ⊎ (b ≤ a) → take a (take b xs) ≡ take (length (take a (take b xs))) xs
    by_place (inl less) = as_one a (take-take a b xs (omega (arith, less)))
    by_place (inr least) = as_one b (take_all a (take b xs) (omega (arith, least, length-take b xs)))

-- a part of a chunk is a part of the value
piece_is : (k o room : ℕ) (bytes chunk : List ℕ) → o < 1996 → chunk ≡ take 1996 (drop (1996 * k) bytes) → take room (drop o chunk) ≡ take (length (take room (drop o chunk))) (drop (1996 * k + o) bytes)
piece_is k o room bytes chunk less is =
    let whole : 1996 ≡ o + (1996 - o) = omega (arith, less) in
    let rest : drop o chunk ≡ take (1996 - o) (drop (1996 * k + o) bytes) =
    ap (drop o) (is ∙ ap (λ (n : ℕ). take n (drop (1996 * k) bytes)) whole)
    ∙ (drop-take o (1996 - o) (drop (1996 * k) bytes)
    ∙ ap (take (1996 - o)) (drop-drop o (1996 * k) bytes)) in
    ap (take room) rest
    ∙ (cut_twice room (1996 - o) (drop (1996 * k + o) bytes)
    ∙ sym (ap (λ (ys : List ℕ). take (length (take room ys)) (drop (1996 * k + o) bytes)) rest))

take_front : (xs ys : List ℕ) (n : ℕ) → length xs ≡ n → take n (xs ++ ys) ≡ xs
take_front xs ys n same = subst (λ (k : ℕ). take k (xs ++ ys) ≡ xs) same (take-append_seam xs ys)

pub fill_start : (from : ℕ) (bytes out : List ℕ) → FilledTo from 0 bytes out out
fill_start from bytes out = record { full = refl; is = refl }

module _ (from done : ℕ) (bytes old out : List ℕ) (filled : FilledTo from done bytes old out) where
  -- the part of one chunk is laid behind what is filled
  pub fill_step : (count k o : ℕ) (front chunk rest new : List ℕ) → from + done ≡ 1996 * k + o → o < 1996 → chunk ≡ take 1996 (drop (1996 * k) bytes) → front ≡ take done out → rest ≡ drop done out → count ≡ length (slice_of o (length rest) chunk) → new ≡ slice_of o (length rest) chunk ++ drop count rest → FilledTo from (done + count) bytes old (front ++ new)
  fill_step count k o front chunk rest new at less chunk_is front_is rest_is count_is new_is = record { full = full; is = is }
    where
      first : List ℕ
      first = slice_of from done bytes

      part : slice_of o (length rest) chunk ≡ take count (drop done (drop from bytes))
      part = piece_is k o (length rest) bytes chunk less chunk_is ∙ (ap (λ (n : ℕ). take n (drop (1996 * k + o) bytes)) (sym count_is) ∙ (ap (λ (n : ℕ). take count (drop n bytes)) (sym at) ∙ ap (take count) (sym (drop-drop done from bytes))))

      whole : slice_of from (done + count) bytes ≡ first ++ take count (drop done (drop from bytes))
      whole = take-add done count (drop from bytes)

      full : length (slice_of from (done + count) bytes) ≡ done + count
      full =
          let parts : length (first ++ take count (drop done (drop from bytes))) ≡ length first + length (take count (drop done (drop from bytes))) = length-append first (take count (drop done (drop from bytes))) in
          let last : length (take count (drop done (drop from bytes))) ≡ count = ap (λ (ys : List ℕ). length ys) (sym part) ∙ sym count_is in
          ap (λ (ys : List ℕ). length ys) whole ∙ (omega (arith, parts, last, filled.full))

      before : front ≡ first
      before = front_is ∙ (ap (take done) filled.is ∙ take_front first (drop done old) done filled.full)

      behind : drop count rest ≡ drop (done + count) old
      behind = ap (drop count) rest_is ∙ (drop-drop count done out ∙ (ap (drop (done + count)) filled.is ∙ drop-append-drop done old first (done + count) (omega arith) filled.full))

      is : front ++ new ≡ slice_of from (done + count) bytes ++ drop (done + count) old
      is =
          ap (λ (ys : List ℕ). ys ++ new) before
          ∙ (ap (λ (ys : List ℕ). first ++ ys) (new_is ∙ (ap (λ (ys : List ℕ). ys ++ drop count rest) part ∙ ap (λ (ys : List ℕ). take count (drop done (drop from bytes)) ++ ys) behind))
          ∙ (sym (append_assoc first (take count (drop done (drop from bytes))) (drop (done + count) old))
          ∙ ap (λ (ys : List ℕ). ys ++ drop (done + count) old) (sym whole)))

  -- it ends where there is no more room
  pub full_count : length old ≤ done → done ≤ length old → done ≡ length (slice_of from (length old) bytes)
  full_count low high = let same : done ≡ length old = omega (arith, low, high) in sym filled.full ∙ ap (λ (n : ℕ). length (slice_of from n bytes)) same

  pub fill_end : done ≡ length (slice_of from (length old) bytes) → out ≡ slice_of from (length old) bytes ++ drop done old
  fill_end count = filled.is ∙ ap (λ (ys : List ℕ). ys ++ drop done old) (ap (λ (n : ℕ). take n (drop from bytes)) count ∙ own_take (length old) (drop from bytes))

-- It ends behind a chunk that is not full.
pub short_step : (from done : ℕ) (bytes old out : List ℕ) → FilledTo from done bytes old out → (count k o : ℕ) (front chunk rest new : List ℕ) → from + done ≡ 1996 * k + o → o < 1996 → chunk ≡ take 1996 (drop (1996 * k) bytes) → front ≡ take done out → rest ≡ drop done out → count ≡ length (slice_of o (length rest) chunk) → new ≡ slice_of o (length rest) chunk ++ drop count rest → done ≤ length old → length rest ≡ length old - done → length chunk < 1996 → (done + count ≡ length (slice_of from (length old) bytes)) × (front ++ new ≡ slice_of from (length old) bytes ++ drop (done + count) old)
short_step from done bytes old out filled count k o front chunk rest new at less chunk_is front_is rest_is count_is new_is high room short =
    (all, fill_end from (done + count) bytes old (front ++ new) (fill_step from done bytes old out filled count k o front chunk rest new at less chunk_is front_is rest_is count_is new_is) all)
  where
    all : done + count ≡ length (slice_of from (length old) bytes)
    all =
        let size : length chunk ≡ length (take 1996 (drop (1996 * k) bytes)) = ap (λ (ys : List ℕ). length ys) chunk_is in
        omega (arith, high, at, less, short, room, count_is, size, filled.full, length-take 1996 (drop (1996 * k) bytes), length-drop {A = ℕ} (1996 * k) bytes, length-take (length rest) (drop o chunk), length-drop {A = ℕ} o chunk, length-take done (drop from bytes), length-take (length old) (drop from bytes), length-drop {A = ℕ} from bytes)

-- a whole value
pub whole_value : (bytes old new : List ℕ) (n : ℕ) → length old ≡ length bytes → n ≡ length (slice_of 0 (length old) bytes) → new ≡ slice_of 0 (length old) bytes ++ drop n old → new ≡ bytes
whole_value bytes old new n same count is =
    let all : slice_of 0 (length old) bytes ≡ bytes = take_all (length old) bytes (omega (arith, same)) in
    let size : length (slice_of 0 (length old) bytes) ≡ length bytes = ap (λ (ys : List ℕ). length ys) all in
    let past : drop n old ≡ [] = drop_past n old (omega (arith, count, size, same)) in
    is ∙ (ap (λ (ys : List ℕ). ys ++ drop n old) all ∙ (ap (λ (ys : List ℕ). bytes ++ ys) past ∙ append-nil bytes))
  where
    drop_past : (m : ℕ) (xs : List ℕ) → length xs ≤ m → drop m xs ≡ []
    drop_past m xs most = drop_of_length-le xs most
