-- The chunks of a list of bytes.
use Rattle.std.proofs.Common.{◌≡◌, ℕ, ◌-◌, ◌*◌, ◌<◌, ◌≤◌, ◌⊎◌, inl, inr, true, false, List, [], length, take, drop, length-drop, Some, None, refl, ap, sym, ◌∙◌, arith}
use Rattle.std.specs.Prelude.{min, nat_lt}
use Rattle.std.proofs.lemmas.Bool.{cases_lt}
use Rattle.std.proofs.lemmas.Bool.Decides.{nat_tests}
use Rattle.std.proofs.Math.ListN.{drop_of_length-le}
use Rattle.std.proofs.lemmas.List.{take_all}
use Rattle.toast_chunks.specs.Values.{bytes_or_none, chunk_of, slice_of}

pub chunk_some : (k : ℕ) (bytes : List ℕ) → 1996 * k < length bytes → chunk_of k bytes ≡ Some (slice_of (1996 * k) 1996 bytes)
chunk_some k bytes less = let test : nat_lt (1996 * k) (length bytes) ≡ true = grind (arith, nat_tests, less) in rw test refl

pub chunk_past : (k : ℕ) (bytes : List ℕ) → length bytes ≤ 1996 * k → chunk_of k bytes ≡ None
chunk_past k bytes least = let test : nat_lt (1996 * k) (length bytes) ≡ false = grind (arith, nat_tests, least) in rw test refl

pub chunk_none : (k : ℕ) → chunk_of k [] ≡ None
chunk_none k = chunk_past k [] (omega arith)

-- what there is of a chunk, also of one that is not there
pub chunk_bytes : (k : ℕ) (bytes : List ℕ) → bytes_or_none (chunk_of k bytes) ≡ take 1996 (drop (1996 * k) bytes)
chunk_bytes k bytes = by_place (cases_lt (1996 * k) (length bytes))
  where
    by_place : (1996 * k < length bytes) ⊎ (length bytes ≤ 1996 * k) → bytes_or_none (chunk_of k bytes) ≡ take 1996 (drop (1996 * k) bytes)
    by_place (inl less) = ap bytes_or_none (chunk_some k bytes less)
    by_place (inr least) = ap bytes_or_none (chunk_past k bytes least) ∙ sym (ap (take 1996) (drop_of_length-le bytes least))

-- the first bytes of the rest, as many as make a chunk
pub cut_rest : (n start : ℕ) (bytes : List ℕ) → n ≡ min 1996 (length (take (length bytes - start) (drop start bytes))) → take n (take (length bytes - start) (drop start bytes)) ≡ slice_of start 1996 bytes
cut_rest n start bytes count = by_place (cases_lt 1996 (length rest))
  where
    rest : List ℕ
    rest = drop start bytes

    all : take (length bytes - start) rest ≡ rest
    all = take_all (length bytes - start) rest (omega (arith, length-drop {A = ℕ} start bytes))

    size : length (take (length bytes - start) rest) ≡ length rest
    size = ap (λ (ys : List ℕ). length ys) all

    by_place : (1996 < length rest) ⊎ (length rest ≤ 1996) → take n (take (length bytes - start) rest) ≡ take 1996 rest
    by_place (inl less) = let full : n ≡ 1996 = omega (arith, count, size, less) in ap (take n) all ∙ ap (λ (m : ℕ). take m rest) full
    by_place (inr least) = ap (take n) all ∙ (take_all n rest (omega (arith, count, size, least)) ∙ sym (take_all 1996 rest least))
