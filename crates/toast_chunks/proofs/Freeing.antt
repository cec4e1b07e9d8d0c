-- A value of which no chunk is open, by a search over its chunks.
use Rattle.std.proofs.Common.{◌≡◌, ℕ, ◌<◌, ◌≤◌, ◌⊎◌, inl, inr, false, Option, Some, None, refl, ap, sym, arith}
use Rattle.std.specs.Prelude.{MatchOption, is_some}
use Rattle.std.specs.BTreeMap.Range.{IsLeBy}
use Rattle.std.specs.Cmp.{nat_cmp_is}
use Rattle.std.specs.Ordering.{nat_cmp}
use Rattle.std.specs.declared.cmp.Ordering.TheVariants.{Equal}
use Rattle.std.proofs.lemmas.Bool.{cases_lt, false≢true}
use Rattle.std.proofs.lemmas.Bool.Decides.{nat_tests}
use Rattle.xact_core.specs.Transactions.{Transactions}
use Rattle.row_versions.specs.Search.{IsFreeIn, IsLowestIn}
use Rattle.row_versions.specs.Stands.{standing, lowest_other}
use Rattle.toast_chunks.specs.declared.chunks.Chunks.{Chunks}
use Rattle.toast_chunks.specs.Calls.{IsFree}
use Rattle.toast_chunks.specs.Keys.{key_cmp, chunk_key}
use Rattle.toast_chunks.specs.Values.{GoWith, last_place, versions_of}

le_chunks : (n a b : ℕ) → a ≤ b → IsLeBy key_cmp (chunk_key n a) (chunk_key n b)
le_chunks n a b low = rw (itself n) (grind (arith, nat_tests, low))
  where
    itself : (m : ℕ) → nat_cmp m m ≡ Equal
    itself m = sym (nat_cmp_is m m Equal refl)

pub free_value : (x : Transactions) (s n last : ℕ) (chunks : Chunks) → last_place ≤ last → GoWith x chunks → (found : Option ℕ) → MatchOption found (IsFreeIn key_cmp x s chunks.versions (chunk_key n 0) (chunk_key n last)) (IsLowestIn key_cmp x s chunks.versions (chunk_key n 0) (chunk_key n last)) → is_some found ≡ false → IsFree x s chunks n
free_value x s n last chunks high go (Some t) free none = absurd (false≢true (sym none))
free_value x s n last chunks high go None free none = record { chunk = chunk }
  where
    chunk : (k : ℕ) → lowest_other s (standing x (versions_of chunks n k)) ≡ None
    chunk k = by_place (cases_lt k last_place)
      where
        by_place : (k < last_place) ⊎ (last_place ≤ k) → lowest_other s (standing x (versions_of chunks n k)) ≡ None
        by_place (inl less) = free.free (chunk_key n k) (record { low = le_chunks n 0 k (omega arith); high = le_chunks n k last (omega (arith, less, high)) })
        by_place (inr least) = ap (λ vs. lowest_other s (standing x vs)) (go.small n k least)
