-- Keys of chunks, in the order in which they are kept.
use Rattle.std.specs.Prelude.{ℕ}
use Rattle.std.specs.Ordering.{nat_cmp, ordering_then}
use Rattle.std.specs.declared.cmp.Ordering.{Ordering}
use Rattle.std.proofs.Common.{refl}
use Rattle.std.proofs.lemmas.Map.Lookups.{CmpEqualImpliesEq}
use Rattle.row_versions.specs.Keys.{exact_by_two}
use Rattle.toast_chunks.specs.declared.chunk_key.ChunkKey.{ChunkKey}

-- keys of chunks by value, and then by number
abbrev pub key_cmp : ChunkKey → ChunkKey → Ordering
key_cmp a b = ordering_then (nat_cmp a.value b.value) (nat_cmp a.number b.number)

abbrev pub chunk_key : (value number : ℕ) → ChunkKey
chunk_key n k = record { value = n; number = k }

-- keys that compare as equal are one
pub exact_keys : CmpEqualImpliesEq key_cmp
exact_keys = exact_by_two (λ (k : ChunkKey). k.value) (λ (k : ChunkKey). k.number) (λ (p : ℕ × ℕ). chunk_key p.0 p.1) (λ k. refl)
