-- Worked rows of the definitions.
use Rattle.std.proofs.Common.{◌≡◌, ℕ, List, [], ◌∷◌, ◌++◌, Some, None, refl}
use Rattle.std.specs.Prelude.{replicate}
use Rattle.toast_chunks.specs.Values.{chunk_of, slice_of}

-- 1997 bytes are a full chunk and one of one byte, with the second from 1996 on
bytes : List ℕ
bytes = replicate 1996 98 ++ 99 ∷ []

first_chunk : chunk_of 0 bytes ≡ Some (replicate 1996 98)
unfolding bytes
first_chunk = refl

second_chunk : chunk_of 1 bytes ≡ Some (99 ∷ [])
unfolding bytes
second_chunk = refl

no_third_chunk : chunk_of 2 bytes ≡ None
unfolding bytes
no_third_chunk = refl

-- a full chunk is the last one
full : List ℕ
full = replicate 1996 98

one_full_chunk : chunk_of 1 full ≡ None
unfolding full
one_full_chunk = refl

no_bytes : chunk_of 0 [] ≡ None
no_bytes = refl

-- a slice over the edge, and one behind the end
over_the_edge : slice_of 1994 10 bytes ≡ 98 ∷ 98 ∷ 99 ∷ []
unfolding bytes
over_the_edge = refl

behind_the_end : slice_of 1997 5 bytes ≡ []
unfolding bytes
behind_the_end = refl
