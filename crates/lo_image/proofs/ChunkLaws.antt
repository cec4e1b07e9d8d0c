-- The law for a value in chunks.
use Rattle.std.proofs.Common.{◌≡◌, ℕ, zero, suc, ◌+◌, ◌-◌, ◌*◌, ◌^◌, ◌<◌, ◌≤◌, min, List, [], ◌∷◌, ◌++◌, length, take, drop, refl, sym, ap, subst, ◌∙◌, append-nil, arith, inl, inr}
use Rattle.std.specs.Int.{w16, w32, to_le_bytes}
use Rattle.std.proofs.lemmas.List.{take_at, drop_at, take-append-drop, length-append, length-take, length-drop, nil_from_length}
use Rattle.std.proofs.lemmas.Bool.{cases_lt}
use Rattle.lo_model.specs.Held.{chunk_bytes, pieces}
use Rattle.lo_image.specs.declared.fault.Defect.TheVariants.{Mismatch}
use Rattle.lo_image.specs.declared.place.ChunkPlace.{ChunkPlace}
use Rattle.lo_image.specs.Image.{chunk_form, chunks_form, value_form}
use Rattle.lo_image.specs.Readers.{piece, fixed, behind, many}
use Rattle.lo_image.specs.Reading.{chunk_at, after_chunk, joined_pieces, value_at}
use Rattle.lo_image.proofs.ReaderLaws.{IsBytes, Reads, wide16, wide32, fixed_reads, made_reads, joined, AllFrom, AreRead, many_reads}
use Rattle.lo_image.proofs.ListLaws.{AreSmall, bytes_of_small, AreLong, bytes_read}
use Rattle.toast_plan.proofs.Pieces.{small_bytes}
use Rattle.lo_image.proofs.ReaderLaws.{IsBytes-take, IsBytes-drop}

abbrev pub chunk_length : ChunkPlace → ℕ
chunk_length p = min chunk_bytes p.left

abbrev pub IsChunk : (value : ℕ) → ChunkPlace → List ℕ → Type 0
IsChunk value p bytes = (value < 2 ^ 32) × ((p.number < 2 ^ 32) × ((chunk_length p < 2 ^ 16) × AreLong (chunk_length p) bytes))

abbrev pub fixed_chunk : (value : ℕ) → ChunkPlace → List ℕ → List ℕ
fixed_chunk value p bytes = to_le_bytes w32 value ++ (to_le_bytes w32 p.number ++ (to_le_bytes w16 (chunk_length p) ++ bytes))

chunk_reads : (value : ℕ) (p : ChunkPlace) → Reads (List ℕ) (chunk_at value p) (fixed_chunk value p) (IsChunk value p)
chunk_reads value p =
    let Bytes = List ℕ in
    let len = chunk_length p in
    let lens = fixed_reads Bytes w16 (2 ^ 16) wide16 len Mismatch (piece len) (λ a. a) (AreLong len) (bytes_read len) in
    let numbers = fixed_reads Bytes w32 (2 ^ 32) wide32 p.number Mismatch (behind (fixed w16 len Mismatch) (piece len)) (λ a. to_le_bytes w16 len ++ a) (λ a. (len < 2 ^ 16) × AreLong len a) lens in
    fixed_reads Bytes w32 (2 ^ 32) wide32 value Mismatch (behind (fixed w32 p.number Mismatch) (behind (fixed w16 len Mismatch) (piece len))) (λ a. to_le_bytes w32 p.number ++ (to_le_bytes w16 len ++ a)) (λ a. (p.number < 2 ^ 32) × ((len < 2 ^ 16) × AreLong len a)) numbers

-- the chunks of some bytes
abbrev pub cut : (count : ℕ) → List ℕ → List (List ℕ)
cut zero bytes = []
cut (suc count) bytes = take chunk_bytes bytes ∷ cut count (drop chunk_bytes bytes)

cut_joined : (count : ℕ) (bytes : List ℕ) → length bytes ≤ chunk_bytes * count → joined_pieces (cut count bytes) ≡ bytes
cut_joined zero bytes le = sym (nil_from_length bytes (omega (arith, le)))
cut_joined (suc count) bytes le = ap (λ (x : List ℕ). take chunk_bytes bytes ++ x) (cut_joined count (drop chunk_bytes bytes) (omega (arith, le, length-drop chunk_bytes bytes))) ∙ take-append-drop chunk_bytes bytes

small_front : (n : ℕ) (bytes : List ℕ) → AreSmall bytes → AreSmall (take n bytes)
small_front n bytes h = small_bytes (take n bytes) (IsBytes-take n bytes (bytes_of_small bytes h))

small_rest : (n : ℕ) (bytes : List ℕ) → AreSmall bytes → AreSmall (drop n bytes)
small_rest n bytes h = small_bytes (drop n bytes) (IsBytes-drop n bytes (bytes_of_small bytes h))

-- the place of the chunk of that number where so many bytes are left
abbrev pub at_chunk : ℕ → ℕ → ChunkPlace
at_chunk number left = record { number = number; left = left }

cut_is : (value count number : ℕ) (bytes : List ℕ) → value < 2 ^ 32 → number + count < 2 ^ 32 → AreSmall bytes → AllFrom (IsChunk value) after_chunk (at_chunk number (length bytes)) (cut count bytes)
cut_is value zero number bytes v n small = tt
cut_is value (suc count) number bytes v n small =
    let len : length (take chunk_bytes bytes) ≡ min chunk_bytes (length bytes) = omega (arith, length-take chunk_bytes bytes) in
    let rest : length (drop chunk_bytes bytes) ≡ length bytes - chunk_bytes = omega (arith, length-drop chunk_bytes bytes) in (
      (v, (omega (arith, n), (omega arith, record { len = len; small = small_front chunk_bytes bytes small }))),
      subst (λ (k : ℕ). AllFrom (IsChunk value) after_chunk (at_chunk (number + 1) k) (cut count (drop chunk_bytes bytes))) rest (cut_is value count (number + 1) (drop chunk_bytes bytes) v (omega (arith, n)) (small_rest chunk_bytes bytes small)),
    )

length-cut : (count : ℕ) (bytes : List ℕ) → length (cut count bytes) ≡ count
length-cut zero bytes = refl
length-cut (suc count) bytes = ap suc (length-cut count (drop chunk_bytes bytes))

take_short : (n : ℕ) (p : List ℕ) → length p ≤ n → take n p ≡ p
take_short zero [] le = refl
take_short zero (x ∷ p) le = absurd (omega (arith, le))
take_short (suc n) [] le = refl
take_short (suc n) (x ∷ p) le = ap (λ (t : List ℕ). x ∷ t) (take_short n p (omega (arith, le)))

drop_short : (n : ℕ) (p : List ℕ) → length p ≤ n → drop n p ≡ []
drop_short zero [] le = refl
drop_short zero (x ∷ p) le = absurd (omega (arith, le))
drop_short (suc n) [] le = refl
drop_short (suc n) (x ∷ p) le = drop_short n p (omega (arith, le))

-- a chunk at the front is full, or the last
front_chunk : (left : ℕ) (p q : List ℕ) → length p ≡ min chunk_bytes left → length q ≡ left - chunk_bytes → (take chunk_bytes (p ++ q) ≡ p) × (drop chunk_bytes (p ++ q) ≡ q)
front_chunk left p q own rest =
    elim (cases_lt left chunk_bytes) [
      | inl lt ↦
          let nothing : q ≡ [] = nil_from_length q (omega (arith, rest, lt)) in
          let le : length p ≤ chunk_bytes = omega (arith, own) in
          rw nothing (rw (append-nil p) (take_short chunk_bytes p le, drop_short chunk_bytes p le))
      | inr ge ↦ let full : length p ≡ chunk_bytes = omega (arith, own, ge) in (take_at p q chunk_bytes full, drop_at p q chunk_bytes full)
    ]

-- chunks that were read are those of the value joined of them
pub record AreOf (value count number left : ℕ) (ps : List (List ℕ)) : Type 0 where
  pub len : length (joined_pieces ps) ≡ left
  pub small : IsBytes (joined_pieces ps)
  pub form : joined (fixed_chunk value) after_chunk (at_chunk number left) ps ≡ chunks_form value count number (joined_pieces ps)

IsBytes-join : (a b : List ℕ) → IsBytes a → IsBytes b → IsBytes (a ++ b)
IsBytes-join [] b ha hb i = hb i
IsBytes-join (x ∷ a) b ha hb zero = ha 0
IsBytes-join (x ∷ a) b ha hb (suc i) = IsBytes-join a b (λ j. ha (suc j)) hb i

are_of : (value count number left : ℕ) (ps : List (List ℕ)) → length ps ≡ count → left ≤ chunk_bytes * count → (0 < count → chunk_bytes * (count - 1) < left) → AllFrom (IsChunk value) after_chunk (at_chunk number left) ps → AreOf value count number left ps
are_of value zero number left [] len le some all = record { len = omega (arith, le); small = λ i. omega arith; form = refl }
are_of value zero number left (p ∷ ps) len le some all = absurd (omega (arith, len))
are_of value (suc count) number left [] len le some all = absurd (omega (arith, len))
are_of value (suc count) number left (p ∷ ps) len le some all =
    let more = are_of value count (number + 1) (left - chunk_bytes) ps (omega (arith, len)) (omega (arith, le)) (λ k. let many_left = some (omega arith) in omega (arith, many_left, k)) all.1 in
    let is = all.0.1.1.1 in
    let own = is.len in
    let total = more.len in
    let parts = front_chunk left p (joined_pieces ps) own total in
    record {
      len = omega (arith, length-append p (joined_pieces ps), own, total);
      small = IsBytes-join p (joined_pieces ps) (bytes_of_small p is.small) more.small;
      form = rw (parts.0, parts.1, ← own) (ap (λ (x : List ℕ). chunk_form value number p ++ x) more.form);
    }

pub value_reads : (value len : ℕ) → value < 2 ^ 32 → len ≤ 16777216 → Reads (List ℕ) (value_at value len) (value_form value) (AreLong len)
value_reads value len v few =
    let count = pieces chunk_bytes len in
    let p : ChunkPlace = at_chunk 0 len in
    made_reads (List (List ℕ)) (List ℕ) joined_pieces (many (chunk_at value) after_chunk p count) (joined (fixed_chunk value) after_chunk p) (AreRead (List ℕ) ChunkPlace (IsChunk value) after_chunk p count) (value_form value) (AreLong len)
    (many_reads (List ℕ) ChunkPlace (chunk_at value) after_chunk (fixed_chunk value) (IsChunk value) (chunk_reads value) p count)
    (record {
      back = cut count;
      there = λ bytes is. let same = is.len in cut_joined count bytes (omega (arith, same));
      here = λ ps is.
          let o = are_of value count 0 len ps is.count (omega arith) (λ k. omega (arith, k)) is.all in
          (o.form ∙ ap (λ (n : ℕ). chunks_form value (pieces chunk_bytes n) 0 (joined_pieces ps)) (sym o.len), record { len = o.len; small = small_bytes (joined_pieces ps) o.small });
      again = λ bytes is.
          let same = is.len in
          let all = subst (λ (n : ℕ). AllFrom (IsChunk value) after_chunk (at_chunk 0 n) (cut count bytes)) same (cut_is value count 0 bytes v (omega (arith, few)) is.small) in
          let o = are_of value count 0 len (cut count bytes) (length-cut count bytes) (omega arith) (λ k. omega (arith, k)) all in
          (o.form ∙ ap (chunks_form value count 0) (cut_joined count bytes (omega (arith, same))) ∙ ap (λ (n : ℕ). chunks_form value (pieces chunk_bytes n) 0 bytes) (sym same), record { count = length-cut count bytes; all = all });
    })
