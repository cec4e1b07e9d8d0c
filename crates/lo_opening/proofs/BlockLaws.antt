-- The bytes of an object, block by block, against its stored blocks.
use Rattle.std.proofs.Common.{◌≡◌, ℕ, zero, suc, ◌+◌, ◌-◌, ◌*◌, ◌<◌, ◌≤◌, min, Bool, true, false, ◌==◌, ◌||◌, List, [], ◌∷◌, ◌++◌, length, take, drop, Option, Some, None, refl, sym, ap, ◌∙◌, arith, append-nil, subst, inl, inr}
use Rattle.std.specs.Prelude.{map, filter, replicate, flat_map, is_some, not, if◌then◌else◌}
use Rattle.std.specs.List.{list_any, range_with_len}
use Rattle.std.proofs.lemmas.Bool.{cases_Bool}
use Rattle.std.proofs.lemmas.Bool.Decides.{nat_tests}
use Rattle.std.proofs.lemmas.List.{length-append, length-take, take-append-drop, take_all, length-replicate, length-drop, drop-drop}
use Rattle.std.proofs.Math.Seq.{take-append_seam, drop-append-add}
use Rattle.std.proofs.Math.ListN.{drop_of_length-le}
use Rattle.std.proofs.Math.Nat.{le_refl}
use Rattle.lo_model.specs.Edit.{Deed, Create, Write, Cut}
use Rattle.lo_model.specs.Opening.{page_of, is_written, written_pages, end_of, needs_cut, object_deeds}
use Rattle.lo_opening.specs.Meaning.{stored_at, or_zeros, block_of, bytes_of, block_write, load_deeds, number_of, page_with_number}
use Rattle.lo_opening.specs.Opening.{block_length, blocks_below, all_zero, AreBlocks, has_tail}

abbrev is_byte : ℕ → Bool
is_byte byte = not (byte == 0)

from_zero : (n : ℕ) → 0 + n ≡ n
from_zero n = omega arith

-- ---- blocks one behind the other

module _ (f : ℕ → List ℕ) (size : ℕ) (lengths : (i : ℕ) → length (f i) ≡ block_length size i) where
  -- together they are as long as the size
  pub length_joined : (k n : ℕ) → k + n ≡ blocks_below size → length (flat_map f (range_with_len k n)) ≡ size - 2048 * k
  length_joined k zero is = let few : size ≤ 2048 * k = omega (arith, is) in omega (arith, few)
  length_joined k (suc n) is =
      let more = length_joined (k + 1) n (omega (arith, is)) in
      let some : 2048 * k < size = omega (arith, is) in
      let one = lengths k in
      length-append (f k) (flat_map f (range_with_len (k + 1) n)) ∙ grind (arith, one, more, some)

  -- and each stands at its place
  pub page_joined : (k n b : ℕ) → k + n ≡ blocks_below size → b < n → take 2048 (drop (2048 * b) (flat_map f (range_with_len k n))) ≡ f (k + b)
  page_joined k zero b is low = absurd (omega (arith, low))
  page_joined k (suc zero) zero is low =
      let short : length (f k) ≤ 2048 = (let one = lengths k in grind (arith, one)) in
      ap (take 2048) (append-nil (f k)) ∙ (take_all 2048 (f k) short ∙ ap f (let same : k ≡ k + zero = omega arith in same))
  page_joined k (suc (suc n)) zero is low =
      let full : length (f k) ≡ 2048 = (let one = lengths k in grind (arith, one, is)) in
      let rest : List ℕ = flat_map f (range_with_len (k + 1) (suc n)) in
      ap (λ m. take m (f k ++ rest)) (sym full) ∙ (take-append_seam (f k) rest ∙ ap f (let same : k ≡ k + zero = omega arith in same))
  page_joined k (suc n) (suc b) is low =
      let full : length (f k) ≡ 2048 = (let one = lengths k in grind (arith, one, is, low)) in
      let rest : List ℕ = flat_map f (range_with_len (k + 1) n) in
      let skip : 2048 * suc b ≡ length (f k) + 2048 * b = omega (arith, full) in
      ap (take 2048) (ap (λ m. drop m (f k ++ rest)) skip ∙ drop-append-add (f k) rest (2048 * b))
      ∙ (page_joined (k + 1) n b (omega (arith, is)) (omega (arith, low)) ∙ ap f (let same : k + 1 + b ≡ k + suc b = omega arith in same))

-- ---- stored blocks by their numbers

pub stored_below : (size least : ℕ) (bs : List (ℕ × List ℕ)) (i : ℕ) → AreBlocks size least bs → i < least → stored_at i bs ≡ None
stored_below size least [] i are low = refl
stored_below size least (b ∷ bs) i are low =
    let other : (b.0 == i) ≡ false = (let follows = are.1 in grind (arith, nat_tests, follows, low)) in
    let follows = are.1 in
    rw other (stored_below size (b.0 + 1) bs i are.2 (omega (arith, follows, low)))

pub stored_length : (size least : ℕ) (bs : List (ℕ × List ℕ)) (i : ℕ) → AreBlocks size least bs → length (or_zeros (block_length size i) (stored_at i bs)) ≡ block_length size i
stored_length size least [] i are = length-replicate (block_length size i) 0
stored_length size least (b ∷ bs) i are =
    elim (cases_Bool (b.0 == i)) [
      | inl same ↦ rw same (are.0.bytes ∙ ap (block_length size) (let at : b.0 ≡ i = grind (arith, nat_tests, same) in at))
      | inr other ↦ rw other (stored_length size (b.0 + 1) bs i are.2)
    ]

-- a test that stored blocks alone pass picks their numbers
pub numbers_are : (test : ℕ → Bool) (size k n : ℕ) (bs : List (ℕ × List ℕ)) → AreBlocks size k bs → k + n ≡ blocks_below size → ((i : ℕ) → k ≤ i → i < blocks_below size → test i ≡ is_some (stored_at i bs)) → filter test (range_with_len k n) ≡ map number_of bs
numbers_are test size k zero [] are is tells = refl
numbers_are test size k zero (b ∷ bs) are is tells =
    let below = are.0.below in let follows = are.1 in
    absurd (omega (arith, below, follows, is))
numbers_are test size k (suc n) [] are is tells =
    let fails : test k ≡ false = tells k (omega arith) (omega (arith, is)) in
    rw fails (numbers_are test size (k + 1) n [] tt (omega (arith, is)) (λ i low high. tells i (omega (arith, low)) high))
numbers_are test size k (suc n) (b ∷ bs) are is tells =
    let follows = are.1 in
    elim (cases_Bool (b.0 == k)) [
      | inl same ↦
          let at : b.0 ≡ k = grind (arith, nat_tests, same) in
          let passes : test k ≡ true = tells k (omega arith) (omega (arith, is)) ∙ ap (λ r. is_some (if r then Some b.1 else stored_at k bs)) same in
          let after : (i : ℕ) → k + 1 ≤ i → i < blocks_below size → test i ≡ is_some (stored_at i bs) = λ i low high. tells i (omega (arith, low)) high ∙ ap (λ r. is_some (if r then Some b.1 else stored_at i bs)) (let other : (b.0 == i) ≡ false = grind (arith, nat_tests, at, low) in other) in
          rw passes (ap (λ (m : ℕ). m ∷ filter test (range_with_len (k + 1) n)) (sym at) ∙ ap (λ (ms : List ℕ). b.0 ∷ ms) (numbers_are test size (k + 1) n bs (subst (λ m. AreBlocks size (m + 1) bs) at are.2) (omega (arith, is)) after))
      | inr other ↦
          let above : k + 1 ≤ b.0 = grind (arith, nat_tests, other, follows) in
          let fails : test k ≡ false = tells k (omega arith) (omega (arith, is)) ∙ ap is_some (stored_below size (k + 1) (b ∷ bs) k (are.0, above, are.2) (omega arith)) in
          rw fails (numbers_are test size (k + 1) n (b ∷ bs) (are.0, above, are.2) (omega (arith, is)) (λ i low high. tells i (omega (arith, low)) high))
    ]

-- ---- pages of an object's bytes

no_byte : (count : ℕ) → list_any is_byte (replicate count 0) ≡ false
no_byte zero = refl
no_byte (suc n) = no_byte n

some_byte : (bytes : List ℕ) → all_zero bytes ≡ false → list_any is_byte bytes ≡ true
some_byte [] is = sym is
some_byte (x ∷ xs) is =
    elim (cases_Bool (x == 0)) [
      | inl none ↦ rw none (some_byte xs (rw none at is))
      | inr other ↦ rw other refl
    ]

-- bytes none of which is other than 0 are zeros
all_zeros : (bytes : List ℕ) → list_any is_byte bytes ≡ false → bytes ≡ replicate (length bytes) 0
all_zeros [] is = refl
all_zeros (x ∷ xs) is =
    elim (cases_Bool (x == 0)) [
      | inl none ↦ ap (λ m. m ∷ xs) (let same : x ≡ 0 = grind (arith, nat_tests, none) in same) ∙ ap (λ (ms : List ℕ). 0 ∷ ms) (all_zeros xs (rw none at is))
      | inr other ↦ absurd (let no : true ≡ false = rw other at is in cc)
    ]

not_zero : (bytes : List ℕ) → list_any is_byte bytes ≡ true → all_zero bytes ≡ false
not_zero [] is = cc
not_zero (x ∷ xs) is =
    elim (cases_Bool (x == 0)) [
      | inl none ↦ rw none (not_zero xs (rw none at is))
      | inr other ↦ rw other refl
    ]

lower : (size least more : ℕ) (bs : List (ℕ × List ℕ)) → least ≤ more → AreBlocks size more bs → AreBlocks size least bs
lower size least more [] low are = tt
lower size least more (b ∷ bs) low are = let follows = are.1 in (are.0, omega (arith, low, follows), are.2)

-- what is known of a stored block
stored_above : (size least : ℕ) (bs : List (ℕ × List ℕ)) (i : ℕ) (x : List ℕ) → AreBlocks size least bs → stored_at i bs ≡ Some x → i < blocks_below size
stored_above size least [] i x are is = cc
stored_above size least (b ∷ bs) i x are is =
    elim (cases_Bool (b.0 == i)) [
      | inl same ↦ let at : b.0 ≡ i = grind (arith, nat_tests, same) in let below = are.0.below in omega (arith, at, below)
      | inr other ↦ stored_above size (b.0 + 1) bs i x are.2 (rw other at is)
    ]

stored_written : (size least : ℕ) (bs : List (ℕ × List ℕ)) (i : ℕ) (x : List ℕ) → AreBlocks size least bs → stored_at i bs ≡ Some x → all_zero x ≡ false
stored_written size least [] i x are is = cc
stored_written size least (b ∷ bs) i x are is =
    elim (cases_Bool (b.0 == i)) [
      | inl same ↦ subst (λ (bytes : List ℕ). all_zero bytes ≡ false) (let one : Some b.1 ≡ Some x = rw same at is in ap (or_zeros 0) one) are.0.written
      | inr other ↦ stored_written size (b.0 + 1) bs i x are.2 (rw other at is)
    ]

pub stored_follows : (size least : ℕ) (bs : List (ℕ × List ℕ)) (i : ℕ) (x : List ℕ) → AreBlocks size least bs → stored_at i bs ≡ Some x → least ≤ i
stored_follows size least [] i x are is = cc
stored_follows size least (b ∷ bs) i x are is =
    let follows = are.1 in
    elim (cases_Bool (b.0 == i)) [
      | inl same ↦ let at : b.0 ≡ i = grind (arith, nat_tests, same) in omega (arith, at, follows)
      | inr other ↦ let more = stored_follows size (b.0 + 1) bs i x are.2 (rw other at is) in omega (arith, more, follows)
    ]

-- writes of pages are those of stored blocks
writes_are : (oid size least : ℕ) (bs : List (ℕ × List ℕ)) (bytes : List ℕ) → AreBlocks size least bs → ((i : ℕ) (x : List ℕ) → stored_at i bs ≡ Some x → page_of bytes i ≡ x) → map (λ b. Write oid (2048 * b) (page_of bytes b)) (map number_of bs) ≡ map (block_write oid) bs
writes_are oid size least [] bytes are reads = refl
writes_are oid size least (b ∷ bs) bytes are reads =
    let here : stored_at b.0 (b ∷ bs) ≡ Some b.1 = (let same : (b.0 == b.0) ≡ true = grind (arith, nat_tests) in rw same refl) in
    let later : (i : ℕ) (x : List ℕ) → stored_at i bs ≡ Some x → page_of bytes i ≡ x = λ i x is. reads i x (
    let follows = stored_follows size (b.0 + 1) bs i x are.2 is in
    let other : (b.0 == i) ≡ false = grind (arith, nat_tests, follows) in
    rw other is
    ) in
    ap (λ x. Write oid (2048 * b.0) x ∷ map (λ b. Write oid (2048 * b) (page_of bytes b)) (map number_of bs)) (reads b.0 b.1 here)
    ∙ ap (λ (ds : List Deed). Write oid (2048 * b.0) b.1 ∷ ds) (writes_are oid size (b.0 + 1) bs bytes are.2 later)

-- a cut is needed where zeros stand behind the last block
ends_are : (size end : ℕ) (bs : List (ℕ × List ℕ)) → not (size == end_of size (min end size) (map number_of bs)) ≡ has_tail size end bs
ends_are size end [] = grind (arith, nat_tests)
ends_are size end (b ∷ bs) = ends_are size (2048 * b.0 + 2048) bs

no_tail : (end : ℕ) (bs : List (ℕ × List ℕ)) → has_tail 0 end bs ≡ false
no_tail end [] = grind (arith, nat_tests)
no_tail end (b ∷ bs) = no_tail (2048 * b.0 + 2048) bs

cut_or : (size end : ℕ) (bs : List (ℕ × List ℕ)) → not ((size == 0) || (size == end_of size (min end size) (map number_of bs))) ≡ has_tail size end bs
cut_or zero end bs = sym (no_tail end bs)
cut_or (suc n) end bs = (let some : (suc n == 0) ≡ false = grind (arith, nat_tests) in rw some (ends_are (suc n) end bs))

module _ (oid size : ℕ) (stored : List (ℕ × List ℕ)) (are : AreBlocks size 0 stored) where
  abbrev pub bytes : List ℕ
  bytes = bytes_of (record { oid = oid; size = size; stored = stored })

  lengths : (i : ℕ) → length (block_of size stored i) ≡ block_length size i
  lengths i = stored_length size 0 stored i are

  pub size_is : length bytes ≡ size
  size_is = length_joined (block_of size stored) size lengths 0 (blocks_below size) (from_zero (blocks_below size)) ∙ (let same : size - 2048 * 0 ≡ size = omega arith in same)

  pub page_is : (b : ℕ) → b < blocks_below size → page_of bytes b ≡ block_of size stored b
  page_is b low = page_joined (block_of size stored) size lengths 0 (blocks_below size) b (from_zero (blocks_below size)) low ∙ ap (block_of size stored) (from_zero b)

  -- a page has a byte other than 0 where its block is stored, and nowhere else
  written_is : (b : ℕ) → b < blocks_below size → is_written bytes b ≡ is_some (stored_at b stored)
  written_is b low = ap (list_any is_byte) (page_is b low) ∙ tells (stored_at b stored) refl
    where
      tells : (found : Option (List ℕ)) → stored_at b stored ≡ found → list_any is_byte (or_zeros (block_length size b) found) ≡ is_some found
      tells None is = no_byte (block_length size b)
      tells (Some x) is = some_byte x (stored_written size 0 stored b x are is)

  pub pages_are : written_pages bytes ≡ map number_of stored
  pages_are =
      ap (λ n. filter (is_written bytes) (range_with_len 0 (blocks_below n))) size_is
      ∙ numbers_are (is_written bytes) size 0 (blocks_below size) stored are (from_zero (blocks_below size)) (λ i low high. written_is i high)

  -- and has the bytes that are stored
  pub page_stored : (b : ℕ) (x : List ℕ) → stored_at b stored ≡ Some x → page_of bytes b ≡ x
  page_stored b x is = page_is b (stored_above size 0 stored b x are is) ∙ ap (or_zeros (block_length size b)) is

  -- the cut
  pub cut_is : needs_cut bytes ≡ has_tail size 0 stored
  cut_is = ap (λ n. not ((n == 0) || (n == end_of n 0 (written_pages bytes)))) size_is ∙ (ap (λ ns. not ((size == 0) || (size == end_of size 0 ns))) pages_are ∙ (ap (λ e. not ((size == 0) || (size == end_of size e (map number_of stored)))) (let none : 0 ≡ min 0 size = grind arith in none) ∙ cut_or size 0 stored))

  -- the deeds
  pub deeds_are : object_deeds (record { oid = oid; bytes = bytes }) ≡ load_deeds (record { oid = oid; size = size; stored = stored })
  deeds_are =
      ap (λ (ds : List Deed). Create oid ∷ ds) (
      ap (λ ns. map (λ b. Write oid (2048 * b) (page_of bytes b)) ns ++ (if needs_cut bytes then Cut oid (length bytes) ∷ [] else [])) pages_are
      ∙ (ap (λ ds. ds ++ (if needs_cut bytes then Cut oid (length bytes) ∷ [] else [])) (writes_are oid size 0 stored bytes are page_stored)
      ∙ (ap (λ r. map (block_write oid) stored ++ (if r then Cut oid (length bytes) ∷ [] else [])) cut_is
      ∙ ap (λ n. map (block_write oid) stored ++ (if has_tail size 0 stored then Cut oid n ∷ [] else [])) size_is))
      )

-- ---- what is stored of some bytes

module _ (whole : List ℕ) where
  abbrev count : ℕ
  count = blocks_below (length whole)

  -- pages one behind the other are the bytes
  pages_joined : (k n : ℕ) → k + n ≡ count → flat_map (page_of whole) (range_with_len k n) ≡ drop (2048 * k) whole
  pages_joined k zero is = sym (drop_of_length-le whole (omega (arith, is)))
  pages_joined k (suc n) is =
      ap (λ rest. page_of whole k ++ rest) (pages_joined (k + 1) n (omega (arith, is)) ∙ (ap (λ m. drop m whole) (let same : 2048 * (k + 1) ≡ 2048 * k + 2048 = omega arith in same) ∙ sym (drop-drop 2048 (2048 * k) whole)))
      ∙ take-append-drop 2048 (drop (2048 * k) whole)

  page_length : (b : ℕ) → length (page_of whole b) ≡ block_length (length whole) b
  page_length b = length-take 2048 (drop (2048 * b) whole) ∙ ap (min 2048) (length-drop (2048 * b) whole)

  abbrev pub stored_from : (k n : ℕ) → List (ℕ × List ℕ)
  stored_from k n = map (page_with_number whole) (filter (is_written whole) (range_with_len k n))

  passed_over : (k n i : ℕ) → i < k → stored_at i (stored_from k n) ≡ None
  passed_over k zero i low = refl
  passed_over k (suc n) i low =
      elim (cases_Bool (is_written whole k)) [
        | inl is ↦ let other : (k == i) ≡ false = grind (arith, nat_tests, low) in rw (is, other) (passed_over (k + 1) n i (omega (arith, low)))
        | inr is ↦ rw is (passed_over (k + 1) n i (omega (arith, low)))
      ]

  here : (k n i : ℕ) → k ≡ i → stored_at i (stored_from k (suc n)) ≡ (if is_written whole i then Some (page_of whole i) else None)
  here k n i at =
      let same : (k == k) ≡ true = grind (arith, nat_tests) in
      subst (λ m. stored_at m (stored_from k (suc n)) ≡ (if is_written whole m then Some (page_of whole m) else None)) at (
      elim (cases_Bool (is_written whole k)) [
        | inl is ↦ rw (is, same) refl
        | inr is ↦ rw is (passed_over (k + 1) n k (omega arith))
      ]
      )

  found_at : (k n i : ℕ) → k ≤ i → i < k + n → stored_at i (stored_from k n) ≡ (if is_written whole i then Some (page_of whole i) else None)
  found_at k zero i low high = absurd (omega (arith, low, high))
  found_at k (suc n) i low high =
      elim (cases_Bool (k == i)) [
        | inl same ↦ here k n i (let at : k ≡ i = grind (arith, nat_tests, same) in at)
        | inr other ↦
            let above : k + 1 ≤ i = grind (arith, nat_tests, other, low) in
            let later = found_at (k + 1) n i above (omega (arith, high)) in
            elim (cases_Bool (is_written whole k)) [
              | inl is ↦ rw (is, other) later
              | inr is ↦ rw is later
            ]
      ]

  -- a block of these is the page
  block_is : (b : ℕ) → b < count → block_of (length whole) (stored_from 0 count) b ≡ page_of whole b
  block_is b low = ap (or_zeros (block_length (length whole) b)) (found_at 0 count b (omega arith) (omega (arith, low))) ∙ by (is_written whole b) refl
    where
      by : (r : Bool) → is_written whole b ≡ r → or_zeros (block_length (length whole) b) (if r then Some (page_of whole b) else None) ≡ page_of whole b
      by true is = refl
      by false is = ap (λ n. replicate n 0) (sym (page_length b)) ∙ sym (all_zeros (page_of whole b) is)

  blocks_joined : (k n : ℕ) → k + n ≡ count → flat_map (block_of (length whole) (stored_from 0 count)) (range_with_len k n) ≡ flat_map (page_of whole) (range_with_len k n)
  blocks_joined k zero is = refl
  blocks_joined k (suc n) is = ap (λ x. x ++ flat_map (block_of (length whole) (stored_from 0 count)) (range_with_len (k + 1) n)) (block_is k (omega (arith, is))) ∙ ap (λ rest. page_of whole k ++ rest) (blocks_joined (k + 1) n (omega (arith, is)))

  -- what is stored of some bytes are these bytes
  pub stored_again : (oid : ℕ) → bytes_of (record { oid = oid; size = length whole; stored = map (page_with_number whole) (written_pages whole) }) ≡ whole
  stored_again oid = blocks_joined 0 count (from_zero count) ∙ pages_joined 0 count (from_zero count)

  -- and keeps the rules of blocks
  blocks_from : length whole ≤ 4398046509056 → (k n : ℕ) → k + n ≡ count → AreBlocks (length whole) k (stored_from k n)
  blocks_from most k zero is = tt
  blocks_from most k (suc n) is =
      let more = blocks_from most (k + 1) n (omega (arith, is)) in
      elim (cases_Bool (is_written whole k)) [
        | inl written ↦ rw written (record { number = omega (arith, is, most); below = omega (arith, is); bytes = page_length k; written = not_zero (page_of whole k) written }, le_refl k, more)
        | inr none ↦ rw none (lower (length whole) k (k + 1) (stored_from (k + 1) n) (omega arith) more)
      ]

  pub stored_are : length whole ≤ 4398046509056 → AreBlocks (length whole) 0 (map (page_with_number whole) (written_pages whole))
  stored_are most = blocks_from most 0 count (from_zero count)
