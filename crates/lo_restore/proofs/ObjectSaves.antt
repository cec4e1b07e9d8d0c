-- Objects that are read out of a view: of each its blocks in order, and of the view each object in order.
use Rattle.std.proofs.Common.{◌≡◌, ℕ, zero, suc, ◌+◌, ◌-◌, ◌*◌, ◌<◌, ◌≤◌, ◌^◌, Bool, true, false, ◌==◌, ◌||◌, List, [], ◌∷◌, ◌++◌, length, take, refl, sym, ap, subst, ◌∙◌, arith, append-nil, append_assoc, inl, inr, ◌⊎◌}
use Rattle.std.specs.Prelude.{map, filter, not, nat_le}
use Rattle.std.specs.List.{list_any, range_with_len, AllByRecursion}
use Rattle.std.specs.List.Sorted.{IsStrictlySortedBy}
use Rattle.std.proofs.lemmas.Bool.{cases_Bool, cases_lt}
use Rattle.std.proofs.lemmas.Bool.Decides.{nat_tests}
use Rattle.std.proofs.lemmas.Cmp.{ranked}
use Rattle.std.proofs.lemmas.Map.Keys.{sorted_from_strictly_increasing}
use Rattle.std.specs.declared.cmp.Ordering.TheVariants.{Less}
use Rattle.std.specs.Ordering.{nat_cmp}
use Rattle.std.proofs.lemmas.List.{map-append, length-map}
use Rattle.std.proofs.Math.ListN.{drop_of_length-le}
use Rattle.lo_model.specs.Descriptor.{bytes_or_none}
use Rattle.lo_model.specs.Edit.{Deed, Edit}
use Rattle.lo_model.specs.Listing.{has_object, oids_in}
use Rattle.lo_model.specs.Object.{object_in}
use Rattle.lo_model.specs.Opening.{ObjectBytes, is_written, written_pages}
use Rattle.lo_model.proofs.ListingLaws.{oids_are, oids_ascend}
use Rattle.lo_opening.specs.declared.opening.ObjectData.{ObjectData}
use Rattle.lo_opening.specs.Meaning.{object_of, page_with_number, stored_of}
use Rattle.lo_opening.specs.Opening.{IsObject, AreObjects, blocks_below, blocks_held}
use Rattle.lo_opening.proofs.BlockLaws.{stored_again, stored_are}
use Rattle.lo_pages.specs.declared.pages.Pages.{Pages}
use Rattle.lo_pages.specs.Outcome.{has_bytes, NoneFrom, LeastFrom}
use Rattle.lo_pages.specs.Standing.{ReadsAs}
use Rattle.lo_pages.proofs.Filling.{end_is}
use Rattle.lo_restore.specs.Objects.{IsFit, AreFit, AreSaved, Reads, object_at, objects_at}
use Rattle.xact_core.specs.declared.snapshot.Snapshot.{Snapshot}
use Rattle.xact_core.specs.Transactions.{Transactions}

-- ---- numbers that pass a test, in order

none_pass : (test : ℕ → Bool) (k n : ℕ) → NoneFrom test k → filter test (range_with_len k n) ≡ []
none_pass test k zero none = refl
none_pass test k (suc n) none = rw (none.none k (le_same k)) (none_pass test (k + 1) n (record { none = λ m above. none.none m (omega (arith, above)) }))
  where
    le_same : (k : ℕ) → k ≤ k
    le_same k = omega arith

-- numbers between that do not pass are left out
passed_by : (test : ℕ → Bool) (k n m : ℕ) → k ≤ m → m < k + n → ((i : ℕ) → k ≤ i → i < m → test i ≡ false) → filter test (range_with_len k n) ≡ filter test (range_with_len m (k + n - m))
passed_by test k zero m low high fails = absurd (omega (arith, low, high))
passed_by test k (suc n) m low high fails =
    elim (cases_Bool (k == m)) [
      | inl same ↦
          let at : k ≡ m = grind (arith, nat_tests, same) in
          subst (λ j. filter test (range_with_len k (suc n)) ≡ filter test (range_with_len j (k + suc n - j))) at (ap (λ count. filter test (range_with_len k count)) (let all : suc n ≡ k + suc n - k = omega arith in all))
      | inr other ↦
          let above : k + 1 ≤ m = grind (arith, nat_tests, other, low) in
          let none : test k ≡ false = fails k (omega arith) (omega (arith, above)) in
          rw none (passed_by test (k + 1) n m above (omega (arith, high)) (λ i from to. fails i (omega (arith, from)) to) ∙ ap (λ count. filter test (range_with_len m count)) (let all : k + 1 + n - m ≡ k + suc n - m = omega arith in all))
    ]

least_passes : (test : ℕ → Bool) (k n m : ℕ) → m < k + n → LeastFrom test k m → filter test (range_with_len k n) ≡ m ∷ filter test (range_with_len (m + 1) (k + n - (m + 1)))
least_passes test k n m high least =
    passed_by test k n m least.low high (λ i from to. below i from to (cases_Bool (test i)))
    ∙ first (k + n - m) (k + n - (m + 1)) (omega (arith, high))
  where
    below : (i : ℕ) → k ≤ i → i < m → (test i ≡ true) ⊎ (test i ≡ false) → test i ≡ false
    below i from to (inl passes) = absurd (let low = least.least i from passes in omega (arith, low, to))
    below i from to (inr fails) = fails

    first : (count rest : ℕ) → count ≡ suc rest → filter test (range_with_len m count) ≡ m ∷ filter test (range_with_len (m + 1) rest)
    first count rest is = rw (is, least.passes) refl

-- ---- an object's blocks

-- where a page has a byte other than 0, it is one of the object's
page_below : (whole : List ℕ) (b : ℕ) → has_bytes whole b ≡ true → 2048 * b < length whole
page_below whole b has = by (cases_lt (2048 * b) (length whole))
  where
    by : (2048 * b < length whole) ⊎ (length whole ≤ 2048 * b) → 2048 * b < length whole
    by (inl low) = low
    by (inr high) = absurd (let none : list_any (λ n. not (n == 0)) (take 2048 []) ≡ true = subst (λ (rest : List ℕ). list_any (λ n. not (n == 0)) (take 2048 rest) ≡ true) (drop_of_length-le whole high) has in cc)

-- what is stored of an object from a page on
abbrev pub rest_of : (whole : List ℕ) → (from : ℕ) → List (ℕ × List ℕ)
rest_of whole from = map (page_with_number whole) (filter (is_written whole) (range_with_len from (blocks_below (length whole) - from)))

-- The blocks so far are those of an object's pages below a number.
pub record Collecting (x : Transactions) (v : Snapshot) (pages : Pages) (o from : ℕ) (blocks : List (ℕ × List ℕ)) : Type 0 where
  pub so_far : (edits : List (Edit Deed)) → ReadsAs x v pages edits → stored_of (bytes_or_none (object_in o edits)) ≡ blocks ++ rest_of (bytes_or_none (object_in o edits)) from

module _ (x : Transactions) (v : Snapshot) (pages : Pages) (o : ℕ) where
  abbrev whole_of : List (Edit Deed) → List ℕ
  whole_of edits = bytes_or_none (object_in o edits)

  pub collecting_start : Collecting x v pages o 0 []
  collecting_start = record { so_far = λ edits reads. ap (λ n. map (page_with_number (whole_of edits)) (filter (is_written (whole_of edits)) (range_with_len 0 n))) (let all : blocks_below (length (whole_of edits)) ≡ blocks_below (length (whole_of edits)) - 0 = omega arith in all) }

  pub collecting_step : (from b : ℕ) (blocks : List (ℕ × List ℕ)) (found : ℕ × List ℕ) → Collecting x v pages o from blocks → ((edits : List (Edit Deed)) → ReadsAs x v pages edits → LeastFrom (has_bytes (whole_of edits)) from b) → ((edits : List (Edit Deed)) → ReadsAs x v pages edits → found ≡ page_with_number (whole_of edits) b) → Collecting x v pages o (b + 1) (blocks ++ found ∷ [])
  collecting_step from b blocks found to least is = record {
    so_far = λ edits reads.
        let whole : List ℕ = whole_of edits in
        let here = least edits reads in
        let below : 2048 * b < length whole = page_below whole b here.passes in
        let low = here.low in
        let count : from + (blocks_below (length whole) - from) - (b + 1) ≡ blocks_below (length whole) - (b + 1) = omega (arith, below, low) in
        let next : rest_of whole from ≡ found ∷ rest_of whole (b + 1) =
        ap (map (page_with_number whole)) (least_passes (is_written whole) from (blocks_below (length whole) - from) b (omega (arith, below, low)) here)
        ∙ (ap (λ (m : ℕ × List ℕ). m ∷ map (page_with_number whole) (filter (is_written whole) (range_with_len (b + 1) (from + (blocks_below (length whole) - from) - (b + 1))))) (sym (is edits reads))
        ∙ ap (λ n. found ∷ map (page_with_number whole) (filter (is_written whole) (range_with_len (b + 1) n))) count) in
        to.so_far edits reads ∙ (ap (λ rest. blocks ++ rest) next ∙ sym (append_assoc blocks (found ∷ []) (rest_of whole (b + 1))));
  }

  pub collecting_end : (from : ℕ) (blocks : List (ℕ × List ℕ)) → Collecting x v pages o from blocks → ((edits : List (Edit Deed)) → ReadsAs x v pages edits → NoneFrom (has_bytes (whole_of edits)) from) → (edits : List (Edit Deed)) → ReadsAs x v pages edits → blocks ≡ stored_of (whole_of edits)
  collecting_end from blocks to none edits reads =
      sym (to.so_far edits reads ∙ (ap (λ ns. blocks ++ map (page_with_number (whole_of edits)) ns) (none_pass (is_written (whole_of edits)) from (blocks_below (length (whole_of edits)) - from) (none edits reads)) ∙ append-nil blocks))

  -- no page has a number above 2^32 - 1
  pub collecting_last : (from : ℕ) (blocks : List (ℕ × List ℕ)) → 2 ^ 32 ≤ from → Collecting x v pages o from blocks → (edits : List (Edit Deed)) → ReadsAs x v pages edits → blocks ≡ stored_of (whole_of edits)
  collecting_last from blocks high to edits reads =
      let small : length (whole_of edits) ≤ 8796093022208 = end_is x v pages edits reads o in
      let none : blocks_below (length (whole_of edits)) - from ≡ 0 = omega (arith, small, high) in
      sym (to.so_far edits reads ∙ (ap (λ n. blocks ++ map (page_with_number (whole_of edits)) (filter (is_written (whole_of edits)) (range_with_len from n))) none ∙ append-nil blocks))

-- of bytes that pages can hold at most 2^32 blocks are stored
few_kept : (test : ℕ → Bool) (k n : ℕ) → length (filter test (range_with_len k n)) ≤ n
few_kept test k zero = omega arith
few_kept test k (suc n) =
    let more = few_kept test (k + 1) n in
    elim (cases_Bool (test k)) [
      | inl is ↦ rw is (omega (arith, more))
      | inr is ↦ rw is (omega (arith, more))
    ]

pub few_stored : (whole : List ℕ) → length whole ≤ 8796093022208 → length (stored_of whole) ≤ 2 ^ 32
few_stored whole small =
    let few = few_kept (is_written whole) 0 (blocks_below (length whole)) in
    let same = length-map (written_pages whole) (page_with_number whole) in
    omega (arith, few, same, small)

-- ---- numbers of a view's objects, in order

abbrev pub from_on : ℕ → ℕ → Bool
from_on from o = nat_le from o

lt_from_nat_cmp : (a b : ℕ) → nat_cmp a b ≡ Less → a < b
lt_from_nat_cmp a b is = ranked a b Less (sym is)

all_above : (from o : ℕ) (ks : List ℕ) → from ≤ o + 1 → AllByRecursion (λ m. nat_cmp o m ≡ Less) ks → filter (from_on from) ks ≡ ks
all_above from o [] low all = refl
all_above from o (k ∷ ks) low all =
    let above : o < k = lt_from_nat_cmp o k all.0 in
    let passes : nat_le from k ≡ true = grind (arith, nat_tests, above, low) in
    rw passes (ap (λ (ms : List ℕ). k ∷ ms) (all_above from o ks low all.1))

above_of : (k o : ℕ) (ks : List ℕ) → AllByRecursion (λ m. nat_cmp k m ≡ Less) ks → list_any (λ m. m == o) ks ≡ true → k < o
above_of k o [] all is = cc
above_of k o (m ∷ ms) all is =
    elim (cases_Bool (m == o)) [
      | inl same ↦ let at : m ≡ o = grind (arith, nat_tests, same) in let above : k < m = lt_from_nat_cmp k m all.0 in omega (arith, at, above)
      | inr other ↦ above_of k o ms all.1 (rw other at is)
    ]

either : (a b : Bool) → b ≡ true → (a || b) ≡ true
either true b is = refl
either false b is = is

not_from : (from k : ℕ) → (from ≤ k → ⊥) → nat_le from k ≡ false
not_from from k none = by (cases_lt k from)
  where
    by : (k < from) ⊎ (from ≤ k) → nat_le from k ≡ false
    by (inl low) = grind (arith, nat_tests, low)
    by (inr high) = absurd (none high)

-- the least one from a number on comes first
least_first : (from o : ℕ) (xs : List ℕ) → IsStrictlySortedBy nat_cmp xs → list_any (λ k. k == o) xs ≡ true → ((m : ℕ) → list_any (λ k. k == m) xs ≡ true → from ≤ m → o ≤ m) → from ≤ o → filter (from_on from) xs ≡ o ∷ filter (from_on (o + 1)) xs
unfolding IsStrictlySortedBy
least_first from o [] sorted is least low = cc
least_first from o (k ∷ ks) sorted is least low =
    elim (cases_Bool (k == o)) [
      | inl same ↦
          let at : k ≡ o = grind (arith, nat_tests, same) in
          let passes : nat_le from k ≡ true = grind (arith, nat_tests, at, low) in
          let behind : nat_le (o + 1) k ≡ false = grind (arith, nat_tests, at) in
          let all : AllByRecursion (λ m. nat_cmp o m ≡ Less) ks = subst (λ j. AllByRecursion (λ m. nat_cmp j m ≡ Less) ks) at sorted.0 in
          rw (passes, behind) (ap (λ (m : ℕ). m ∷ filter (from_on from) ks) at ∙ ap (λ (ms : List ℕ). o ∷ ms) (all_above from o ks (omega (arith, low)) all ∙ sym (all_above (o + 1) o ks (omega arith) all)))
      | inr other ↦
          let later : list_any (λ k. k == o) ks ≡ true = rw other at is in
          let below : k < o = above_of k o ks sorted.0 later in
          let mine : list_any (λ j. j == k) (k ∷ ks) ≡ true = (let same : (k == k) ≡ true = grind (arith, nat_tests) in rw same refl) in
          let before : nat_le from k ≡ false = not_from from k (λ high. let over = least k mine high in omega (arith, over, below)) in
          let behind : nat_le (o + 1) k ≡ false = grind (arith, nat_tests, below) in
          rw (before, behind) (least_first from o ks sorted.1 later (λ m in_ks above. least m (either (k == m) (list_any (λ j. j == m) ks) in_ks) above) low)
    ]

none_left : (from : ℕ) (xs : List ℕ) → ((m : ℕ) → list_any (λ k. k == m) xs ≡ true → from ≤ m → ⊥) → filter (from_on from) xs ≡ []
none_left from [] none = refl
none_left from (k ∷ ks) none =
    let mine : list_any (λ j. j == k) (k ∷ ks) ≡ true = (let same : (k == k) ≡ true = grind (arith, nat_tests) in rw same refl) in
    rw (not_from from k (none k mine)) (none_left from ks (λ m in_ks above. none m (either (k == m) (list_any (λ j. j == m) ks) in_ks) above))

all_from : (xs : List ℕ) → filter (from_on 0) xs ≡ xs
all_from [] = refl
all_from (k ∷ ks) = (let passes : nat_le 0 k ≡ true = grind (arith, nat_tests) in rw passes (ap (λ (ms : List ℕ). k ∷ ms) (all_from ks)))

-- ---- a view's objects

-- The objects so far are those of a view below a number.
pub record Gathering (x : Transactions) (v : Snapshot) (pages : Pages) (first from held : ℕ) (os : List ObjectData) : Type 0 where
  pub few : held < 2 ^ 32
  pub so_far : (edits : List (Edit Deed)) → ReadsAs x v pages edits → AreFit edits → objects_at edits ≡ map object_of os ++ map (object_at edits) (filter (from_on from) (oids_in edits))
  pub rules : (edits : List (Edit Deed)) → ReadsAs x v pages edits → AreFit edits → (rest : List ObjectData) → AreObjects from held rest → AreObjects 0 first (os ++ rest)

-- an object is what a view reads under a number
abbrev pub IsSavedAt : Transactions → Snapshot → Pages → ℕ → ObjectData → Type 0
IsSavedAt x v pages o found = (edits : List (Edit Deed)) → ReadsAs x v pages edits → found ≡ record { oid = o; size = length (bytes_or_none (object_in o edits)); stored = stored_of (bytes_or_none (object_in o edits)) }

module _ (x : Transactions) (v : Snapshot) (pages : Pages) where
  pub few_blocks : (o : ℕ) (found : ObjectData) → Reads x v pages → IsSavedAt x v pages o found → length found.stored ≤ 2 ^ 32
  few_blocks o found reads is = subst (λ (f : ObjectData). length f.stored ≤ 2 ^ 32) (sym (is reads.edits reads.reads)) (few_stored (bytes_or_none (object_in o reads.edits)) (end_is x v pages reads.edits reads.reads o))

  pub gathering_start : (held : ℕ) → held < 2 ^ 32 → Gathering x v pages held 0 held []
  gathering_start held few = record { few = few; so_far = λ edits reads fit. ap (map (object_at edits)) (sym (all_from (oids_in edits))); rules = λ edits reads fit rest are. are }

  object_is : (held o : ℕ) (edits : List (Edit Deed)) → IsFit edits o → (found : ObjectData) → found ≡ record { oid = o; size = length (bytes_or_none (object_in o edits)); stored = stored_of (bytes_or_none (object_in o edits)) } → held + blocks_held found < 2 ^ 32 → IsObject held found
  object_is held o edits fit found is fits =
      let whole : List ℕ = bytes_or_none (object_in o edits) in
      subst (IsObject held) (sym is) (record {
        least = fit.least;
        most = fit.most;
        size = fit.size;
        stored = stored_are whole fit.size;
        fits = subst (λ f. held + blocks_held f < 2 ^ 32) is fits;
      })

  pub gathering_step : (first from held o sum : ℕ) (os : List ObjectData) (found : ObjectData) → Gathering x v pages first from held os → ((edits : List (Edit Deed)) → ReadsAs x v pages edits → LeastFrom (has_object edits) from o) → IsSavedAt x v pages o found → sum ≡ held + blocks_held found → sum < 2 ^ 32 → Gathering x v pages first (o + 1) sum (os ++ found ∷ [])
  gathering_step first from held o sum os found to least is total few = record {
    few = few;
    so_far = λ edits read fit.
        let here = least edits read in
        let sorted = sorted_from_strictly_increasing (oids_in edits) (oids_ascend edits) in
        let next = least_first from o (oids_in edits) sorted (oids_are edits o ∙ here.passes) (λ m listed above. here.least m above (sym (oids_are edits m) ∙ listed)) here.low in
        let one : object_of found ≡ object_at edits o = ap object_of (is edits read) ∙ ap (λ bytes. record { oid = o; bytes = bytes }) (stored_again (bytes_or_none (object_in o edits)) o) in
        to.so_far edits read fit
        ∙ (ap (λ ns. map object_of os ++ map (object_at edits) ns) next
        ∙ (ap (λ (m : ObjectBytes). map object_of os ++ m ∷ map (object_at edits) (filter (from_on (o + 1)) (oids_in edits))) (sym one)
        ∙ (sym (append_assoc (map object_of os) (object_of found ∷ []) (map (object_at edits) (filter (from_on (o + 1)) (oids_in edits))))
        ∙ ap (λ front. front ++ map (object_at edits) (filter (from_on (o + 1)) (oids_in edits))) (sym (map-append object_of os (found ∷ []))))));
    rules = λ edits read fit rest are.
        let here = least edits read in
        let own : found.oid ≡ o = ap (λ (f : ObjectData). f.oid) (is edits read) in
        let object : IsObject held found = object_is held o edits (fit o here.passes) found (is edits read) (omega (arith, total, few)) in
        let low : from ≤ found.oid = (let at = here.low in omega (arith, own, at)) in
        let more : AreObjects (found.oid + 1) (held + blocks_held found) rest = subst (λ n. AreObjects (found.oid + 1) n rest) total (subst (λ n. AreObjects (n + 1) sum rest) (sym own) are) in
        subst (AreObjects 0 first) (sym (append_assoc os (found ∷ []) rest)) (to.rules edits read fit (found ∷ rest) (object, low, more));
  }

  ruled : (first from held : ℕ) (os : List ObjectData) → Gathering x v pages first from held os → (edits : List (Edit Deed)) → ReadsAs x v pages edits → AreFit edits → AreObjects 0 first os
  ruled first from held os to edits read fit = subst (AreObjects 0 first) (append-nil os) (to.rules edits read fit [] tt)

  ended : (from : ℕ) (os : List ObjectData) (edits : List (Edit Deed)) → objects_at edits ≡ map object_of os ++ map (object_at edits) (filter (from_on from) (oids_in edits)) → filter (from_on from) (oids_in edits) ≡ [] → map object_of os ≡ objects_at edits
  ended from os edits is none = sym (is ∙ (ap (λ ns. map object_of os ++ map (object_at edits) ns) none ∙ append-nil (map object_of os)))

  pub gathering_end : (first from held : ℕ) (os : List ObjectData) → Gathering x v pages first from held os → ((edits : List (Edit Deed)) → ReadsAs x v pages edits → NoneFrom (has_object edits) from) → AreSaved x v pages first os
  gathering_end first from held os to none = record {
    same = λ edits read fit. ended from os edits (to.so_far edits read fit) (none_left from (oids_in edits) (λ m listed above. let no : false ≡ true = sym ((none edits read).none m above) ∙ (sym (oids_are edits m) ∙ listed) in cc));
    rules = ruled first from held os to;
  }

  -- no object that is fit has a number above 2^32 - 1
  pub gathering_last : (first from held : ℕ) (os : List ObjectData) → 2 ^ 32 ≤ from → Gathering x v pages first from held os → AreSaved x v pages first os
  gathering_last first from held os high to = record {
    same = λ edits read fit. ended from os edits (to.so_far edits read fit) (none_left from (oids_in edits) (λ m listed above. let most = (fit m (sym (oids_are edits m) ∙ listed)).most in omega (arith, high, above, most)));
    rules = ruled first from held os to;
  }

-- a number of 32 bits that has no next one
pub top : (n : ℕ) → (n + 1 < 4294967296 → ⊥) → 2 ^ 32 ≤ n + 1
top n full = by (cases_lt (n + 1) 4294967296)
  where
    by : (n + 1 < 4294967296) ⊎ (4294967296 ≤ n + 1) → 2 ^ 32 ≤ n + 1
    by (inl less) = absurd (full less)
    by (inr more) = omega (arith, more)
