-- The numbers of a view's objects, found one after another.
use Rattle.std.proofs.Common.{◌≡◌, ℕ, ◌+◌, ◌<◌, ◌≤◌, ◌^◌, Bool, true, false, List, [], ◌∷◌, ◌++◌, refl, sym, ap, subst, ◌∙◌, arith, append-nil, append_assoc, inl, inr, ◌⊎◌}
use Rattle.std.specs.Prelude.{◌==◌, ◌||◌, filter, nat_le}
use Rattle.std.specs.List.{list_any, AllByRecursion}
use Rattle.std.specs.List.Sorted.{IsStrictlySortedBy}
use Rattle.std.proofs.lemmas.Bool.{cases_Bool, cases_lt}
use Rattle.std.proofs.lemmas.Bool.Decides.{nat_tests}
use Rattle.std.proofs.lemmas.Cmp.{ranked}
use Rattle.std.proofs.lemmas.Map.Keys.{sorted_from_strictly_increasing}
use Rattle.std.specs.declared.cmp.Ordering.TheVariants.{Less}
use Rattle.std.specs.Ordering.{nat_cmp}
use Rattle.lo_model.specs.Edit.{Deed, Edit}
use Rattle.lo_model.specs.Listing.{has_object, oids_in}
use Rattle.lo_model.proofs.ListingLaws.{oids_are, oids_ascend}
use Rattle.lo_pages.specs.declared.pages.Pages.{Pages}
use Rattle.lo_pages.specs.Outcome.{NoneFrom, LeastFrom}
use Rattle.lo_pages.specs.Standing.{ReadsAs}
use Rattle.lo_restore.specs.Objects.{AreFit}
use Rattle.lo_restore.proofs.ObjectSaves.{from_on}
use Rattle.xact_core.specs.declared.snapshot.Snapshot.{Snapshot}
use Rattle.xact_core.specs.Transactions.{Transactions}

-- ---- ascending numbers from one on

above_all : (from k : ℕ) (ks : List ℕ) → from ≤ k + 1 → AllByRecursion (λ m. nat_cmp k m ≡ Less) ks → filter (from_on from) ks ≡ ks
above_all from k [] low all = refl
above_all from k (m ∷ ks) low all =
    let above : k < m = ranked k m Less (sym all.0) in
    let passes : nat_le from m ≡ true = grind (arith, nat_tests, above, low) in
    rw passes (ap (λ (ms : List ℕ). m ∷ ms) (above_all from k ks low all.1))

listed_above : (k o : ℕ) (ks : List ℕ) → AllByRecursion (λ m. nat_cmp k m ≡ Less) ks → list_any (λ m. m == o) ks ≡ true → k < o
listed_above k o [] all is = cc
listed_above k o (m ∷ ks) all is =
    elim (cases_Bool (m == o)) [
      | inl same ↦ let at : m ≡ o = grind (arith, nat_tests, same) in let above : k < m = ranked k m Less (sym all.0) in omega (arith, at, above)
      | inr other ↦ listed_above k o ks all.1 (rw other at is)
    ]

first_listed : (k : ℕ) (ks : List ℕ) → list_any (λ m. m == k) (k ∷ ks) ≡ true
first_listed k ks = let same : (k == k) ≡ true = grind (arith, nat_tests) in rw same refl

also_listed : (a b : Bool) → b ≡ true → (a || b) ≡ true
also_listed true b is = refl
also_listed false b is = is

fails_below : (from k : ℕ) → (from ≤ k → ⊥) → nat_le from k ≡ false
fails_below from k none = by (cases_lt k from)
  where
    by : (k < from) ⊎ (from ≤ k) → nat_le from k ≡ false
    by (inl low) = grind (arith, nat_tests, low)
    by (inr high) = absurd (none high)

-- the least of them comes first, where it is one of them
least_next : (from o : ℕ) (ks : List ℕ) → IsStrictlySortedBy nat_cmp ks → list_any (λ k. k == o) ks ≡ true → ((m : ℕ) → list_any (λ k. k == m) ks ≡ true → from ≤ m → o ≤ m) → from ≤ o → filter (from_on from) ks ≡ o ∷ filter (from_on (o + 1)) ks
unfolding IsStrictlySortedBy
least_next from o [] sorted is least low = cc
least_next from o (k ∷ ks) sorted is least low =
    elim (cases_Bool (k == o)) [
      | inl same ↦
          let at : k ≡ o = grind (arith, nat_tests, same) in
          let passes : nat_le from k ≡ true = grind (arith, nat_tests, at, low) in
          let behind : nat_le (o + 1) k ≡ false = grind (arith, nat_tests, at) in
          let all : AllByRecursion (λ m. nat_cmp o m ≡ Less) ks = subst (λ j. AllByRecursion (λ m. nat_cmp j m ≡ Less) ks) at sorted.0 in
          rw (passes, behind) (ap (λ (m : ℕ). m ∷ filter (from_on from) ks) at ∙ ap (λ (ms : List ℕ). o ∷ ms) (above_all from o ks (omega (arith, low)) all ∙ sym (above_all (o + 1) o ks (omega arith) all)))
      | inr other ↦
          let later : list_any (λ k. k == o) ks ≡ true = rw other at is in
          let below : k < o = listed_above k o ks sorted.0 later in
          let before : nat_le from k ≡ false = fails_below from k (λ high. let over = least k (first_listed k ks) high in omega (arith, over, below)) in
          let behind : nat_le (o + 1) k ≡ false = grind (arith, nat_tests, below) in
          rw (before, behind) (least_next from o ks sorted.1 later (λ m in_ks above. least m (also_listed (k == m) (list_any (λ j. j == m) ks) in_ks) above) low)
    ]

none_next : (from : ℕ) (ks : List ℕ) → ((m : ℕ) → list_any (λ k. k == m) ks ≡ true → from ≤ m → ⊥) → filter (from_on from) ks ≡ []
none_next from [] none = refl
none_next from (k ∷ ks) none =
    rw (fails_below from k (none k (first_listed k ks))) (none_next from ks (λ m in_ks above. none m (also_listed (k == m) (list_any (λ j. j == m) ks) in_ks) above))

from_zero : (ks : List ℕ) → filter (from_on 0) ks ≡ ks
from_zero [] = refl
from_zero (k ∷ ks) = (let passes : nat_le 0 k ≡ true = grind (arith, nat_tests) in rw passes (ap (λ (ms : List ℕ). k ∷ ms) (from_zero ks)))

-- ---- a view's objects

-- The numbers so far are those of a view below a number.
pub record Listing (x : Transactions) (v : Snapshot) (pages : Pages) (from : ℕ) (list : List ℕ) : Type 0 where
  pub so_far : (edits : List (Edit Deed)) → ReadsAs x v pages edits → oids_in edits ≡ list ++ filter (from_on from) (oids_in edits)

module _ (x : Transactions) (v : Snapshot) (pages : Pages) where
  pub listing_begins : Listing x v pages 0 []
  listing_begins = record { so_far = λ edits reads. sym (from_zero (oids_in edits)) }

  pub listing_next : (from o : ℕ) (list : List ℕ) → Listing x v pages from list → ((edits : List (Edit Deed)) → ReadsAs x v pages edits → LeastFrom (has_object edits) from o) → Listing x v pages (o + 1) (list ++ o ∷ [])
  listing_next from o list to least = record {
    so_far = λ edits reads.
        let here = least edits reads in
        let sorted = sorted_from_strictly_increasing (oids_in edits) (oids_ascend edits) in
        let next = least_next from o (oids_in edits) sorted (oids_are edits o ∙ here.passes) (λ m listed above. here.least m above (sym (oids_are edits m) ∙ listed)) here.low in
        to.so_far edits reads ∙ (ap (λ (ns : List ℕ). list ++ ns) next ∙ sym (append_assoc list (o ∷ []) (filter (from_on (o + 1)) (oids_in edits))));
  }

  ended : (from : ℕ) (list : List ℕ) (edits : List (Edit Deed)) → oids_in edits ≡ list ++ filter (from_on from) (oids_in edits) → filter (from_on from) (oids_in edits) ≡ [] → list ≡ oids_in edits
  ended from list edits is none = sym (is ∙ (ap (λ (ns : List ℕ). list ++ ns) none ∙ append-nil list))

  pub listing_ends : (from : ℕ) (list : List ℕ) → Listing x v pages from list → ((edits : List (Edit Deed)) → ReadsAs x v pages edits → NoneFrom (has_object edits) from) → (edits : List (Edit Deed)) → ReadsAs x v pages edits → AreFit edits → list ≡ oids_in edits
  listing_ends from list to none edits reads fit =
      ended from list edits (to.so_far edits reads) (none_next from (oids_in edits) (λ m listed above. let no : false ≡ true = sym ((none edits reads).none m above) ∙ (sym (oids_are edits m) ∙ listed) in cc))

  -- no object that is fit has a number above 2^32 - 1
  pub listing_last : (from : ℕ) (list : List ℕ) → 2 ^ 32 ≤ from → Listing x v pages from list → (edits : List (Edit Deed)) → ReadsAs x v pages edits → AreFit edits → list ≡ oids_in edits
  listing_last from list high to edits reads fit =
      ended from list edits (to.so_far edits reads) (none_next from (oids_in edits) (λ m listed above. let most = (fit m (sym (oids_are edits m) ∙ listed)).most in omega (arith, high, above, most)))
