-- The search for the next page that has a byte other than 0.
use Rattle.std.proofs.Common.{◌≡◌, ℕ, zero, suc, ◌+◌, ◌*◌, ◌<◌, ◌≤◌, ◌⊎◌, inl, inr, Bool, true, false, List, [], ◌∷◌, length, drop, Option, Some, None, refl, ap, sym, subst, ◌∙◌, arith}
use Rattle.std.specs.Prelude.{is_some, ◌==◌}
use Rattle.std.specs.List.{list_any}
use Rattle.std.proofs.lemmas.Bool.{false≢true, cases_lt}
use Rattle.std.proofs.lemmas.Bool.Decides.{nat_tests}
use Rattle.std.proofs.lemmas.List.{length-take}
use Rattle.lo_model.specs.Descriptor.{bytes_or_none}
use Rattle.lo_model.specs.Edit.{Deed, Edit}
use Rattle.lo_model.specs.Object.{object_in}
use Rattle.xact_core.specs.declared.snapshot.Snapshot.{Snapshot}
use Rattle.xact_core.specs.Transactions.{Transactions}
use Rattle.lo_pages.specs.declared.pages.Pages.{Pages}
use Rattle.lo_pages.specs.Object.{IsObjectAs, byte_at}
use Rattle.lo_pages.specs.Outcome.{page_of, is_byte, has_bytes, NoneFrom, LeastFrom}
use Rattle.lo_pages.specs.Standing.{ReadsAs, has_page, last_number, page_value, stores_of}
use Rattle.lo_pages.specs.Stores.{head_at, bytes_at}
use Rattle.lo_pages.proofs.Bytes.{at_past, at_take, at_drop}

-- bytes alike at each place have a byte other than 0 alike

none_zeros : (xs : List ℕ) → ((i : ℕ) → byte_at xs i ≡ 0) → list_any is_byte xs ≡ false
none_zeros [] zeros = refl
none_zeros (x ∷ xs) zeros = let first : x ≡ 0 = zeros 0 in rw first (none_zeros xs (λ i. zeros (suc i)))

zeros_none : (xs : List ℕ) → list_any is_byte xs ≡ false → (i : ℕ) → byte_at xs i ≡ 0
zeros_none [] none i = at_past [] i (omega arith)
zeros_none (zero ∷ xs) none zero = refl
zeros_none (zero ∷ xs) none (suc i) = zeros_none xs none i
zeros_none (suc n ∷ xs) none i = absurd (false≢true (sym none ∙ some))
  where
    some : list_any is_byte (suc n ∷ xs) ≡ true
    some = let apart : ((suc n) == 0) ≡ false = grind (arith, nat_tests) in rw apart refl

same_any : (xs ys : List ℕ) → ((i : ℕ) → byte_at xs i ≡ byte_at ys i) → list_any is_byte xs ≡ list_any is_byte ys
same_any xs ys same = by_tests (list_any is_byte xs) (list_any is_byte ys) refl refl
  where
    by_tests : (s t : Bool) → list_any is_byte xs ≡ s → list_any is_byte ys ≡ t → list_any is_byte xs ≡ list_any is_byte ys
    by_tests false t at there = at ∙ sym (none_zeros ys (λ i. sym (same i) ∙ zeros_none xs at i))
    by_tests true true at there = at ∙ sym there
    by_tests true false at there = none_zeros xs (λ i. same i ∙ zeros_none ys there i) ∙ sym there

-- an object has a byte other than 0 in a page where what is found of the page does

module _ (x : Transactions) (v : Snapshot) (pages : Pages) (o : ℕ) where
  abbrev found : ℕ → List ℕ
  found b = bytes_or_none (bytes_at page_value x v (stores_of pages) o b)

  abbrev test : List (Edit Deed) → ℕ → Bool
  test edits b = has_bytes (bytes_or_none (object_in o edits)) b

  page_past : (bytes : List ℕ) (b i : ℕ) → 2048 ≤ i → byte_at (page_of b bytes) i ≡ 0
  page_past bytes b i past = at_past (page_of b bytes) i (omega (arith, past, length-take 2048 (drop (2048 * b) bytes)))

  pub test_is : (edits : List (Edit Deed)) → ReadsAs x v pages edits → (b : ℕ) → has_bytes (bytes_or_none (object_in o edits)) b ≡ list_any is_byte (bytes_or_none (bytes_at page_value x v (stores_of pages) o b))
  test_is edits reads b = same_any (page_of b (bytes_or_none (object_in o edits))) (found b) (by_object (object_in o edits) (reads.object o))
    where
      by_object : (object : Option (List ℕ)) → IsObjectAs object (head_at x v (stores_of pages) o) (bytes_at page_value x v (stores_of pages) o) → (i : ℕ) → byte_at (page_of b (bytes_or_none object)) i ≡ byte_at (found b) i
      by_object None is i = nothing ∙ sym (ap (λ (p : Option (List ℕ)). byte_at (bytes_or_none p) i) (reads.absent o b is) ∙ at_past [] i (omega arith))
        where
          nothing : byte_at (page_of b []) i ≡ 0
          nothing = elim (cases_lt i 2048) [
            | inl less ↦ at_take 2048 (drop (2048 * b) []) i less ∙ (at_drop (2048 * b) [] i ∙ at_past [] (2048 * b + i) (omega arith))
            | inr past ↦ page_past [] b i past
          ]
      by_object (Some bytes) is i = elim (cases_lt i 2048) [
        | inl less ↦ at_take 2048 (drop (2048 * b) bytes) i less ∙ (at_drop (2048 * b) bytes i ∙ is.1.same b i less)
        | inr past ↦ page_past bytes b i past ∙ sym (at_past (found b) i (let small : length (found b) ≤ 2048 = is.1.small b in omega (arith, small, past)))
      ]

  no_bytes : (b : ℕ) → bytes_at page_value x v (stores_of pages) o b ≡ None → list_any is_byte (found b) ≡ false
  no_bytes b none = ap (λ (p : Option (List ℕ)). list_any is_byte (bytes_or_none p)) none

  no_page : (b : ℕ) → has_page x v pages o b ≡ false → list_any is_byte (found b) ≡ false
  no_page b none = no_bytes b (none_is (bytes_at page_value x v (stores_of pages) o b) none)
    where
      none_is : (f : Option (List ℕ)) → is_some f ≡ false → f ≡ None
      none_is None is = refl
      none_is (Some bytes) is = absurd (false≢true (sym is))

  -- no page has a byte other than 0 from one on and below another
  abbrev pub NoneTo : (first from : ℕ) → Type 0
  NoneTo first from = (edits : List (Edit Deed)) → ReadsAs x v pages edits → (n : ℕ) → first ≤ n → n < from → has_bytes (bytes_or_none (object_in o edits)) n ≡ false

  pub block_none : (first from : ℕ) → NoneTo first from → NoneFrom (has_page x v pages o) from → (edits : List (Edit Deed)) → ReadsAs x v pages edits → NoneFrom (has_bytes (bytes_or_none (object_in o edits))) first
  block_none first from none rest edits reads = record { none = λ n low. by_place n low (cases_lt n from) }
    where
      by_place : (n : ℕ) → first ≤ n → (n < from) ⊎ (from ≤ n) → has_bytes (bytes_or_none (object_in o edits)) n ≡ false
      by_place n low (inl less) = none edits reads n low less
      by_place n low (inr more) = test_is edits reads n ∙ no_page n (rest.none n more)

  none_below : (first from number : ℕ) → NoneTo first from → LeastFrom (has_page x v pages o) from number → NoneTo first number
  none_below first from number none least edits reads n low less = by_place (cases_lt n from)
    where
      by_found : from ≤ n → (t : Bool) → has_page x v pages o n ≡ t → has_bytes (bytes_or_none (object_in o edits)) n ≡ false
      by_found more false is = test_is edits reads n ∙ no_page n is
      by_found more true is = let most : number ≤ n = least.least n more is in absurd (omega (arith, most, less))

      by_place : (n < from) ⊎ (from ≤ n) → has_bytes (bytes_or_none (object_in o edits)) n ≡ false
      by_place (inl below) = none edits reads n low below
      by_place (inr more) = by_found more (has_page x v pages o n) refl

  pub block_least : (first from number : ℕ) → first ≤ from → NoneTo first from → LeastFrom (has_page x v pages o) from number → list_any is_byte (bytes_or_none (bytes_at page_value x v (stores_of pages) o number)) ≡ true → (edits : List (Edit Deed)) → ReadsAs x v pages edits → LeastFrom (has_bytes (bytes_or_none (object_in o edits))) first number
  block_least first from number order none least some edits reads = record {
    low = (let more : from ≤ number = least.low in omega (arith, more, order));
    passes = test_is edits reads number ∙ some;
    least = λ other low there. by_place other low there (cases_lt other number);
  }
    where
      by_place : (other : ℕ) → first ≤ other → has_bytes (bytes_or_none (object_in o edits)) other ≡ true → (other < number) ⊎ (number ≤ other) → number ≤ other
      by_place other low there (inl less) = absurd (false≢true (sym (none_below first from number none least edits reads other low less) ∙ there))
      by_place other low there (inr most) = most

  pub block_step : (first from number : ℕ) → NoneTo first from → LeastFrom (has_page x v pages o) from number → list_any is_byte (bytes_or_none (bytes_at page_value x v (stores_of pages) o number)) ≡ false → NoneTo first (number + 1)
  block_step first from number none least zeros edits reads n low less = by_place (cases_lt n number)
    where
      by_place : (n < number) ⊎ (number ≤ n) → has_bytes (bytes_or_none (object_in o edits)) n ≡ false
      by_place (inl below) = none_below first from number none least edits reads n low below
      by_place (inr most) = let same : number ≡ n = omega (arith, most, less) in subst (λ (b : ℕ). has_bytes (bytes_or_none (object_in o edits)) b ≡ false) same (test_is edits reads number ∙ zeros)

  pub block_last : (first next : ℕ) → last_number < next → NoneTo first next → (edits : List (Edit Deed)) → ReadsAs x v pages edits → NoneFrom (has_bytes (bytes_or_none (object_in o edits))) first
  block_last first next far none edits reads = record { none = λ n low. by_place n low (cases_lt n next) }
    where
      by_place : (n : ℕ) → first ≤ n → (n < next) ⊎ (next ≤ n) → has_bytes (bytes_or_none (object_in o edits)) n ≡ false
      by_place n low (inl less) = none edits reads n low less
      by_place n low (inr more) = test_is edits reads n ∙ no_bytes n (reads.above o n (omega (arith, far, more)))
