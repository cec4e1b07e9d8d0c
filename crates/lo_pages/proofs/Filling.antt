-- What is filled from pages, page by page.
use Rattle.std.proofs.Common.{append_assoc, ◌≡◌, ℕ, zero, suc, ◌+◌, ◌-◌, ◌*◌, ◌/◌, ◌<◌, ◌≤◌, inl, inr, Bool, List, [], ◌∷◌, ◌++◌, length, take, drop, Option, Some, None, length-take, refl, ap, sym, subst, ◌∙◌, arith, length-drop}
use Rattle.std.proofs.lemmas.Grind.{same_number_lists}
use Rattle.std.proofs.Math.Seq.{take-append_seam}
use Rattle.std.proofs.lemmas.Slice.{drop-append-drop}
use borrow.Rule.Slice.PartMut.{put_mid, post_of, Post-is}
use Rattle.lo_model.specs.Object.{at_size, object_in}
use Rattle.lo_model.specs.Descriptor.{bytes_or_none}
use Rattle.std.proofs.lemmas.Bool.{cases_lt}
use Rattle.lo_model.specs.Edit.{Deed, Edit}
use Rattle.xact_core.specs.declared.snapshot.Snapshot.{Snapshot}
use Rattle.xact_core.specs.Transactions.{Transactions}
use Rattle.lo_pages.specs.declared.pages.Pages.{Pages}
use Rattle.lo_pages.specs.Standing.{ReadsAs, last_number, page_value, stores_of}
use Rattle.lo_pages.specs.Stores.{head_at, bytes_at}
use Rattle.lo_pages.specs.Object.{byte_at, bytes_from, IsObject, IsObjectAs, EndsAt}
use Rattle.lo_pages.proofs.Bytes.{at_drop, at_take, size_size, size_in}

module _ (f : ℕ → Option (List ℕ)) where
  abbrev found : ℕ → ℕ
  found i = byte_at (bytes_or_none (f (i / 2048))) (i - 2048 * (i / 2048))

  pub from_length : (at n : ℕ) → length (bytes_from f at n) ≡ n
  from_length at zero = refl
  from_length at (suc n) = ap suc (from_length (at + 1) n)

  pub from_at : (at n i : ℕ) → i < n → byte_at (bytes_from f at n) i ≡ byte_at (bytes_or_none (f ((at + i) / 2048))) ((at + i) - 2048 * ((at + i) / 2048))
  from_at at zero i less = absurd (omega (arith, less))
  from_at at (suc n) zero less = let same : at ≡ at + 0 = omega arith in ap found same
  from_at at (suc n) (suc i) less = let same : (at + 1) + i ≡ at + suc i = omega arith in from_at (at + 1) n i (omega (arith, less)) ∙ ap found same

  pub from_split : (at a b : ℕ) → bytes_from f at (a + b) ≡ bytes_from f at a ++ bytes_from f (at + a) b
  from_split at zero b = let same : at ≡ at + 0 = omega arith in let none : 0 + b ≡ b = omega arith in ap (bytes_from f at) none ∙ ap (λ (k : ℕ). bytes_from f k b) same
  from_split at (suc a) b =
      let count : suc a + b ≡ suc (a + b) = omega arith in
      let same : (at + 1) + a ≡ at + suc a = omega arith in
      ap (bytes_from f at) count ∙ ap (λ (l : List ℕ). found at ∷ l) (from_split (at + 1) a b ∙ ap (λ (k : ℕ). bytes_from f (at + 1) a ++ bytes_from f k b) same)

  -- within one page
  pub from_page : (at n : ℕ) → (at - 2048 * (at / 2048)) + n ≤ 2048 → bytes_from f at n ≡ at_size n (drop (at - 2048 * (at / 2048)) (bytes_or_none (f (at / 2048))))
  from_page at n within = same_number_lists (bytes_from f at n) (at_size n (drop (at - 2048 * (at / 2048)) (bytes_or_none (f (at / 2048))))) (from_length at n ∙ sym (size_size n (drop (at - 2048 * (at / 2048)) (bytes_or_none (f (at / 2048)))))) places
    where
      places : (i : ℕ) → i < length (bytes_from f at n) → byte_at (bytes_from f at n) i ≡ byte_at (at_size n (drop (at - 2048 * (at / 2048)) (bytes_or_none (f (at / 2048))))) i
      places i less =
          let few : i < n = omega (arith, less, from_length at n) in
          let same : (at + i) / 2048 ≡ at / 2048 = omega (arith, few, within) in
          let place : (at + i) - 2048 * (at / 2048) ≡ (at - 2048 * (at / 2048)) + i = omega arith in
          from_at at n i few
          ∙ (ap (λ (b : ℕ). byte_at (bytes_or_none (f b)) ((at + i) - 2048 * b)) same
          ∙ (ap (byte_at (bytes_or_none (f (at / 2048)))) place
          ∙ (sym (at_drop (at - 2048 * (at / 2048)) (bytes_or_none (f (at / 2048))) i)
          ∙ sym (size_in n (drop (at - 2048 * (at / 2048)) (bytes_or_none (f (at / 2048)))) i few))))

  pub fill_step : (at done end : ℕ) (old : List ℕ) → done ≤ end → end ≤ length old → bytes_from f at done ++ (bytes_from f (at + done) (end - done) ++ drop end old) ≡ bytes_from f at end ++ drop end old
  fill_step at done end old low high = let whole : done + (end - done) ≡ end = omega (arith, low) in sym (append_assoc (bytes_from f at done) (bytes_from f (at + done) (end - done)) (drop end old)) ∙ ap (λ (l : List ℕ). l ++ drop end old) (sym (from_split at done (end - done)) ∙ ap (bytes_from f at) whole)

  pub fill_put : (at done end offset number : ℕ) (out old page new : List ℕ) → done ≤ end → end ≤ length old → number ≡ (at + done) / 2048 → offset ≡ (at + done) - 2048 * ((at + done) / 2048) → offset + (end - done) ≤ 2048 → out ≡ bytes_from f at done ++ drop done old → page ≡ bytes_or_none (f number) → new ≡ at_size (end - done) (drop offset page) → put_mid done (end - done) out new ≡ bytes_from f at end ++ drop end old
  fill_put at done end offset number out old page new low high number_is offset_is within out_is page_is new_is =
      let front_length : length (bytes_from f at done) ≡ done = from_length at done in
      let front : take done out ≡ bytes_from f at done = ap (take done) out_is ∙ take_front (bytes_from f at done) (drop done old) done front_length in
      let rest : post_of done (end - done) out ≡ drop end old = Post-is done end out low ∙ (ap (drop end) out_is ∙ drop-append-drop done old (bytes_from f at done) end low front_length) in
      let at_page : (at + done) - 2048 * ((at + done) / 2048) + (end - done) ≤ 2048 = omega (arith, within, offset_is) in
      let news : new ≡ bytes_from f (at + done) (end - done) =
      new_is ∙ (ap (λ (p : List ℕ). at_size (end - done) (drop offset p)) (page_is ∙ ap (λ (b : ℕ). bytes_or_none (f b)) number_is)
      ∙ (ap (λ (k : ℕ). at_size (end - done) (drop k (bytes_or_none (f ((at + done) / 2048))))) offset_is
      ∙ sym (from_page (at + done) (end - done) at_page))) in
      ap (λ (l : List ℕ). l ++ (new ++ post_of done (end - done) out)) front
      ∙ (ap (λ (l : List ℕ). bytes_from f at done ++ (l ++ post_of done (end - done) out)) news
      ∙ (ap (λ (l : List ℕ). bytes_from f at done ++ (bytes_from f (at + done) (end - done) ++ l)) rest
      ∙ fill_step at done end old low high))
    where
      take_front : (xs ys : List ℕ) (n : ℕ) → length xs ≡ n → take n (xs ++ ys) ≡ xs
      take_front xs ys n same = subst (λ (k : ℕ). take k (xs ++ ys) ≡ xs) same (take-append_seam xs ys)

-- What pages have is what the object has.
piece_none : (f : ℕ → Option (List ℕ)) (at room n : ℕ) (bytes : List ℕ) → length bytes ≡ 0 → n ≡ length (take room (drop at bytes)) → bytes_from f at n ≡ take room (drop at bytes)
piece_none f at room n bytes none count = same_number_lists (bytes_from f at n) (take room (drop at bytes)) (from_length f at n ∙ count) (λ i less. absurd (omega (arith, less, from_length f at n, count, none, length-take room (drop at bytes), length-drop {A = ℕ} at bytes)))

piece_some : (f : ℕ → Option (List ℕ)) (at room n : ℕ) (bytes : List ℕ) → IsObject bytes f → n ≡ length (take room (drop at bytes)) → bytes_from f at n ≡ take room (drop at bytes)
piece_some f at room n bytes is count = same_number_lists (bytes_from f at n) (take room (drop at bytes)) (from_length f at n ∙ count) places
  where
    places : (i : ℕ) → i < length (bytes_from f at n) → byte_at (bytes_from f at n) i ≡ byte_at (take room (drop at bytes)) i
    places i less =
        let few : i < n = omega (arith, less, from_length f at n) in
        let fits : i < room = omega (arith, few, count, length-take room (drop at bytes)) in
        let whole : 2048 * ((at + i) / 2048) + ((at + i) - 2048 * ((at + i) / 2048)) ≡ at + i = omega arith in
        let within : (at + i) - 2048 * ((at + i) / 2048) < 2048 = omega arith in
        from_at f at n i few
        ∙ (sym (is.same ((at + i) / 2048) ((at + i) - 2048 * ((at + i) / 2048)) within)
        ∙ (ap (byte_at bytes) whole
        ∙ (sym (at_drop at bytes i)
        ∙ sym (at_take room (drop at bytes) i fits))))

piece_as : (f : ℕ → Option (List ℕ)) (at room n : ℕ) (object : Option (List ℕ)) (head : Bool) → IsObjectAs object head f → n ≡ length (take room (drop at (bytes_or_none object))) → bytes_from f at n ≡ take room (drop at (bytes_or_none object))
piece_as f at room n None head is count = piece_none f at room n [] refl count
piece_as f at room n (Some bytes) head is count = piece_some f at room n bytes is.1 count

end_as : (f : ℕ → Option (List ℕ)) (object : Option (List ℕ)) (head : Bool) → IsObjectAs object head f → ((b : ℕ) → last_number < b → f b ≡ None) → length (bytes_or_none object) ≤ 8796093022208
end_as f None head is above = omega arith
end_as f (Some bytes) head is above = elim (cases_lt 0 (length bytes)) [
  | inl some ↦ by_end (is.1.last some)
  | inr least ↦ omega (arith, least)
]
  where
    none_some : (a : List ℕ) → None ≡ Some a → ⊥
    none_some a same = grind arith

    by_end : EndsAt f (length bytes) → length bytes ≤ 8796093022208
    by_end ends = elim (cases_lt last_number ends.number) [
      | inl past ↦ absurd (none_some ends.page (sym (above ends.number past) ∙ ends.there))
      | inr low ↦
          let own : length ends.page ≤ 2048 = subst (λ (o : Option (List ℕ)). length (bytes_or_none o) ≤ 2048) ends.there (is.1.small ends.number) in
          omega (arith, ends.end, own, low)
    ]

module _ (x : Transactions) (v : Snapshot) (pages : Pages) (edits : List (Edit Deed)) (reads : ReadsAs x v pages edits) (o : ℕ) where
  pub piece_is : (at room n : ℕ) → n ≡ length (take room (drop at (bytes_or_none (object_in o edits)))) → bytes_from (bytes_at page_value x v (stores_of pages) o) at n ≡ take room (drop at (bytes_or_none (object_in o edits)))
  piece_is at room n count = piece_as (bytes_at page_value x v (stores_of pages) o) at room n (object_in o edits) (head_at x v (stores_of pages) o) (reads.object o) count

  pub end_is : length (bytes_or_none (object_in o edits)) ≤ 8796093022208
  end_is = end_as (bytes_at page_value x v (stores_of pages) o) (object_in o edits) (head_at x v (stores_of pages) o) (reads.object o) (reads.above o)
