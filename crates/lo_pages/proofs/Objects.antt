-- Pages stand for the bytes of an object through each deed.
use Rattle.std.proofs.Common.{◌≡◌, ℕ, ◌+◌, ◌-◌, ◌*◌, ◌/◌, ◌<◌, ◌≤◌, inl, inr, ◌⊎◌, true, false, List, [], length, Option, Some, None, refl, ap, sym, subst, ◌∙◌, arith}
use Rattle.std.specs.Prelude.{max, min, nat_lt, if◌then◌else◌}
use Rattle.std.proofs.lemmas.Bool.{cases_lt}
use Rattle.std.proofs.lemmas.Bool.Decides.{nat_tests}
use Rattle.lo_model.specs.Object.{at_size, laid_over}
use Rattle.lo_model.specs.Descriptor.{bytes_or_none}
use Rattle.lo_pages.specs.Object.{byte_at, EndsAt, IsObject}
use Rattle.lo_pages.specs.Content.{piece_of, is_written}
use Rattle.lo_pages.proofs.Bytes.{at_past, size_size, size_in, size_out, length_laid, laid_before, laid_in, laid_after, length_piece, at_piece}

-- a page after deeds, without its clock
abbrev pub written_bytes : (number at : ℕ) → List ℕ → Option (List ℕ) → Option (List ℕ)
written_bytes b at new old = if is_written b at (length new) then Some (laid_over (at - 2048 * b) (piece_of b at new) (bytes_or_none old)) else old

abbrev pub cut_bytes : (number size : ℕ) → Option (List ℕ) → Option (List ℕ)
cut_bytes b n old = if nat_lt n (2048 * b) then None else (if nat_lt n (2048 * b + 2048) then Some (at_size (n - 2048 * b) (bytes_or_none old)) else old)

cut_above : (b n : ℕ) (old : Option (List ℕ)) → n < 2048 * b → cut_bytes b n old ≡ None
cut_above b n old less = let is : nat_lt n (2048 * b) ≡ true = grind (arith, nat_tests, less) in rw is refl

cut_here : (b n : ℕ) (old : Option (List ℕ)) → 2048 * b ≤ n → n < 2048 * b + 2048 → cut_bytes b n old ≡ Some (at_size (n - 2048 * b) (bytes_or_none old))
cut_here b n old low less =
    let is : nat_lt n (2048 * b) ≡ false = grind (arith, nat_tests, low) in
    let at : nat_lt n (2048 * b + 2048) ≡ true = grind (arith, nat_tests, less) in
    rw (is, at) refl

cut_below : (b n : ℕ) (old : Option (List ℕ)) → 2048 * b + 2048 ≤ n → cut_bytes b n old ≡ old
cut_below b n old low =
    let is : nat_lt n (2048 * b) ≡ false = grind (arith, nat_tests, low) in
    let at : nat_lt n (2048 * b + 2048) ≡ false = grind (arith, nat_tests, low) in
    rw (is, at) refl

written_here : (b at : ℕ) (new : List ℕ) (old : Option (List ℕ)) → at < 2048 * b + 2048 → 2048 * b < at + length new → written_bytes b at new old ≡ Some (laid_over (at - 2048 * b) (piece_of b at new) (bytes_or_none old))
written_here b at new old low high = let is : is_written b at (length new) ≡ true = grind (arith, nat_tests, low, high) in rw is refl

written_else : (b at : ℕ) (new : List ℕ) (old : Option (List ℕ)) → (2048 * b + 2048 ≤ at) ⊎ (at + length new ≤ 2048 * b) → written_bytes b at new old ≡ old
written_else b at new old (inl low) = let is : is_written b at (length new) ≡ false = grind (arith, nat_tests, low) in rw is refl
written_else b at new old (inr high) = let is : is_written b at (length new) ≡ false = grind (arith, nat_tests, high) in rw is refl

-- where a write stands to a page
written_cases : (b at : ℕ) (new : List ℕ) → ((at < 2048 * b + 2048) × (2048 * b < at + length new)) ⊎ ((2048 * b + 2048 ≤ at) ⊎ (at + length new ≤ 2048 * b))
written_cases b at new = elim (cases_lt at (2048 * b + 2048)) [
  | inl low ↦ elim (cases_lt (2048 * b) (at + length new)) [
    | inl high ↦ inl (low, high)
    | inr out ↦ inr (inr out)
  ]
  | inr out ↦ inr (inl out)
]

some_is : (a b : List ℕ) → Some a ≡ Some b → a ≡ b
some_is a b same = grind arith

none_some : (a : List ℕ) → None ≡ Some a → ⊥
none_some a same = grind arith

-- A new object is of no pages.
pub object_made : (g : ℕ → Option (List ℕ)) → ((b : ℕ) → g b ≡ None) → IsObject [] g
object_made g none = record {
  small = λ b. rw (none b) (omega arith);
  within = λ b page is. absurd (none_some page (sym (none b) ∙ is));
  last = λ some. absurd (omega (arith, some));
  same = λ b i less. at_past [] (2048 * b + i) (omega arith) ∙ sym (rw (none b) (at_past [] i (omega arith)));
}

page_small : (bytes : List ℕ) (f : ℕ → Option (List ℕ)) → IsObject bytes f → (b : ℕ) (page : List ℕ) → f b ≡ Some page → length page ≤ 2048
page_small bytes f is b page here = let small : length (bytes_or_none (f b)) ≤ 2048 = is.small b in subst (λ (o : Option (List ℕ)). length (bytes_or_none o) ≤ 2048) here small

-- A cut.
module _ (bytes : List ℕ) (f g : ℕ → Option (List ℕ)) (n : ℕ) (is : IsObject bytes f) (cuts : (b : ℕ) → g b ≡ cut_bytes b n (f b)) where
  cut_cases : (b : ℕ) → (n < 2048 * b) ⊎ (((2048 * b ≤ n) × (n < 2048 * b + 2048)) ⊎ (2048 * b + 2048 ≤ n))
  cut_cases b = elim (cases_lt n (2048 * b)) [
    | inl less ↦ inl less
    | inr low ↦ elim (cases_lt n (2048 * b + 2048)) [
      | inl less ↦ inr (inl (low, less))
      | inr high ↦ inr (inr high)
    ]
  ]

  cut_small : (b : ℕ) → length (bytes_or_none (g b)) ≤ 2048
  cut_small b = elim (cut_cases b) [
    | inl above ↦ rw (cuts b, cut_above b n (f b) above) (omega arith)
    | inr rest ↦ elim rest [
      | inl here ↦ rw (cuts b, cut_here b n (f b) here.0 here.1) (omega (arith, size_size (n - 2048 * b) (bytes_or_none (f b)), here.1))
      | inr below ↦ rw (cuts b, cut_below b n (f b) below) (is.small b)
    ]
  ]

  cut_within : (b : ℕ) (page : List ℕ) → g b ≡ Some page → 2048 * b + length page ≤ length (at_size n bytes)
  cut_within b page at = elim (cut_cases b) [
    | inl above ↦ absurd (none_some page (sym (cuts b ∙ cut_above b n (f b) above) ∙ at))
    | inr rest ↦ elim rest [
      | inl here ↦
          let page_is : at_size (n - 2048 * b) (bytes_or_none (f b)) ≡ page = some_is _ _ (sym (cuts b ∙ cut_here b n (f b) here.0 here.1) ∙ at) in
          let count : length page ≡ n - 2048 * b = ap (λ (p : List ℕ). length p) (sym page_is) ∙ size_size (n - 2048 * b) (bytes_or_none (f b)) in
          omega (arith, count, size_size n bytes, here.0)
      | inr below ↦ let small : length page ≤ 2048 = page_small bytes f is b page (sym (cuts b ∙ cut_below b n (f b) below) ∙ at) in omega (arith, small, size_size n bytes, below)
    ]
  ]

  cut_last : 0 < length (at_size n bytes) → EndsAt g (length (at_size n bytes))
  cut_last some =
      let low : 2048 * (n / 2048) ≤ n = omega arith in
      let high : n < 2048 * (n / 2048) + 2048 = omega arith in
      record {
        number = n / 2048;
        page = at_size (n - 2048 * (n / 2048)) (bytes_or_none (f (n / 2048)));
        there = cuts (n / 2048) ∙ cut_here (n / 2048) n (f (n / 2048)) low high;
        end = omega (arith, low, size_size n bytes, size_size (n - 2048 * (n / 2048)) (bytes_or_none (f (n / 2048))));
      }

  cut_same : (b i : ℕ) → i < 2048 → byte_at (at_size n bytes) (2048 * b + i) ≡ byte_at (bytes_or_none (g b)) i
  cut_same b i less = elim (cut_cases b) [
    | inl above ↦ rw (cuts b, cut_above b n (f b) above) (size_out n bytes (2048 * b + i) (omega (arith, above)) ∙ sym (at_past [] i (omega arith)))
    | inr rest ↦ elim rest [
      | inl here ↦ rw (cuts b, cut_here b n (f b) here.0 here.1) (elim (cases_lt (2048 * b + i) n) [
        | inl inside ↦ size_in n bytes (2048 * b + i) inside ∙ (is.same b i less ∙ sym (size_in (n - 2048 * b) (bytes_or_none (f b)) i (omega (arith, inside))))
        | inr outside ↦ size_out n bytes (2048 * b + i) outside ∙ sym (size_out (n - 2048 * b) (bytes_or_none (f b)) i (omega (arith, outside)))
      ])
      | inr below ↦ rw (cuts b, cut_below b n (f b) below) (size_in n bytes (2048 * b + i) (omega (arith, below, less)) ∙ is.same b i less)
    ]
  ]

  pub object_cut : IsObject (at_size n bytes) g
  object_cut = record { small = cut_small; within = cut_within; last = cut_last; same = cut_same }

-- A write.
module _ (bytes : List ℕ) (f g : ℕ → Option (List ℕ)) (at : ℕ) (new : List ℕ) (some : 0 < length new) (is : IsObject bytes f) (writes : (b : ℕ) → g b ≡ written_bytes b at new (f b)) where
  laid_length : (b : ℕ) (old : List ℕ) → length (laid_over (at - 2048 * b) (piece_of b at new) old) ≡ max (length old) ((at - 2048 * b) + min (2048 - (at - 2048 * b)) (length new - (2048 * b - at)))
  laid_length b old = omega (arith, length_laid (at - 2048 * b) (piece_of b at new) old, length_piece b at new)

  old_within : (b : ℕ) → length (bytes_or_none (f b)) ≤ length bytes - 2048 * b
  old_within b = by_page (f b) refl
    where
      by_page : (o : Option (List ℕ)) → f b ≡ o → length (bytes_or_none o) ≤ length bytes - 2048 * b
      by_page None here = omega arith
      by_page (Some page) here = omega (arith, is.within b page here)

  written_small : (b : ℕ) → length (bytes_or_none (g b)) ≤ 2048
  written_small b = elim (written_cases b at new) [
    | inl here ↦ rw (writes b, written_here b at new (f b) here.0 here.1) (omega (arith, laid_length b (bytes_or_none (f b)), is.small b, here.0))
    | inr out ↦ rw (writes b, written_else b at new (f b) out) (is.small b)
  ]

  written_within : (b : ℕ) (page : List ℕ) → g b ≡ Some page → 2048 * b + length page ≤ length (laid_over at new bytes)
  written_within b page there = elim (written_cases b at new) [
    | inl here ↦
        let page_is : laid_over (at - 2048 * b) (piece_of b at new) (bytes_or_none (f b)) ≡ page = some_is _ _ (sym (writes b ∙ written_here b at new (f b) here.0 here.1) ∙ there) in
        let count : length page ≡ length (laid_over (at - 2048 * b) (piece_of b at new) (bytes_or_none (f b))) = ap (λ (p : List ℕ). length p) (sym page_is) in
        omega (arith, count, laid_length b (bytes_or_none (f b)), old_within b, length_laid at new bytes, here.0, here.1)
    | inr out ↦
        let within : 2048 * b + length page ≤ length bytes = is.within b page (sym (writes b ∙ written_else b at new (f b) out) ∙ there) in
        omega (arith, within, length_laid at new bytes)
  ]

  -- the last page of the write, where the write reaches the end
  last_written : length bytes ≤ at + length new → EndsAt g (length (laid_over at new bytes))
  last_written reach = end_at ((at + length new - 1) / 2048) (omega (arith, some)) (omega (arith, some))
    where
      end_at : (b : ℕ) → 2048 * b < at + length new → at + length new ≤ 2048 * b + 2048 → EndsAt g (length (laid_over at new bytes))
      end_at b high low = record {
        number = b;
        page = laid_over (at - 2048 * b) (piece_of b at new) (bytes_or_none (f b));
        there = writes b ∙ written_here b at new (f b) (omega (arith, low, some)) high;
        end = omega (arith, laid_length b (bytes_or_none (f b)), old_within b, length_laid at new bytes, high, low, reach, some);
      }

  -- else the object's own last page
  last_own : at + length new < length bytes → EndsAt g (length (laid_over at new bytes))
  last_own less = by_last (is.last (omega (arith, less)))
    where
      by_last : EndsAt f (length bytes) → EndsAt g (length (laid_over at new bytes))
      by_last ends = elim (written_cases ends.number at new) [
        | inl here ↦
            let was : length (bytes_or_none (f ends.number)) ≡ length ends.page = ap (λ (o : Option (List ℕ)). length (bytes_or_none o)) ends.there in
            record {
              number = ends.number;
              page = laid_over (at - 2048 * ends.number) (piece_of ends.number at new) (bytes_or_none (f ends.number));
              there = writes ends.number ∙ written_here ends.number at new (f ends.number) here.0 here.1;
              end = omega (arith, laid_length ends.number (bytes_or_none (f ends.number)), was, ends.end, length_laid at new bytes, less, here.0, here.1);
            }
        | inr out ↦ record {
          number = ends.number;
          page = ends.page;
          there = writes ends.number ∙ (written_else ends.number at new (f ends.number) out ∙ ends.there);
          end = omega (arith, ends.end, length_laid at new bytes, less);
        }
      ]

  written_last : 0 < length (laid_over at new bytes) → EndsAt g (length (laid_over at new bytes))
  written_last more = elim (cases_lt (at + length new) (length bytes)) [
    | inl less ↦ last_own less
    | inr reach ↦ last_written reach
  ]

  same_here : (b i : ℕ) → i < 2048 → at < 2048 * b + 2048 → 2048 * b < at + length new → byte_at (laid_over at new bytes) (2048 * b + i) ≡ byte_at (laid_over (at - 2048 * b) (piece_of b at new) (bytes_or_none (f b))) i
  same_here b i less low high = elim (cases_lt (2048 * b + i) at) [
    | inl before ↦
        laid_before at new bytes (2048 * b + i) before
        ∙ (is.same b i less
        ∙ sym (laid_before (at - 2048 * b) (piece_of b at new) (bytes_or_none (f b)) i (omega (arith, before))))
    | inr from ↦ elim (cases_lt (2048 * b + i) (at + length new)) [
      | inl inside ↦
          let part : (2048 * b - at) + (i - (at - 2048 * b)) ≡ (2048 * b + i) - at = omega (arith, from) in
          laid_in at new bytes (2048 * b + i) from inside
          ∙ (ap (byte_at new) (sym part)
          ∙ (sym (at_piece b at new (i - (at - 2048 * b)) (omega (arith, less, from)))
          ∙ sym (laid_in (at - 2048 * b) (piece_of b at new) (bytes_or_none (f b)) i (omega (arith, from)) (omega (arith, length_piece b at new, inside, less, from)))))
      | inr after ↦
          laid_after at new bytes (2048 * b + i) after
          ∙ (is.same b i less
          ∙ sym (laid_after (at - 2048 * b) (piece_of b at new) (bytes_or_none (f b)) i (omega (arith, length_piece b at new, after, high))))
    ]
  ]

  same_else : (b i : ℕ) → i < 2048 → (2048 * b + 2048 ≤ at) ⊎ (at + length new ≤ 2048 * b) → byte_at (laid_over at new bytes) (2048 * b + i) ≡ byte_at (bytes_or_none (f b)) i
  same_else b i less (inl low) = laid_before at new bytes (2048 * b + i) (omega (arith, low, less)) ∙ is.same b i less
  same_else b i less (inr high) = laid_after at new bytes (2048 * b + i) (omega (arith, high)) ∙ is.same b i less

  written_same : (b i : ℕ) → i < 2048 → byte_at (laid_over at new bytes) (2048 * b + i) ≡ byte_at (bytes_or_none (g b)) i
  written_same b i less = elim (written_cases b at new) [
    | inl here ↦ rw (writes b, written_here b at new (f b) here.0 here.1) (same_here b i less here.0 here.1)
    | inr out ↦ rw (writes b, written_else b at new (f b) out) (same_else b i less out)
  ]

  pub object_written : IsObject (laid_over at new bytes) g
  object_written = record { small = written_small; within = written_within; last = written_last; same = written_same }
