-- What a search in the stores finds, and what it tells of an object.
use Rattle.std.proofs.Common.{Bor, ◌≡◌, ℕ, ◌+◌, ◌*◌, ◌<◌, ◌≤◌, ◌⊎◌, inl, inr, Bool, true, false, List, [], ◌∷◌, length, Option, Some, None, refl, ap, sym, subst, ◌∙◌, arith}
use Rattle.std.specs.Prelude.{is_some, option_map}
use Rattle.std.specs.Ordering.{nat_cmp}
use Rattle.std.proofs.lemmas.Bool.{false≢true, cases_lt}
use Rattle.std.proofs.lemmas.Bool.Decides.{nat_tests}
use Rattle.lo_model.specs.Descriptor.{bytes_or_none}
use Rattle.lo_model.specs.Edit.{Deed, Edit}
use Rattle.lo_model.specs.Listing.{has_object}
use Rattle.lo_model.specs.Object.{object_in}
use Rattle.lo_model.specs.View.{view}
use Rattle.xact_core.specs.declared.snapshot.Snapshot.{Snapshot}
use Rattle.xact_core.specs.Transactions.{Transactions}
use Rattle.std.specs.BTreeMap.Range.{IsLeBy}
use Rattle.std.specs.Option.{option_copied}
use Rattle.std.specs.Prelude.{MatchOption}
use Rattle.row_versions.specs.Found.{given, finds}
use Rattle.row_versions.specs.Search.{HasNoneFrom, IsLeastFrom, HasNoneIn, IsGreatestIn, finds_at}
use Rattle.row_versions.specs.Stands.{standing, after_all, replaces}
use Rattle.row_versions.specs.Store.{versions_at}
use Rattle.lo_pages.specs.declared.pages.Pages.{Pages}
use Rattle.lo_pages.specs.Content.{Content}
use Rattle.lo_pages.specs.Keys.{key_cmp, page_key}
use Rattle.lo_pages.specs.declared.page_key.PageKey.{PageKey}
use Rattle.lo_pages.specs.Object.{IsObjectAs}
use Rattle.lo_pages.specs.Outcome.{NoneFrom, LeastFrom}
use Rattle.lo_pages.specs.Standing.{ReadsAs, has_page, last_number, page_value, stores_of}
use Rattle.lo_pages.specs.Stores.{there, content_bytes, head_at, bytes_at}
use Rattle.lo_pages.proofs.Keys.{le_pages, pages_le, le_oids, key_is}
use Rattle.lo_pages.proofs.Reading.{exists_is, size_last, size_none}

given_page : (clock : ℕ) (deed : Option (List ℕ)) → option_map content_bytes (page_value clock deed) ≡ deed
given_page clock None = refl
given_page clock (Some bytes) = refl

given_head : (clock : ℕ) (deed : Option (List ℕ)) → there clock deed ≡ is_some deed
given_head clock None = refl
given_head clock (Some bytes) = refl

page_folds : (page : Option Content) (bytes : Option (List ℕ)) → option_map content_bytes page ≡ bytes → (es : List (Edit (Option (List ℕ)))) → option_map content_bytes (after_all (replaces page_value) page es) ≡ after_all (replaces given) bytes es
page_folds page bytes same [] = same
page_folds page bytes same (e ∷ es) = page_folds (page_value e.clock e.deed) e.deed (given_page e.clock e.deed) es

head_folds : (head : Bool) (bytes : Option (List ℕ)) → head ≡ is_some bytes → (es : List (Edit (Option (List ℕ)))) → after_all (replaces there) head es ≡ is_some (after_all (replaces given) bytes es)
head_folds head bytes same [] = same
head_folds head bytes same (e ∷ es) = head_folds (there e.clock e.deed) e.deed (given_head e.clock e.deed) es

number_below : (a b : ℕ) → a ≤ b → IsLeBy nat_cmp a b
number_below a b low = grind (arith, nat_tests, low)

below_number : (a b : ℕ) → IsLeBy nat_cmp a b → a ≤ b
below_number a b low = grind (arith, nat_tests, low)

module _ (x : Transactions) (v : Snapshot) (pages : Pages) where
  pub page_finds : (o b : ℕ) → bytes_at page_value x v (stores_of pages) o b ≡ finds x v (versions_at key_cmp pages.pages (page_key o b))
  page_finds o b = page_folds None None refl (view v.clock v.viewer (standing x (versions_at key_cmp pages.pages (page_key o b))))

  pub head_finds : (o : ℕ) → head_at x v (stores_of pages) o ≡ is_some (finds x v (versions_at nat_cmp pages.objects o))
  head_finds o = head_folds false None refl (view v.clock v.viewer (standing x (versions_at nat_cmp pages.objects o)))

  pub head_object : (edits : List (Edit Deed)) → ReadsAs x v pages edits → (o : ℕ) → head_at x v (stores_of pages) o ≡ has_object edits o
  head_object edits reads o = exists_is (object_in o edits) (head_at x v (stores_of pages) o) (bytes_at page_value x v (stores_of pages) o) (reads.object o)

  pub object_finds : (edits : List (Edit Deed)) → ReadsAs x v pages edits → (o : ℕ) → is_some (finds x v (versions_at nat_cmp pages.objects o)) ≡ has_object edits o
  object_finds edits reads o = sym (head_finds o) ∙ head_object edits reads o

  -- the least object

  pub no_object_from : (edits : List (Edit Deed)) → ReadsAs x v pages edits → (from : ℕ) → HasNoneFrom nat_cmp x v pages.objects from → NoneFrom (has_object edits) from
  no_object_from edits reads from none = record { none = λ n low. sym (object_finds edits reads n) ∙ ap is_some (none.none n (number_below from n low)) }

  pub least_object : (edits : List (Edit Deed)) → ReadsAs x v pages edits → (from n : ℕ) → IsLeastFrom nat_cmp x v pages.objects from n → LeastFrom (has_object edits) from n
  least_object edits reads from n least = record {
    low = below_number from n least.low;
    passes = sym (object_finds edits reads n) ∙ least.some;
    least = λ other low there. below_number n other (least.least other (number_below from other low) (object_finds edits reads other ∙ there));
  }

  pub next_object_is : (edits : List (Edit Deed)) → ReadsAs x v pages edits → (from : ℕ) (found : Option ℕ) → MatchOption found (HasNoneFrom nat_cmp x v pages.objects from) (IsLeastFrom nat_cmp x v pages.objects from) → MatchOption found (NoneFrom (has_object edits) from) (LeastFrom (has_object edits) from)
  next_object_is edits reads from None none = no_object_from edits reads from none
  next_object_is edits reads from (Some n) least = least_object edits reads from n least

  -- the least page

  page_there : (o b : ℕ) → has_page x v pages o b ≡ is_some (finds_at key_cmp x v pages.pages (page_key o b))
  page_there o b = ap is_some (page_finds o b)

  pub no_page_from : (o from : ℕ) → HasNoneFrom key_cmp x v pages.pages (page_key o from) → NoneFrom (has_page x v pages o) from
  no_page_from o from none = record { none = λ n low. page_there o n ∙ ap is_some (none.none (page_key o n) (le_pages o from n low)) }

  pub least_page : (o from : ℕ) (key : PageKey) → key.oid ≡ o → IsLeastFrom key_cmp x v pages.pages (page_key o from) key → LeastFrom (has_page x v pages o) from key.number
  least_page o from key same least = here (subst (λ (k : PageKey). IsLeastFrom key_cmp x v pages.pages (page_key o from) k) (key_is o key same) least)
    where
      here : IsLeastFrom key_cmp x v pages.pages (page_key o from) (page_key o key.number) → LeastFrom (has_page x v pages o) from key.number
      here l = record {
        low = pages_le o from key.number l.low;
        passes = page_there o key.number ∙ l.some;
        least = λ other low there. pages_le o key.number other (l.least (page_key o other) (le_pages o from other low) (sym (page_there o other) ∙ there));
      }

  pub no_page_of : (o from : ℕ) (key : PageKey) → (key.oid ≡ o → ⊥) → IsLeastFrom key_cmp x v pages.pages (page_key o from) key → NoneFrom (has_page x v pages o) from
  no_page_of o from key apart least = record { none = λ n low. by_found n low (has_page x v pages o n) refl }
    where
      by_found : (n : ℕ) → from ≤ n → (b : Bool) → has_page x v pages o n ≡ b → has_page x v pages o n ≡ false
      by_found n low false is = is
      by_found n low true is =
          let over : key.oid ≤ o = le_oids key (page_key o n) (least.least (page_key o n) (le_pages o from n low) (sym (page_there o n) ∙ is)) in
          let under : o ≤ key.oid = le_oids (page_key o from) key least.low in
          absurd (apart (omega (arith, over, under)))

  -- the size, by the last page

  none_is : (f : Option (List ℕ)) → is_some f ≡ false → f ≡ None
  none_is None is = refl
  none_is (Some bytes) is = absurd (false≢true (sym is))

  pub size_without : (edits : List (Edit Deed)) → ReadsAs x v pages edits → (o : ℕ) → HasNoneIn key_cmp x v pages.pages (page_key o 0) (page_key o last_number) → length (bytes_or_none (object_in o edits)) ≡ 0
  size_without edits reads o none = by_object (object_in o edits) (reads.object o)
    where
      no_page : (b : ℕ) → bytes_at page_value x v (stores_of pages) o b ≡ None
      no_page b = by_place (cases_lt last_number b)
        where
          by_place : (last_number < b) ⊎ (b ≤ last_number) → bytes_at page_value x v (stores_of pages) o b ≡ None
          by_place (inl more) = reads.above o b more
          by_place (inr most) = page_finds o b ∙ none.none (page_key o b) (record { low = le_pages o 0 b (omega arith); high = le_pages o b last_number most })

      by_object : (object : Option (List ℕ)) → IsObjectAs object (head_at x v (stores_of pages) o) (bytes_at page_value x v (stores_of pages) o) → length (bytes_or_none object) ≡ 0
      by_object None is = refl
      by_object (Some bytes) is = size_none bytes (bytes_at page_value x v (stores_of pages) o) is.1 no_page

  pub size_by_last : (edits : List (Edit Deed)) → ReadsAs x v pages edits → (o : ℕ) (key : PageKey) → IsGreatestIn key_cmp x v pages.pages (page_key o 0) (page_key o last_number) key → length (bytes_or_none (object_in o edits)) ≡ 2048 * key.number + length (bytes_or_none (bytes_at page_value x v (stores_of pages) o key.number))
  size_by_last edits reads o key greatest = by_object (object_in o edits) (bytes_at page_value x v (stores_of pages) o key.number) refl (reads.object o)
    where
      same : key.oid ≡ o
      same = let under : o ≤ key.oid = le_oids (page_key o 0) key greatest.between.low in let over : key.oid ≤ o = le_oids key (page_key o last_number) greatest.between.high in omega (arith, under, over)

      here : IsGreatestIn key_cmp x v pages.pages (page_key o 0) (page_key o last_number) (page_key o key.number)
      here = subst (λ (k : PageKey). IsGreatestIn key_cmp x v pages.pages (page_key o 0) (page_key o last_number) k) (key_is o key same) greatest

      found : has_page x v pages o key.number ≡ true
      found = page_there o key.number ∙ here.some

      none_above : (c : ℕ) → key.number < c → bytes_at page_value x v (stores_of pages) o c ≡ None
      none_above c more = by_place (cases_lt last_number c)
        where
          by_found : c ≤ last_number → (t : Bool) → has_page x v pages o c ≡ t → bytes_at page_value x v (stores_of pages) o c ≡ None
          by_found most false is = none_is (bytes_at page_value x v (stores_of pages) o c) is
          by_found most true is = let under : c ≤ key.number = pages_le o c key.number (here.greatest (page_key o c) (record { low = le_pages o 0 c (omega arith); high = le_pages o c last_number most }) (sym (page_there o c) ∙ is)) in absurd (omega (arith, under, more))

          by_place : (last_number < c) ⊎ (c ≤ last_number) → bytes_at page_value x v (stores_of pages) o c ≡ None
          by_place (inl beyond) = reads.above o c beyond
          by_place (inr most) = by_found most (has_page x v pages o c) refl

      by_object : (object page : Option (List ℕ)) → bytes_at page_value x v (stores_of pages) o key.number ≡ page → IsObjectAs object (head_at x v (stores_of pages) o) (bytes_at page_value x v (stores_of pages) o) → length (bytes_or_none object) ≡ 2048 * key.number + length (bytes_or_none (bytes_at page_value x v (stores_of pages) o key.number))
      by_object object None at is = absurd (false≢true (sym (ap is_some at) ∙ found))
      by_object None (Some page) at is = absurd (false≢true (sym (ap is_some (reads.absent o key.number is)) ∙ found))
      by_object (Some bytes) (Some page) at is = size_last bytes (bytes_at page_value x v (stores_of pages) o) key.number page is.1 at none_above ∙ ap (λ (p : Option (List ℕ)). 2048 * key.number + length (bytes_or_none p)) (sym at)

pub some_copied : {A : Type 0} (r : Option (Bor A)) → is_some r ≡ is_some (option_copied r)
some_copied None = refl
some_copied (Some item) = refl
