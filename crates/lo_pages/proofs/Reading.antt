-- What a kept view reads of the stores is the object of its edits.
use Rattle.std.proofs.Common.{◌≡◌, ℕ, ◌+◌, ◌*◌, ◌<◌, ◌≤◌, inl, inr, ◌⊎◌, Bool, true, false, cond, List, [], ◌∷◌, length, Option, Some, None, ap, sym, subst, ◌∙◌, arith}
use Rattle.std.specs.Prelude.{option_map, is_some}
use Rattle.std.proofs.lemmas.Bool.{cases_lt, cases_order}
use Rattle.lo_model.specs.declared.viewer.Viewer.{Viewer}
use Rattle.lo_model.specs.Edit.{Deed, Edit}
use Rattle.lo_model.specs.Object.{object_in}
use Rattle.lo_model.specs.View.{sees, view}
use Rattle.xact_core.specs.declared.snapshot.Snapshot.{Snapshot}
use Rattle.xact_core.specs.Transactions.{Transactions}
use Rattle.row_versions.specs.Stack.{Each}
use Rattle.row_versions.specs.Looks.{IsLook}
use Rattle.row_versions.specs.Stands.{after_all}
use Rattle.lo_model.specs.Descriptor.{bytes_or_none}
use Rattle.lo_pages.specs.Object.{EndsAt, IsObject, IsObjectAs}
use Rattle.lo_pages.specs.Content.{Content, touches_page, touches_object, after_page, after_head}
use Rattle.lo_pages.specs.Stores.{Stores, PagesStand, IsProperEdit, head_at, page_at, bytes_at, content_bytes}
use Rattle.lo_pages.proofs.Folds.{after_at, each_page_spares, each_head_spares, as_made, bytes_of_contents}

pub each_view : {D : Type 0} (P : Edit D → Type 0) (n : ℕ) (viewer : Viewer) (ys : List (Edit D)) → Each P ys → Each P (view n viewer ys)
each_view P n viewer [] h = tt
each_view {D} P n viewer (e ∷ es) h = by_seen (sees n viewer e.clock e.owner) (each_view P n viewer es h.1)
  where
    by_seen : (b : Bool) → Each P (view n viewer es) → Each P (cond b (e ∷ view n viewer es) (view n viewer es))
    by_seen true rest = (h.0, rest)
    by_seen false rest = rest

alike_object : (bytes : List ℕ) (f g : ℕ → Option (List ℕ)) → ((b : ℕ) → g b ≡ f b) → IsObject bytes f → IsObject bytes g
alike_object bytes f g alike is = record {
  small = λ b. rw (alike b) (is.small b);
  within = λ b page at. is.within b page (sym (alike b) ∙ at);
  last = λ some. last (is.last some);
  same = λ b i less. rw (alike b) (is.same b i less);
}
  where
    last : EndsAt f (length bytes) → EndsAt g (length bytes)
    last ends = record { number = ends.number; page = ends.page; there = alike ends.number ∙ ends.there; end = ends.end }

pub alike_as : (object : Option (List ℕ)) (head head' : Bool) (f g : ℕ → Option (List ℕ)) → head' ≡ head → ((b : ℕ) → g b ≡ f b) → IsObjectAs object head f → IsObjectAs object head' g
alike_as None head head' f g same alike is = same ∙ is
alike_as (Some bytes) head head' f g same alike is = (same ∙ is.0, alike_object bytes f g alike is.1)

module _ {P : Type 0} (value : ℕ → P → Option Content) (x : Transactions) (stores : Stores P) (ys : List (Edit Deed)) (stands : PagesStand value x stores ys) (v : Snapshot) (kept : IsLook x v) where
  pub page_found : (o b : ℕ) → page_at value x v stores o b ≡ after_all (after_page o b) None (view v.clock v.viewer ys)
  page_found o b = (stands.pages o b).same.same v kept ∙ after_at (after_page o b) (touches_page o b) v.clock v.viewer None ys (each_page_spares o b ys stands.proper)

  pub head_found : (o : ℕ) → head_at x v stores o ≡ after_all (after_head o) false (view v.clock v.viewer ys)
  head_found o = (stands.objects o).same.same v kept ∙ after_at (after_head o) (touches_object o) v.clock v.viewer false ys (each_head_spares o ys)

  -- the object that its edits make, in each kept view
  pub object_reads : (o : ℕ) → IsObjectAs (object_in o (view v.clock v.viewer ys)) (head_at x v stores o) (bytes_at value x v stores o)
  object_reads o =
      alike_as (object_in o (view v.clock v.viewer ys)) (after_all (after_head o) false (view v.clock v.viewer ys)) (head_at x v stores o)
      (bytes_of_contents (λ b. after_all (after_page o b) None (view v.clock v.viewer ys))) (bytes_at value x v stores o)
      (head_found o)
      (λ b. ap (option_map content_bytes) (page_found o b))
      (as_made o (view v.clock v.viewer ys) (each_view IsProperEdit v.clock v.viewer ys stands.proper))

-- An object is there where its head is.
pub exists_is : (object : Option (List ℕ)) (head : Bool) (f : ℕ → Option (List ℕ)) → IsObjectAs object head f → head ≡ is_some object
exists_is None head f is = is
exists_is (Some bytes) head f is = is.0

-- The size is the end of the last page.
pub size_none : (bytes : List ℕ) (f : ℕ → Option (List ℕ)) → IsObject bytes f → ((b : ℕ) → f b ≡ None) → length bytes ≡ 0
size_none bytes f is none = elim (cases_lt 0 (length bytes)) [
  | inl some ↦ absurd (never (is.last some))
  | inr least ↦ omega (arith, least)
]
  where
    none_some : (a : List ℕ) → None ≡ Some a → ⊥
    none_some a same = grind arith

    never : EndsAt f (length bytes) → ⊥
    never ends = none_some ends.page (sym (none ends.number) ∙ ends.there)

pub size_last : (bytes : List ℕ) (f : ℕ → Option (List ℕ)) (b : ℕ) (page : List ℕ) → IsObject bytes f → f b ≡ Some page → ((c : ℕ) → b < c → f c ≡ None) → length bytes ≡ 2048 * b + length page
size_last bytes f b page is here last = elim (cases_lt 0 (length bytes)) [
  | inl some ↦ by_end (is.last some)
  | inr least ↦ omega (arith, least, is.within b page here)
]
  where
    some_is : (a c : List ℕ) → Some a ≡ Some c → a ≡ c
    some_is a c same = grind arith

    none_some : (a : List ℕ) → None ≡ Some a → ⊥
    none_some a same = grind arith

    by_end : EndsAt f (length bytes) → length bytes ≡ 2048 * b + length page
    by_end ends = elim (cases_order ends.number b) [
      | inl equal ↦
          let same : ends.page ≡ page = some_is ends.page page (sym ends.there ∙ (ap f equal ∙ here)) in
          let count : length ends.page ≡ length page = ap (λ (p : List ℕ). length p) same in
          omega (arith, ends.end, equal, count)
      | inr other ↦ elim other [
        | inl less ↦
            let small : length (bytes_or_none (f ends.number)) ≤ 2048 = is.small ends.number in
            let own : length ends.page ≤ 2048 = subst (λ (o : Option (List ℕ)). length (bytes_or_none o) ≤ 2048) ends.there small in
            omega (arith, ends.end, own, less, is.within b page here)
        | inr more ↦ absurd (none_some ends.page (sym (last ends.number more) ∙ ends.there))
      ]
    ]

-- The size is also the greatest of the pages' ends.
pub size_greatest : (bytes : List ℕ) (f : ℕ → Option (List ℕ)) (size : ℕ) → IsObject bytes f → ((b : ℕ) (page : List ℕ) → f b ≡ Some page → 2048 * b + length page ≤ size) → (size ≡ 0) ⊎ EndsAt f size → length bytes ≡ size
size_greatest bytes f size is most ends = by_end ends
  where
    least : 0 < length bytes → length bytes ≤ size
    least some = at_end (is.last some)
      where
        at_end : EndsAt f (length bytes) → length bytes ≤ size
        at_end last = let end : 2048 * last.number + length last.page ≤ size = most last.number last.page last.there in omega (arith, end, last.end)

    some_or_none : length bytes ≤ size
    some_or_none = elim (cases_lt 0 (length bytes)) [
      | inl some ↦ least some
      | inr none ↦ omega (arith, none)
    ]

    by_end : (size ≡ 0) ⊎ EndsAt f size → length bytes ≡ size
    by_end (inl zero_size) = omega (arith, zero_size, some_or_none)
    by_end (inr last) = let within : 2048 * last.number + length last.page ≤ length bytes = is.within last.number last.page last.there in omega (arith, within, last.end, some_or_none)
