-- What is held is what some kept view reads, each version once.
use Rattle.std.proofs.Common.{◌≡◌, refl, sym, ap, ◌∙◌, ℕ, ℤ, Bool, true, false, ◌||◌, List, [], ◌∷◌, arith}
use Rattle.std.specs.Prelude.{bytes_eq, if◌then◌else◌}
use Rattle.std.specs.List.{list_any, flat_map, IsDistinct, AllByRecursion}
use Rattle.std.specs.Ordering.{int_eq}
use Rattle.std.proofs.lemmas.Bool.Decides.{nat_tests, Decides-int_eq}
use Rattle.std.proofs.lemmas.List.Concat.{flat_map-cons}
use Rattle.std.proofs.lemmas.List.Folds.{list_any-append}
use Rattle.std.proofs.lemmas.Slice.Eq.{bytes_eq-Decides}
use Rattle.lo_model.specs.Edit.{Deed, Edit}
use Rattle.lo_model.specs.Held.{BlockVersion, PageVersion, ChunkVersion, is_same_version, distinct, held_versions, is_read_in_a_view, versions_in, edits_in, views_kept}
use Rattle.lo_model.specs.Session.{Session}

same_page : (o p c o' p' c' : ℕ) → is_same_version (PageVersion o p c) (PageVersion o' p' c') ≡ true → (o ≡ o') × (p ≡ p') × (c ≡ c')
same_page o p c o' p' c' h = (grind (arith, nat_tests, h), grind (arith, nat_tests, h), grind (arith, nat_tests, h))

same_chunk : (t : List ℕ) (i : ℤ) (j k c : ℕ) (t' : List ℕ) (i' : ℤ) (j' k' c' : ℕ) → is_same_version (ChunkVersion t i j k c) (ChunkVersion t' i' j' k' c') ≡ true → (bytes_eq t t' ≡ true) × (int_eq i i' ≡ true) × (j ≡ j') × (k ≡ k') × (c ≡ c')
same_chunk t i j k c t' i' j' k' c' h = (grind (arith, h), grind (arith, h), grind (arith, nat_tests, h), grind (arith, nat_tests, h), grind (arith, nat_tests, h))

same_is : (v w : BlockVersion) → is_same_version v w ≡ true → v ≡ w
same_is (PageVersion o p c) (PageVersion o' p' c') h = let e = same_page o p c o' p' c' h in rw (e.0, e.1, e.2) refl
same_is (ChunkVersion t i j k c) (ChunkVersion t' i' j' k' c') h = let e = same_chunk t i j k c t' i' j' k' c' h in rw ((bytes_eq-Decides t t').0 e.0, (Decides-int_eq i i').0 e.1, e.2, e.3, e.4) refl
same_is (PageVersion o p c) (ChunkVersion t i j k c') h = cc
same_is (ChunkVersion t i j k c) (PageVersion o p c') h = cc

-- a version that stands later on is not missed where it is left out
any_distinct : (v : BlockVersion) (ws : List BlockVersion) → list_any (is_same_version v) (distinct ws) ≡ list_any (is_same_version v) ws
any_distinct v [] = refl
any_distinct v (w ∷ ws) = by (list_any (is_same_version w) ws) refl (is_same_version v w) refl (any_distinct v ws)
  where
    by : (later : Bool) → list_any (is_same_version w) ws ≡ later → (same : Bool) → is_same_version v w ≡ same → list_any (is_same_version v) (distinct ws) ≡ list_any (is_same_version v) ws → list_any (is_same_version v) (if later then distinct ws else w ∷ distinct ws) ≡ (is_same_version v w || list_any (is_same_version v) ws)
    by true again true same more = let it : v ≡ w = same_is v w same in more ∙ ap (λ x. list_any (is_same_version x) ws) it ∙ again ∙ sym (ap (λ b. b || list_any (is_same_version v) ws) same)
    by true again false same more = more ∙ sym (ap (λ b. b || list_any (is_same_version v) ws) same)
    by false again same is more = ap (λ b. is_same_version v w || b) more

any_flat : {X Y : Type 0} (p : Y → Bool) (f : X → List Y) (xs : List X) → list_any p (flat_map f xs) ≡ list_any (λ x. list_any p (f x)) xs
any_flat p f [] = refl
any_flat p f (x ∷ xs) = ap (list_any p) (flat_map-cons f x xs) ∙ list_any-append p (f x) (flat_map f xs) ∙ ap (λ b. list_any p (f x) || b) (any_flat p f xs)

pub held_is_read : (now : ℕ) (sessions : ℕ → Session) (edits : List (Edit Deed)) (v : BlockVersion) → list_any (is_same_version v) (held_versions now sessions edits) ≡ is_read_in_a_view now sessions edits v
held_is_read now sessions edits v = any_distinct v (flat_map (λ w. versions_in (edits_in edits w)) (views_kept now sessions)) ∙ any_flat (is_same_version v) (λ w. versions_in (edits_in edits w)) (views_kept now sessions)

-- none is the same as one that was left of the rest
none_same : (v : BlockVersion) (ws : List BlockVersion) → list_any (is_same_version v) ws ≡ false → AllByRecursion (λ w. is_same_version v w ≡ false) ws
none_same v [] h = tt
none_same v (w ∷ ws) h = (first (is_same_version v w) (list_any (is_same_version v) ws) h, none_same v ws (second (is_same_version v w) (list_any (is_same_version v) ws) h))
  where
    first : (a b : Bool) → (a || b) ≡ false → a ≡ false
    first true b h = h
    first false b h = refl

    second : (a b : Bool) → (a || b) ≡ false → b ≡ false
    second true b h = cc
    second false b h = h

all_distinct : (ws : List BlockVersion) → IsDistinct is_same_version (distinct ws)
unfolding IsDistinct
all_distinct [] = tt
all_distinct (w ∷ ws) = by (list_any (is_same_version w) ws) refl (all_distinct ws)
  where
    by : (later : Bool) → list_any (is_same_version w) ws ≡ later → IsDistinct is_same_version (distinct ws) → IsDistinct is_same_version (if later then distinct ws else w ∷ distinct ws)
    by true again more = more
    by false again more = (none_same w (distinct ws) (any_distinct w ws ∙ again), more)

pub held_once : (now : ℕ) (sessions : ℕ → Session) (edits : List (Edit Deed)) → IsDistinct is_same_version (held_versions now sessions edits)
held_once now sessions edits = all_distinct (flat_map (λ w. versions_in (edits_in edits w)) (views_kept now sessions))
