-- A vacuum that is done twice does no more.
use Rattle.std.proofs.Common.{◌≡◌, Bool, true, false, List, [], ◌∷◌, refl, ap, sym, ◌∙◌}
use Rattle.std.specs.Prelude.{not, ◌&&◌, ◌||◌, if◌then◌else◌}
use Rattle.std.specs.List.{list_any}
use Rattle.std.proofs.lemmas.Bool.{false≢true}
use Rattle.xact_core.specs.declared.snapshot.Snapshot.{Snapshot}
use Rattle.xact_core.specs.Kept.{kept_views}
use Rattle.xact_core.specs.Stamp.{owner_of, sees_stamp}
use Rattle.xact_core.specs.Transactions.{Transactions}
use Rattle.row_versions.specs.Stands.{Version, is_last_version, last_versions, is_gone, trimmed_versions, vacuumed}
use Rattle.row_versions.proofs.Vacuuming.{any_has, HasOne, any_contains}

module _ {D : Type 0} (x : Transactions) (views : List Snapshot) where
  abbrev seen_in : Snapshot → List (Version D) → Bool
  seen_in u vs = list_any (λ (w : Version D). sees_stamp x u w.stamp) vs

  fewer_seen : (u : Snapshot) (vs : List (Version D)) → seen_in u vs ≡ false → seen_in u (last_versions x views vs) ≡ false
  fewer_seen u [] none = refl
  fewer_seen u (v ∷ vs) none = by_seen (sees_stamp x u v.stamp) refl none (fewer_seen u vs)
    where
      by_last : (b : Bool) → sees_stamp x u v.stamp ≡ false → seen_in u (last_versions x views vs) ≡ false → seen_in u (if b then v ∷ last_versions x views vs else last_versions x views vs) ≡ false
      by_last true at rest = rw at rest
      by_last false at rest = rest

      by_seen : (b : Bool) → sees_stamp x u v.stamp ≡ b → (b || seen_in u vs) ≡ false → (seen_in u vs ≡ false → seen_in u (last_versions x views vs) ≡ false) → seen_in u (last_versions x views (v ∷ vs)) ≡ false
      by_seen true at nay left = absurd (false≢true (sym nay))
      by_seen false at nay left = by_last (is_last_version x views v vs) at (left nay)

  abbrev AllLast : List (Version D) → Type 0
  AllLast [] = Unit {0}
  AllLast (v ∷ vs) = (is_last_version x views v vs ≡ true) × AllLast vs

  still_last : (v : Version D) (vs : List (Version D)) → is_last_version x views v vs ≡ true → is_last_version x views v (last_versions x views vs) ≡ true
  still_last v vs last = any_contains (λ u. sees_stamp x u v.stamp && not (seen_in u (last_versions x views vs))) views one.one one.there (by_tests (sees_stamp x one.one v.stamp) (seen_in one.one vs) refl refl one.passes)
    where
      one : HasOne (λ u. sees_stamp x u v.stamp && not (seen_in u vs)) views
      one = any_has (λ u. sees_stamp x u v.stamp && not (seen_in u vs)) views last

      by_tests : (a b : Bool) → sees_stamp x one.one v.stamp ≡ a → seen_in one.one vs ≡ b → (a && not b) ≡ true → (sees_stamp x one.one v.stamp && not (seen_in one.one (last_versions x views vs))) ≡ true
      by_tests true true sees some is = absurd (false≢true is)
      by_tests true false sees none is = rw (sees, fewer_seen one.one vs none) refl
      by_tests false b sees some is = absurd (false≢true is)

  lasts_all : (vs : List (Version D)) → AllLast (last_versions x views vs)
  lasts_all [] = tt
  lasts_all (v ∷ vs) = by_last (is_last_version x views v vs) refl (lasts_all vs)
    where
      by_last : (b : Bool) → is_last_version x views v vs ≡ b → AllLast (last_versions x views vs) → AllLast (if b then v ∷ last_versions x views vs else last_versions x views vs)
      by_last true last rest = (still_last v vs last, rest)
      by_last false last rest = rest

  all_stay : (vs : List (Version D)) → AllLast vs → last_versions x views vs ≡ vs
  all_stay [] all = refl
  all_stay (v ∷ vs) all = let first : is_last_version x views v vs ≡ true = all.0 in rw first (ap (λ us. v ∷ us) (all_stay vs all.1))

  trimmed_all : (erases : D → Bool) (vs : List (Version D)) → AllLast vs → AllLast (trimmed_versions erases x vs)
  trimmed_all erases [] all = tt
  trimmed_all erases (v ∷ vs) all = by_gone (is_gone erases (owner_of x v.stamp) v.deed) (trimmed_all erases vs all.1)
    where
      by_gone : (b : Bool) → AllLast (trimmed_versions erases x vs) → AllLast (if b then trimmed_versions erases x vs else v ∷ vs)
      by_gone true rest = rest
      by_gone false rest = all

trimmed_again : {D : Type 0} (erases : D → Bool) (x : Transactions) (vs : List (Version D)) → trimmed_versions erases x (trimmed_versions erases x vs) ≡ trimmed_versions erases x vs
trimmed_again erases x [] = refl
trimmed_again {D} erases x (v ∷ vs) = by_gone (is_gone erases (owner_of x v.stamp) v.deed) refl (trimmed_again erases x vs)
  where
    by_gone : (b : Bool) → is_gone erases (owner_of x v.stamp) v.deed ≡ b → trimmed_versions erases x (trimmed_versions erases x vs) ≡ trimmed_versions erases x vs → trimmed_versions erases x (if b then trimmed_versions erases x vs else v ∷ vs) ≡ (if b then trimmed_versions erases x vs else v ∷ vs)
    by_gone true gone rest = rest
    by_gone false stays rest = rw stays refl

pub vacuumed_again : {D : Type 0} (erases : D → Bool) (x : Transactions) (vs : List (Version D)) → vacuumed erases x (vacuumed erases x vs) ≡ vacuumed erases x vs
vacuumed_again {D} erases x vs =
    ap (trimmed_versions erases x) (all_stay x (kept_views x) (vacuumed erases x vs) (trimmed_all x (kept_views x) erases (last_versions x (kept_views x) vs) (lasts_all x (kept_views x) vs)))
    ∙ trimmed_again erases x (last_versions x (kept_views x) vs)
