-- What a vacuum of one key leaves: what kept views find, who has the key open, and the puts that kept views find.
use Rattle.std.proofs.Common.{ℕ, ◌≡◌, true, List, Option, Some, None, refl, ap, sym, subst, ◌∙◌}
use Rattle.std.proofs.lemmas.Bool.{false≢true}
use Rattle.lo_model.specs.declared.viewer.Viewer.{Viewer}
use Rattle.lo_model.specs.Edit.{Edit}
use Rattle.xact_core.specs.declared.snapshot.Snapshot.{Snapshot}
use Rattle.xact_core.specs.Kept.{kept_views}
use Rattle.xact_core.specs.Transactions.{Transactions}
use Rattle.row_versions.specs.Count.{ListsHeld, clocks_left}
use Rattle.row_versions.specs.Found.{is_erasure, given, finds}
use Rattle.row_versions.specs.Looks.{IsLook}
use Rattle.row_versions.specs.Stack.{Each, Pairwise, IsStack}
use Rattle.row_versions.specs.Stands.{Version, standing, vacuumed, Erases}
use Rattle.row_versions.specs.Vacuum.{any_open, found, reclaimed, FoundUnlessErasure, OneOwner}
use Rattle.row_versions.proofs.Counting.{left_is_held}
use Rattle.row_versions.proofs.Laws.{value_of, after_found, standing_vacuumed}
use Rattle.row_versions.proofs.Vacuuming.{reclaimed_found, reclaimed_puts, reclaimed_any_open}

gives_none : {D : Type 0} (clock : ℕ) (deed : Option D) → is_erasure deed ≡ true → given clock deed ≡ None
gives_none clock None is = refl
gives_none clock (Some content) is = absurd (false≢true is)

erases_none : {D : Type 0} → Erases {D = Option D} is_erasure given None
erases_none = record { gives = gives_none }

module _ {D : Type 0} (x : Transactions) (vs us : List (Version (Option D))) (are : us ≡ vacuumed is_erasure x vs) where
  left : standing x us ≡ reclaimed is_erasure (kept_views x) (standing x vs)
  left = ap (standing x) are ∙ standing_vacuumed is_erasure x vs

  pub vacuumed_finds : (v : Snapshot) → IsLook x v → finds x v us ≡ finds x v vs
  vacuumed_finds v kept =
      after_found is_erasure given None erases_none v (standing x us)
      ∙ (ap (λ (es : List (Edit (Option D))). value_of given None (found is_erasure v es)) left
      ∙ (ap (value_of given None) (reclaimed_found is_erasure (kept_views x) v kept (standing x vs))
      ∙ sym (after_found is_erasure given None erases_none v (standing x vs))))

  pub vacuumed_open : IsStack x (standing x vs) → (viewer : Viewer) → any_open viewer (standing x us) ≡ any_open viewer (standing x vs)
  vacuumed_open stack viewer = ap (any_open viewer) left ∙ reclaimed_any_open is_erasure x viewer (standing x vs) stack

  pub vacuumed_puts : Each (FoundUnlessErasure is_erasure (kept_views x) (standing x vs)) (standing x us)
  vacuumed_puts = subst (Each (FoundUnlessErasure is_erasure (kept_views x) (standing x vs))) (sym left) (reclaimed_puts is_erasure (kept_views x) (standing x vs))

  pub vacuumed_held : Pairwise OneOwner (standing x vs) → ListsHeld is_erasure (kept_views x) (standing x vs) (clocks_left is_erasure (standing x us))
  vacuumed_held one = subst (λ (es : List (Edit (Option D))). ListsHeld is_erasure (kept_views x) (standing x vs) (clocks_left is_erasure es)) (sym left) (left_is_held is_erasure (kept_views x) (standing x vs) one)
