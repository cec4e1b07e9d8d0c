-- One row that gets a version, and what that leaves of the rows.
use Rattle.std.proofs.Common.{◌≡◌, ℕ, ◌⊎◌, inl, inr, Bool, true, false, List, [], ◌∷◌, Option, refl, sym, ap, subst, ◌∙◌}
use Rattle.std.specs.Prelude.{Result, Ok, Err, OnOk, OnErr}
use Rattle.std.specs.Ordering.{int_eq}
use Rattle.std.proofs.lemmas.Bool.{cases_eq, false≢true}
use Rattle.std.proofs.lemmas.Bool.Decides.{Decides-int_eq}
use Rattle.lo_base.specs.declared.value.Cell.{Cell}
use Rattle.xact_core.specs.Transactions.{Transactions}
use Rattle.row_versions.specs.Stands.{AddsOwn}
use Rattle.row_versions.specs.Store.{AddsVersion, SameVersions, versions_at}
use Rattle.row_versions.specs.declared.store.Store.{Store}
use Rattle.toast_chunks.proofs.Steps.{own_same}
use Rattle.row_tables.specs.declared.row_key.RowKey.{RowKey}
use Rattle.row_tables.specs.Keys.{key_cmp, row_key}

-- whether two keys are one
pub key_or_other : (k key : RowKey) → (k ≡ key) ⊎ (k ≡ key → ⊥)
key_or_other k key = by_parts (cases_eq k.table key.table) (int_eq k.id key.id) refl
  where
    by_parts : (k.table ≡ key.table) ⊎ (k.table ≡ key.table → ⊥) → (b : Bool) → int_eq k.id key.id ≡ b → (k ≡ key) ⊎ (k ≡ key → ⊥)
    by_parts (inr apart) b is = inr (λ same. apart (ap (λ (q : RowKey). q.table) same))
    by_parts (inl table) true is = inl (ap (λ t. row_key t k.id) table ∙ ap (λ i. row_key key.table i) ((Decides-int_eq k.id key.id).0 is))
    by_parts (inl table) false is = inr (λ same. false≢true (sym is ∙ (Decides-int_eq k.id key.id).1 (ap (λ (q : RowKey). q.id) same)))

module _ (x : Transactions) (s : ℕ) (key : RowKey) (content : Option (List Cell)) (old new : Store RowKey (List Cell)) where
  -- whatever a change of one row answers, it leaves versions of the session beside those that were there
  pub rows_left : {A E : Type 0} (r : Result A E) → OnOk r (AddsVersion key_cmp x s key content old new) → OnErr r (SameVersions key_cmp old new) → (k : RowKey) → AddsOwn x s (versions_at key_cmp old k) (versions_at key_cmp new k)
  rows_left (Err e) adds same k = own_same x s _ _ (same.same k)
  rows_left (Ok u) adds same k = by_place (key_or_other k key)
    where
      by_place : (k ≡ key) ⊎ (k ≡ key → ⊥) → AddsOwn x s (versions_at key_cmp old k) (versions_at key_cmp new k)
      by_place (inr apart) = own_same x s _ _ (adds.others k apart)
      by_place (inl is) = subst (λ (q : RowKey). AddsOwn x s (versions_at key_cmp old q) (versions_at key_cmp new q)) (sym is) (record { more = adds.version ∷ []; is = adds.here; own = (adds.is_new, tt) })
