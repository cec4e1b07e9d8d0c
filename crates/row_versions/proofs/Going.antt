-- A store goes with its transactions through each call.
use Rattle.std.proofs.Common.{ℕ, ◌+◌, ◌<◌, ◌≤◌, ◌≡◌, ◌⊎◌, inl, inr, false, List, [], ◌∷◌, ◌++◌, length, Option, Some, None, refl, ap, sym, subst, ◌∙◌, arith}
use Rattle.std.specs.Prelude.{◌==◌, option_and_then, Result, Ok, Err, OnOk, OnErr}
use Rattle.std.proofs.lemmas.Bool.{cases_eq}
use Rattle.std.proofs.lemmas.Bool.Decides.{nat_tests}
use Rattle.std.proofs.lemmas.Option.{none-some}
use Rattle.lo_model.specs.declared.owner.Owner.{Owner}
use Rattle.lo_model.specs.declared.owner.Owner.TheVariants.{Running, Committed}
use Rattle.lo_model.specs.Edit.{Edit}
use Rattle.lo_model.specs.Touch.{lower_of, other_session}
use Rattle.xact_core.specs.Ends.{Turns, same, release, undo, commit_at, Opens}
use Rattle.xact_core.specs.Kept.{kept_views}
use Rattle.xact_core.specs.declared.snapshot.Snapshot.{Snapshot}
use Rattle.xact_core.specs.Stamp.{owner_of, IsIssued}
use Rattle.xact_core.specs.Transactions.{Transactions, levels_of}
use Rattle.row_versions.specs.Calls.{Releases, UndoesLevel, Commits, Aborts}
use Rattle.row_versions.specs.Found.{is_erasure}
use Rattle.row_versions.specs.Stack.{Each, IsStack, KeepsStacks, IsFreeFor, turned}
use Rattle.std.specs.Cmp.{IsTotalOrder}
use Rattle.std.specs.declared.cmp.Ordering.{Ordering}
use Rattle.std.proofs.lemmas.Map.Lookups.{CmpEqualImpliesEq}
use Rattle.row_versions.specs.Calls.{Ticks}
use Rattle.xact_core.specs.Kept.{HoldsOthers}
use Rattle.row_versions.specs.Store.{versions_at, HasNoEmpty, ListsUnsettled, AddsVersion, SameVersions, KeepsListed, GoesWith}
use Rattle.row_versions.specs.Stands.{Version, standing, Fits, IsSettled, lowest_other, vacuumed}
use Rattle.row_versions.specs.declared.store.Store.{Store}
use Rattle.row_versions.proofs.Agreeing.{standing_turned, fits_turned}
use Rattle.row_versions.proofs.Laws.{settled_turned, standing_end, standing_vacuumed, vacuumed_each}
use Rattle.row_versions.proofs.Stacking.{each_end, stack_turned, stack_pushed, release_keeps, undo_keeps, abort_keeps, commit_keeps, later_keeps, opens_more}
use Rattle.row_versions.proofs.Storing.{same_or_not}
use Rattle.row_versions.proofs.Vacuuming.{reclaimed_stack}

-- where there is no lowest other session, no edit is another's
pub lowest_first : (a b : Option ℕ) → lower_of a b ≡ None → (a ≡ None) × (b ≡ None)
lowest_first None b none = (refl, none)
lowest_first (Some a) None none = absurd (none-some a (sym none))
lowest_first (Some a) (Some b) none = absurd (none-some _ (sym none))

own_or_none : (s : ℕ) (w : Owner) → other_session s w ≡ None → IsFreeFor s w
own_or_none s (Committed c) none = tt
own_or_none s (Running t l) none = by_equal (cases_eq t s)
  where
    by_equal : (t ≡ s) ⊎ (t ≡ s → ⊥) → t ≡ s
    by_equal (inl is) = is
    by_equal (inr apart) =
        let other : (t == s) ≡ false = grind (arith, nat_tests) in
        let some : other_session s (Running t l) ≡ Some t = rw other refl in
        absurd (none-some t (sym none ∙ some))

pub free_from_lowest : {D : Type 0} (s : ℕ) (es : List (Edit D)) → lowest_other s es ≡ None → Each (λ (e : Edit D). IsFreeFor s e.owner) es
free_from_lowest s [] none = tt
free_from_lowest s (e ∷ es) none =
    let parts : (other_session s e.owner ≡ None) × (lowest_other s es ≡ None) = lowest_first (other_session s e.owner) (lowest_other s es) none in
    (own_or_none s e.owner parts.0, free_from_lowest s es parts.1)

and_same : (o : Option Owner) → o ≡ option_and_then same o
and_same None = refl
and_same (Some w) = refl

module _ {K D : Type 0} (cmp : K → K → Ordering) (total : IsTotalOrder cmp) (exact : CmpEqualImpliesEq cmp) where
  -- through the ends of levels and transactions
  pub goes_turned : (turn : Owner → Option Owner) (old new : Transactions) (store : Store K D) → ((c : ℕ) → turn (Committed c) ≡ Some (Committed c)) → KeepsStacks turn old new → Turns turn old new → GoesWith cmp old store → GoesWith cmp new store
  goes_turned turn old new store committed keeps turns goes = record {
    fits = λ key. fits_turned turn old new (versions_at cmp store key) turns (goes.fits key);
    stacks = λ key. (let are : standing new (versions_at cmp store key) ≡ turned turn (standing old (versions_at cmp store key)) = standing_turned turn old new (versions_at cmp store key) turns (goes.fits key) in rw are (stack_turned turn old new keeps (standing old (versions_at cmp store key)) (goes.stacks key)));
    listed = record { settled = λ key. by_case key (goes.listed.settled key) };
    full = goes.full;
  }
    where
      by_case : {B : Type 0} (key : K) → IsSettled is_erasure old (versions_at cmp store key) ⊎ B → IsSettled is_erasure new (versions_at cmp store key) ⊎ B
      by_case key (inl settled) = inl (settled_turned is_erasure turn old new (versions_at cmp store key) committed turns (goes.fits key) settled)
      by_case key (inr is) = inr is

  pub goes_released : (s k : ℕ) (old new : Transactions) (store : Store K D) → Releases s k old new → GoesWith cmp old store → GoesWith cmp new store
  goes_released s k old new store by goes = goes_turned (release s k) old new store (λ c. refl) (release_keeps s k old new by.ends.levels.low by.low by.high by.ends.levels by.ends.clock) by.ends.owners goes

  pub goes_undone : (s k : ℕ) (old new : Transactions) (store : Store K D) → UndoesLevel s k old new → GoesWith cmp old store → GoesWith cmp new store
  goes_undone s k old new store by goes = goes_turned (undo s k) old new store (λ c. refl) (undo_keeps s k old new by.ends.levels.low by.low by.high by.ends.levels by.ends.clock) by.ends.owners goes

  pub goes_aborted : (s : ℕ) (old new : Transactions) (store : Store K D) → Aborts s old new → GoesWith cmp old store → GoesWith cmp new store
  goes_aborted s old new store by goes = goes_turned (undo s 1) old new store (λ c. refl) (abort_keeps s old new by.ends.levels.low by.ends.levels by.ends.clock) by.ends.owners goes

  pub goes_committed : (s : ℕ) (old new : Transactions) (store : Store K D) → Commits s old new → GoesWith cmp old store → GoesWith cmp new store
  goes_committed s old new store by goes = goes_turned (commit_at s old.clock) old new store (λ c. refl) (commit_keeps s old new by.ends.levels.low by.ends.levels by.ends.clock) by.ends.owners goes

  -- through a put of a key that is not busy
  pub goes_added : (x : Transactions) (s : ℕ) (key : K) (deed : Option D) (old new : Store K D) → 1 ≤ s → 0 < length (levels_of x s) → lowest_other s (standing x (versions_at cmp old key)) ≡ None → AddsVersion cmp x s key deed old new → KeepsListed cmp x old new → GoesWith cmp x old → GoesWith cmp x new
  goes_added x s key deed old new one some free adds lists goes = record {
    fits = λ k. fits k (same_or_not cmp total exact k key);
    stacks = λ k. stacks k (same_or_not cmp total exact k key);
    listed = lists.keeps goes.listed;
    full = lists.full goes.full;
  }
    where
      fits : (k : K) → (k ≡ key) ⊎ (k ≡ key → ⊥) → Fits x (versions_at cmp new k)
      fits k (inl is) = subst (λ (n : K). Fits x (versions_at cmp new n)) (sym is) (rw adds.here (each_end (λ (v : Version (Option D)). IsIssued x v.stamp) (versions_at cmp old key) adds.version (goes.fits key) adds.is_new.issued))
      fits k (inr apart) = rw (adds.others k apart) (goes.fits k)

      top : ℕ
      top = length (levels_of x s)

      made : Edit (Option D)
      made = record { clock = x.clock; owner = Running s (length (levels_of x s)); deed = adds.version.deed }

      are : standing x (versions_at cmp old key ++ adds.version ∷ []) ≡ standing x (versions_at cmp old key) ++ made ∷ []
      are = standing_end x adds.version (Running s (length (levels_of x s))) adds.is_new.owner (versions_at cmp old key) ∙ ap (λ (c : ℕ). standing x (versions_at cmp old key) ++ record { clock = c; owner = Running s (length (levels_of x s)); deed = adds.version.deed } ∷ []) adds.is_new.clock

      stacks : (k : K) → (k ≡ key) ⊎ (k ≡ key → ⊥) → IsStack x (standing x (versions_at cmp new k))
      stacks k (inl is) = subst (λ (n : K). IsStack x (standing x (versions_at cmp new n))) (sym is) (rw (adds.here, are) (stack_pushed x s adds.version.deed (standing x (versions_at cmp old key)) one some (goes.stacks key) (free_from_lowest s (standing x (versions_at cmp old key)) free)))
      stacks k (inr apart) = rw (adds.others k apart) (goes.stacks k)

  -- through a reclamation
  pub goes_vacuumed : (x : Transactions) (old new : Store K D) → ((key : K) → versions_at cmp new key ≡ vacuumed is_erasure x (versions_at cmp old key)) → ListsUnsettled cmp x new → HasNoEmpty cmp new.chains → GoesWith cmp x old → GoesWith cmp x new
  goes_vacuumed x old new are listed full goes = record {
    fits = λ key. rw (are key) (vacuumed_each (λ (v : Version (Option D)). IsIssued x v.stamp) is_erasure x (versions_at cmp old key) (goes.fits key));
    stacks = λ key. rw (are key, standing_vacuumed is_erasure x (versions_at cmp old key)) (reclaimed_stack is_erasure (kept_views x) x (standing x (versions_at cmp old key)) (goes.stacks key));
    listed = listed;
    full = full;
  }

  -- through the calls that change no owner
  pub goes_opened : (s : ℕ) (name : Option (List ℕ)) (old new : Transactions) (store : Store K D) → 1 ≤ s → Opens s name old new → GoesWith cmp old store → GoesWith cmp new store
  goes_opened s name old new store one opens goes = goes_turned same old new store (λ c. refl) (later_keeps old new (omega (arith, opens.clock)) (opens_more s name old new one opens.levels)) opens.owners goes

  pub goes_ticked : (old : Transactions) (store : Store K D) → GoesWith cmp old store → GoesWith cmp (record old { clock = old.clock + 1 }) store
  goes_ticked old store goes =
      goes_turned same old (record old { clock = old.clock + 1 }) store (λ c. refl)
      (later_keeps old (record old { clock = old.clock + 1 }) (omega arith) (λ t low. omega arith))
      (record { owners = λ st given. and_same (owner_of old st); issued = λ st given. record { place = given.place; undos = given.undos; clock = omega (arith, given.clock) } })
      goes

  pub goes_holding : (old : Transactions) (held : List Snapshot) (store : Store K D) → GoesWith cmp old store → GoesWith cmp (record old { held = held }) store
  goes_holding old held store goes =
      goes_turned same old (record old { held = held }) store (λ c. refl)
      (later_keeps old (record old { held = held }) (omega arith) (λ t low. omega arith))
      (record { owners = λ st given. and_same (owner_of old st); issued = λ st given. record { place = given.place; undos = given.undos; clock = given.clock } })
      goes

  pub goes_same : (x : Transactions) (old new : Store K D) → SameVersions cmp old new → KeepsListed cmp x old new → GoesWith cmp x old → GoesWith cmp x new
  goes_same x old new same_ones lists goes = record {
    fits = λ key. rw (same_ones.same key) (goes.fits key);
    stacks = λ key. rw (same_ones.same key) (goes.stacks key);
    listed = lists.keeps goes.listed;
    full = lists.full goes.full;
  }

  pub goes_put : {A E : Type 0} (result : Result A E) (x : Transactions) (s : ℕ) (key : K) (deed : Option D) (old new : Store K D) → 1 ≤ s → 0 < length (levels_of x s) → lowest_other s (standing x (versions_at cmp old key)) ≡ None → OnOk result (AddsVersion cmp x s key deed old new) → OnErr result (SameVersions cmp old new) → KeepsListed cmp x old new → GoesWith cmp x old → GoesWith cmp x new
  goes_put (Ok a) x s key deed old new one some free ok err lists goes = goes_added x s key deed old new one some free ok lists goes
  goes_put (Err e) x s key deed old new one some free ok err lists goes = goes_same x old new err lists goes

  pub goes_ticks : (old new : Transactions) (store : Store K D) → Ticks old new → GoesWith cmp old store → GoesWith cmp new store
  goes_ticks old new store by goes = subst (λ (x : Transactions). GoesWith cmp x store) (sym by.is) (goes_ticked old store goes)

  pub goes_holds : (old new : Transactions) (store : Store K D) → HoldsOthers old new → GoesWith cmp old store → GoesWith cmp new store
  goes_holds old new store by goes = subst (λ (x : Transactions). GoesWith cmp x store) (sym by.rest) (goes_holding old new.held store goes)
