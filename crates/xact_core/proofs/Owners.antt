-- What the end of levels makes of owners, and so of the owner of each stamp.
use Rattle.std.proofs.Common.{ℕ, ◌-◌, ◌<◌, ◌≤◌, ◌≡◌, ◌≢◌, Bool, true, false, Option, Some, None, refl, ap, subst, ◌∙◌, arith}
use Rattle.std.specs.Prelude.{option_map, option_and_then, nat_lt, ◌&&◌, not, if◌then◌else◌}
use Rattle.std.proofs.lemmas.Bool.Decides.{nat_tests}
use Rattle.std.proofs.lemmas.Option.{none-some, same_Some}
use Rattle.lo_model.specs.declared.owner.Owner.{Owner}
use Rattle.lo_model.specs.declared.owner.Owner.TheVariants.{Running, Committed}
use Rattle.lo_model.specs.Levels.{is_from_level}
use Rattle.xact_core.specs.declared.fate.Fate.{Fate}
use Rattle.xact_core.specs.declared.stamp.Stamp.{Stamp}
use Rattle.xact_core.specs.Ends.{release, undo, commit_at}
use Rattle.xact_core.specs.Fate.{is_some_from, fate_after}
use Rattle.xact_core.specs.Inside.{IsOwnerAt}
use Rattle.xact_core.specs.Stamp.{owner_in}

-- whether an owner is from a level, where an end may leave none
abbrev pub fate : ℕ → Option Owner → Fate
fate since owner = record { owner = owner; since = since }

-- an end of a session's levels from one on: any other owner stays, no owner is left at those levels, and nothing changes
-- for other sessions
pub record EndsFrom (s k : ℕ) (turn : Owner → Option Owner) : Type 0 where
  pub keeps : (owner : Owner) → is_from_level s k owner ≡ false → turn owner ≡ Some owner
  pub leaves : (owner : Owner) → is_some_from s k (turn owner) ≡ false
  pub other : (t j : ℕ) (owner : Owner) → t ≢ s → is_some_from t j (turn owner) ≡ is_from_level t j owner

-- what an end leaves is bounded as what there was
abbrev pub KeepsBounds : (clock : ℕ) → (Owner → Option Owner) → Type 0
KeepsBounds clock turn = (owner left : Owner) → IsOwnerAt clock owner → turn owner ≡ Some left → IsOwnerAt clock left

-- A release

pub release_ends : (s k : ℕ) → 1 ≤ k → EndsFrom s k (release s k)
release_ends s k low = record { keeps = λ owner other. rw other refl; leaves = leaves; other = other }
  where
    leaves : (owner : Owner) → is_some_from s k (release s k owner) ≡ false
    leaves (Committed c) = refl
    leaves (Running t l) = grind (arith, nat_tests)

    other : (t j : ℕ) (owner : Owner) → t ≢ s → is_some_from t j (release s k owner) ≡ is_from_level t j owner
    other t j (Committed c) apart = refl
    other t j (Running u l) apart = grind (arith, nat_tests)

-- below the level nothing changes for the session either
pub released_level : (s k j : ℕ) (owner : Owner) → j < k → is_some_from s j (release s k owner) ≡ is_from_level s j owner
released_level s k j (Committed c) lower = refl
released_level s k j (Running t l) lower = grind (arith, nat_tests)

picked : (clock : ℕ) (b : Bool) (x y left : Owner) → IsOwnerAt clock x → IsOwnerAt clock y → Some (if b then x else y) ≡ Some left → IsOwnerAt clock left
picked clock true x y left first second is = subst (IsOwnerAt clock) (same_Some _ _ is) first
picked clock false x y left first second is = subst (IsOwnerAt clock) (same_Some _ _ is) second

pub release_bounds : (clock s k : ℕ) → 1 ≤ s → s ≤ 16 → KeepsBounds clock (release s k)
release_bounds clock s k low high owner left before is = picked clock (is_from_level s k owner) (Running s (k - 1)) owner left (low, high) before is

-- An undoing, and an abort, which undoes level 1

pub undo_ends : (s k : ℕ) → EndsFrom s k (undo s k)
undo_ends s k = record { keeps = λ owner other. rw other refl; leaves = leaves; other = other }
  where
    leaves : (owner : Owner) → is_some_from s k (undo s k owner) ≡ false
    leaves (Committed c) = refl
    leaves (Running t l) = grind (arith, nat_tests)

    other : (t j : ℕ) (owner : Owner) → t ≢ s → is_some_from t j (undo s k owner) ≡ is_from_level t j owner
    other t j (Committed c) apart = refl
    other t j (Running u l) apart = grind (arith, nat_tests)

pub undone_level : (s k j : ℕ) (owner : Owner) → is_some_from s j (undo s k owner) ≡ (is_from_level s j owner && not (is_from_level s k owner))
undone_level s k j owner = by_tests (is_from_level s k owner) (is_from_level s j owner) refl
  where
    by_tests : (b c : Bool) → is_from_level s j owner ≡ c → is_some_from s j (if b then None else Some owner) ≡ (c && not b)
    by_tests true true is = refl
    by_tests true false is = refl
    by_tests false true is = is
    by_tests false false is = is

pub undo_bounds : (clock s k : ℕ) → KeepsBounds clock (undo s k)
undo_bounds clock s k owner left before is = by_test (is_from_level s k owner) is
  where
    by_test : (b : Bool) → (if b then None else Some owner) ≡ Some left → IsOwnerAt clock left
    by_test true gone = absurd (none-some _ gone)
    by_test false stays = subst (IsOwnerAt clock) (same_Some _ _ stays) before

-- A commit

pub commit_ends : (s c : ℕ) → EndsFrom s 0 (commit_at s c)
commit_ends s c = record { keeps = λ owner other. rw other refl; leaves = leaves; other = other }
  where
    leaves : (owner : Owner) → is_some_from s 0 (commit_at s c owner) ≡ false
    leaves (Committed d) = refl
    leaves (Running t l) = grind (arith, nat_tests)

    other : (t j : ℕ) (owner : Owner) → t ≢ s → is_some_from t j (commit_at s c owner) ≡ is_from_level t j owner
    other t j (Committed d) apart = refl
    other t j (Running u l) apart = grind (arith, nat_tests)

pub commit_bounds : (clock s c : ℕ) → c ≤ clock → KeepsBounds clock (commit_at s c)
commit_bounds clock s c past owner left before is = picked clock (is_from_level s 0 owner) (Committed c) owner left past before is

-- an end after which nothing of a session is open, as no level is 0
pub record EndsAll (s : ℕ) (turn : Owner → Option Owner) : Type 0 where
  pub idle : (o : Option Owner) → is_some_from s 1 o ≡ is_some_from s 0 o → is_some_from s 0 (option_and_then turn o) ≡ false

pub commit_all : (s c : ℕ) → EndsAll s (commit_at s c)
commit_all s c = record { idle = idle }
  where
    idle : (o : Option Owner) → is_some_from s 1 o ≡ is_some_from s 0 o → is_some_from s 0 (option_and_then (commit_at s c) o) ≡ false
    idle None alike = refl
    idle (Some owner) alike = (commit_ends s c).leaves owner

pub undo_all : (s : ℕ) → EndsAll s (undo s 1)
undo_all s = record { idle = idle }
  where
    neither : (a b : Bool) → b ≡ a → (a && not b) ≡ false
    neither true b is = ap not is
    neither false b is = refl

    idle : (o : Option Owner) → is_some_from s 1 o ≡ is_some_from s 0 o → is_some_from s 0 (option_and_then (undo s 1) o) ≡ false
    idle None alike = refl
    idle (Some owner) alike = undone_level s 1 0 owner ∙ neither (is_from_level s 0 owner) (is_from_level s 1 owner) alike

-- Fates, and levels of an owner if there is one

-- what runs at a level or above it, runs at each lower one or above that
pub from_lower : (s j k : ℕ) (o : Option Owner) → j ≤ k → is_some_from s k o ≡ true → is_some_from s j o ≡ true
from_lower s j k None lower runs = runs
from_lower s j k (Some (Committed c)) lower runs = runs
from_lower s j k (Some (Running t l)) lower runs = grind (arith, nat_tests)

pub fate_kept : (s k : ℕ) (turn : Owner → Option Owner) → EndsFrom s k turn → (x : Fate) → is_some_from s k x.owner ≡ false → fate_after turn x ≡ x
fate_kept s k turn ends x other = kept x.since x.owner other
  where
    kept : (since : ℕ) (o : Option Owner) → is_some_from s k o ≡ false → fate_after turn (fate since o) ≡ fate since o
    kept since None other = refl
    kept since (Some owner) other = rw (ends.keeps owner other) refl

pub fate_twice : (s k : ℕ) (turn : Owner → Option Owner) → EndsFrom s k turn → (x : Fate) → fate_after turn (fate_after turn x) ≡ fate_after turn x
fate_twice s k turn ends x = fate_kept s k turn ends (fate_after turn x) (none_left x.owner)
  where
    none_left : (o : Option Owner) → is_some_from s k (option_and_then turn o) ≡ false
    none_left None = refl
    none_left (Some owner) = ends.leaves owner

-- what an end makes of the owner of a stamp
pub owner_turns : (turn : Owner → Option Owner) (st : Stamp) (o : Option Fate) → owner_in st (option_map (fate_after turn) o) ≡ option_and_then turn (owner_in st o)
owner_turns turn st None = refl
owner_turns turn st (Some x) = by_test (nat_lt st.undos x.since) x.owner
  where
    by_test : (b : Bool) (owner : Option Owner) → (if b then None else option_and_then turn owner) ≡ option_and_then turn (if b then None else owner)
    by_test true owner = refl
    by_test false owner = refl
