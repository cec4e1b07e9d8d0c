-- Which views are kept.
use Rattle.std.proofs.Common.{ℕ, ◌+◌, ◌<◌, ◌≤◌, ◌≡◌, ◌⊎◌, List, [], ◌∷◌, length}
use Rattle.std.specs.Prelude.{Contains}
use Rattle.lo_model.specs.declared.viewer.Viewer.TheVariants.{Nobody, Whole, Below}
use Rattle.xact_core.specs.declared.snapshot.Snapshot.{Snapshot}
use Rattle.xact_core.specs.Kept.{view_at, kept_views, KeptBy}
use Rattle.xact_core.specs.Transactions.{Transactions, levels_of}
use Rattle.xact_core.proofs.KeptViews as views

pub cons_cases : {X : Type 0} (head x : X) (rest : List X) → Contains (head ∷ rest) x → (head ≡ x) ⊎ Contains rest x
cons_cases head x rest p = views.cons_cases head x rest p

pub cons_rest : {X : Type 0} (head x : X) (rest : List X) → Contains rest x → Contains (head ∷ rest) x
cons_rest head x rest p = views.cons_rest head x rest p

pub cons_first : {X : Type 0} (x : X) (rest : List X) → Contains (x ∷ rest) x
cons_first x rest = views.cons_first x rest

pub nil_none : {X : Type 0} (x : X) → Contains {X = X} [] x → ⊥
nil_none x p = views.nil_none x p

pub kept_is : (x : Transactions) (v : Snapshot) → Contains (kept_views x) v → KeptBy x v
kept_is x v here = views.kept_is x v here

pub nobody_kept : (x : Transactions) → Contains (kept_views x) (view_at (x.clock + 1) Nobody)
nobody_kept x = views.committed_kept x

pub whole_kept : (x : Transactions) (s : ℕ) → 1 ≤ s → 0 < length (levels_of x s) → Contains (kept_views x) (view_at (x.clock + 1) (Whole s))
whole_kept x s low some = views.whole_kept x s some

pub below_kept : (x : Transactions) (s l : ℕ) → 1 ≤ s → 1 ≤ l → l ≤ length (levels_of x s) → Contains (kept_views x) (view_at (x.clock + 1) (Below s l))
below_kept x s l first low high = views.below_kept x s l low high

pub held_kept : (x : Transactions) (v : Snapshot) → Contains x.held v → Contains (kept_views x) v
held_kept x v held = views.held_kept x v held
