-- The views in which a store answers, and what they have after an end.
use Rattle.std.specs.Prelude.{◌≡◌, List, Option, Contains}
use Rattle.lo_model.specs.declared.owner.Owner.{Owner}
use Rattle.lo_model.specs.Edit.{Edit}
use Rattle.lo_model.specs.View.{sees}
use Rattle.xact_core.specs.declared.snapshot.Snapshot.{Snapshot}
use Rattle.xact_core.specs.Kept.{kept_views}
use Rattle.xact_core.specs.Stamp.{sees_made}
use Rattle.xact_core.specs.Transactions.{Transactions}
use Rattle.row_versions.specs.Stack.{Each}

-- whether a view has an edit, alike through an end
abbrev pub SeesAsBefore : {D : Type 0} → (Owner → Option Owner) → (now before : Snapshot) → Edit D → Type 0
SeesAsBefore turn v u e = sees_made v e.clock (turn e.owner) ≡ sees u.clock u.viewer e.clock e.owner

-- At a place a view has after an end what some view of a class had there before it.
pub record IsCoveredBy {D : Type 0} (W : Snapshot → Type 0) (turn : Owner → Option Owner) (es : List (Edit D)) (v : Snapshot) : Type 0 where
  pub before : Snapshot
  pub kept : W before
  pub alike : Each (SeesAsBefore turn v before) es

-- the looks in which a store answers
abbrev pub IsLook : Transactions → Snapshot → Type 0
IsLook x v = Contains (kept_views x) v

abbrev pub IsCovered : {D : Type 0} → (Owner → Option Owner) → Transactions → List (Edit D) → Snapshot → Type 0
IsCovered turn old es v = IsCoveredBy (IsLook old) turn es v
