-- What a view finds among the versions of one key, each of which puts a content there or erases it.
use Rattle.std.specs.Prelude.{ℕ, Bool, true, false, not, ◌&&◌, List, [], ◌∷◌, Option, Some, None}
use Rattle.lo_model.specs.declared.owner.Owner.{Owner}
use Rattle.lo_model.specs.Edit.{Edit}
use Rattle.lo_model.specs.View.{view}
use Rattle.xact_core.specs.declared.snapshot.Snapshot.{Snapshot}
use Rattle.xact_core.specs.Stamp.{owner_of}
use Rattle.xact_core.specs.Transactions.{Transactions}
use Rattle.row_versions.specs.Stands.{Version, standing, after_all, replaces}
use Rattle.row_versions.specs.Vacuum.{is_committed}

abbrev pub is_erasure : {D : Type 0} → Option D → Bool
is_erasure None = true
is_erasure (Some content) = false

-- what a version leaves at its key
abbrev pub given : {D : Type 0} → (clock : ℕ) → Option D → Option D
given clock deed = deed

-- the content of the last put of some edits, unless an erasure follows it
abbrev pub content_of : {D : Type 0} → List (Edit (Option D)) → Option D
content_of es = after_all (replaces given) None es

-- the content that a view finds among the versions of a key
abbrev pub finds : {D : Type 0} → Transactions → Snapshot → List (Version (Option D)) → Option D
finds x v vs = content_of (view v.clock v.viewer (standing x vs))

abbrev pub is_put_by : {D : Type 0} → Option Owner → Option D → Bool
is_put_by None content = false
is_put_by (Some owner) content = is_committed owner && not (is_erasure content)

-- whether a vacuum need not look at the versions of a key: there is none, or one, which is a committed put
abbrev pub is_settled : {D : Type 0} → Transactions → List (Version (Option D)) → Bool
is_settled x [] = true
is_settled x (v ∷ []) = is_put_by (owner_of x v.stamp) v.deed
is_settled x (v ∷ (w ∷ vs)) = false
