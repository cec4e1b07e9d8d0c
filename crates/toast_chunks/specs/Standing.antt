-- Chunks of a value that stand for the edits of a place, as a row's column. Each of these edits leaves the value with its bytes,
-- or leaves none, whatever was there before.
use Rattle.std.specs.Prelude.{◌≡◌, ℕ, List, [], Option, None}
use Rattle.lo_model.specs.Edit.{Edit}
use Rattle.xact_core.specs.Transactions.{Transactions}
use Rattle.row_versions.specs.Found.{given}
use Rattle.row_versions.specs.Stack.{Each}
use Rattle.row_versions.specs.Stands.{Stands, after_all, replaces}
use Rattle.toast_chunks.specs.declared.chunks.Chunks.{Chunks}
use Rattle.toast_chunks.specs.Values.{chunk_of, versions_of}

-- the bytes of a value after edits: those that the last one leaves, and none before the first
abbrev pub left_by : {E : Type 0} → (gives : ℕ → E → List ℕ) → List (Edit E) → List ℕ
left_by gives es = after_all (replaces gives) [] es

-- a chunk of what an edit leaves
abbrev pub chunk_left : {E : Type 0} → (gives : ℕ → E → List ℕ) → (number clock : ℕ) → E → Option (List ℕ)
chunk_left gives k clock deed = chunk_of k (gives clock deed)

-- The chunks of a value stand for edits: in each kept view they are those of the bytes that the view's last edit leaves.
pub record Stand {E : Type 0} (gives : ℕ → E → List ℕ) (x : Transactions) (chunks : Chunks) (value : ℕ) (ys : List (Edit E)) : Type 0 where
  pub chunk : (k : ℕ) → Stands x given (replaces (chunk_left gives k)) None (versions_of chunks value k) ys

-- none of some edits leaves the value
abbrev pub NoneLeft : {E : Type 0} → (gives : ℕ → E → List ℕ) → List (Edit E) → Type 0
NoneLeft {E} gives ys = Each (λ (e : Edit E). gives e.clock e.deed ≡ []) ys
