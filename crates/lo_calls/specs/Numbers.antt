-- The number for a new object, whatever edits the pages stand for.
use Rattle.std.specs.Prelude.{◌≡◌, ℕ, pos, ◌+◌, ◌==◌, List, Option, Some, None, if◌then◌else◌}
use Rattle.lo_base.specs.declared.refusal.Cause.TheVariants.{NoOids}
use Rattle.lo_base.specs.declared.refusal.Refusal.{Refusal}
use Rattle.lo_model.specs.Edit.{Deed, Edit}
use Rattle.lo_model.specs.Numbering.{picked_oid}
use Rattle.lo_pages.specs.Standing.{StandFor}
use Rattle.xact_core.specs.Transactions.{Transactions}
use Rattle.lo_calls.specs.declared.store.LoStore.{LoStore}

-- the number that is asked for, or the picked one for 0
abbrev pub number_in : Transactions → LoStore → (oid : ℕ) → List (Edit Deed) → Option ℕ
number_in x store o ys = if o == 0 then picked_oid (x.clock + 1) store.counter ys else Some o

pub record IsNumber (x : Transactions) (store : LoStore) (asked number : ℕ) : Type 0 where
  pub is : (ys : List (Edit Deed)) → StandFor x store.pages ys → number_in x store asked ys ≡ Some number

-- none is left, which the refusal says
pub record IsNoNumber (x : Transactions) (store : LoStore) (asked : ℕ) (r : Refusal) : Type 0 where
  pub none : (ys : List (Edit Deed)) → StandFor x store.pages ys → number_in x store asked ys ≡ None
  pub refusal : r ≡ record { cause = NoOids; subject = pos 0 }
