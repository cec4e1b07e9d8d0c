-- What a read of a part of an object answers, whatever edits its view has.
use Rattle.std.specs.Prelude.{◌≡◌, ◌≤◌, ℕ, ◌+◌, List, length, Some}
use Rattle.lo_base.specs.declared.refusal.Denied.{Denied}
use Rattle.lo_base.specs.declared.refusal.Denied.TheVariants.{By, NoMemory}
use Rattle.lo_base.specs.declared.refusal.Refusal.{Refusal}
use Rattle.lo_model.specs.Descriptor.{bytes_or_none}
use Rattle.lo_model.specs.Edit.{Deed, Edit}
use Rattle.lo_model.specs.Object.{object_in}
use Rattle.lo_pages.specs.declared.pages.Pages.{Pages}
use Rattle.lo_pages.specs.Outcome.{piece_at}
use Rattle.lo_pages.specs.Standing.{ReadsAs}
use Rattle.xact_core.specs.declared.snapshot.Snapshot.{Snapshot}
use Rattle.xact_core.specs.Transactions.{Transactions}
use Rattle.lo_calls.specs.Descriptors.{last_position}
use Rattle.lo_calls.specs.Terms.{read_limit, too_much}

-- the bytes of an object from an offset on, at most so many, in a view that has these edits
abbrev pub part_read : (oid at most : ℕ) → List (Edit Deed) → List ℕ
part_read o at most edits = piece_at at most (bytes_or_none (object_in o edits))

-- A read gave the part, which ends where objects end at most.
pub record ReadsPart (x : Transactions) (v : Snapshot) (pages : Pages) (oid at most : ℕ) (bytes : List ℕ) : Type 0 where
  pub is : (edits : List (Edit Deed)) → ReadsAs x v pages edits → bytes ≡ part_read oid at most edits
  pub few : length bytes ≤ read_limit
  pub near : at ≤ last_position → at + length bytes ≤ last_position

-- A read was refused, since the part has too many bytes.
pub record RefusesPart (x : Transactions) (v : Snapshot) (pages : Pages) (oid at most : ℕ) (r : Refusal) : Type 0 where
  pub much : (edits : List (Edit Deed)) → ReadsAs x v pages edits → too_much (length (part_read oid at most edits)) ≡ Some r

abbrev pub DeniesPart : Transactions → Snapshot → Pages → (oid at most : ℕ) → Denied → Type 0
DeniesPart x v pages o at most (By r) = RefusesPart x v pages o at most r
DeniesPart x v pages o at most NoMemory = Unit {0}
