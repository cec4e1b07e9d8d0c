-- What a session's open descriptors stand for, which views they hold, and what closes some of them.
use Rattle.std.specs.Prelude.{◌≡◌, ◌≤◌, ℕ, ℤ, pos, negsuc, Bool, not, ◌==◌, nat_le, List, [], ◌∷◌, ◌++◌, length, map, filter, flat_map, All, Option, Some, None, IsPermutation, slice_get}
use Rattle.std.specs.List.{list_any}
use Rattle.lo_model.specs.declared.viewer.Viewer.TheVariants.{Whole}
use Rattle.lo_base.specs.declared.refusal.Cause.TheVariants.{NoDescriptor}
use Rattle.lo_base.specs.declared.refusal.Refusal.{Refusal}
use Rattle.lo_model.specs.Descriptor as model
use Rattle.xact_core.specs.declared.snapshot.Snapshot.{Snapshot}
use Rattle.xact_core.specs.Kept.{kept_views, HoldsOthers, HoldsWholeViews}
use Rattle.xact_core.specs.Transactions.{Transactions}
use Rattle.lo_calls.specs.declared.descs.Closing.{Closing}
use Rattle.lo_calls.specs.declared.descs.Closing.TheVariants.{FromLevel, OnObject, OfNumber}
use Rattle.lo_calls.specs.declared.descs.Descriptor.{Descriptor}
use Rattle.lo_calls.specs.declared.descs.Descs.{Descs}

-- a descriptor without a hold reads the current view, one with a hold the view that it holds
abbrev pub reading_of : Option Snapshot → model.Reading
reading_of None = model.Current
reading_of (Some hold) = model.Kept hold.clock

abbrev pub described_by : Descriptor → model.Descriptor
described_by d = record {
  number = d.number;
  oid = d.oid;
  position = d.position;
  level = d.level;
  reading = reading_of d.hold;
}

-- the open descriptors, in the order opened
abbrev pub descriptors_of : Descs → List model.Descriptor
descriptors_of descs = map described_by descs.entries.items

-- the views that some descriptors hold
abbrev pub held_by : Option Snapshot → List Snapshot
held_by None = []
held_by (Some hold) = hold ∷ []

abbrev pub holds_in : List Descriptor → List Snapshot
holds_in entries = flat_map (λ (d : Descriptor). held_by d.hold) entries

abbrev pub holds_of : Descs → List Snapshot
holds_of descs = holds_in descs.entries.items

-- Of the views that are held, some are the holds of these descriptors, each hold a view for itself.
pub record AreHeld (x : Transactions) (descs : Descs) : Type 0 where
  pub rest : List Snapshot
  pub all : IsPermutation x.held (holds_of descs ++ rest)

-- a hold is of the whole view of the session
abbrev pub IsOwnHold : (session : ℕ) → Option Snapshot → Type 0
IsOwnHold s None = Unit {0}
IsOwnHold s (Some hold) = hold.viewer ≡ Whole s

-- No object has a byte from here on, since numbers of pages have 32 bits. Reading moves no descriptor behind it, and the other
-- calls none behind the largest size.
abbrev pub last_position : ℕ
last_position = 8796093022208

-- what each call keeps of a session's descriptors
pub record AreOpen (x : Transactions) (s : ℕ) (descs : Descs) : Type 0 where
  pub most : length descs.entries.items ≤ 256
  pub positions : All (λ (d : Descriptor). d.position ≤ last_position) descs.entries.items
  pub holds : All (λ (d : Descriptor). IsOwnHold s d.hold) descs.entries.items
  pub held : AreHeld x descs

-- which descriptors are closed: those of a level and of all above it, those on an object, or the one of a number
abbrev pub closes : Closing → Descriptor → Bool
closes (FromLevel level) d = nat_le level d.level
closes (OnObject oid) d = d.oid == oid
closes (OfNumber n) d = d.number == n

abbrev pub left_open : Closing → List Descriptor → List Descriptor
left_open closing entries = filter (λ (d : Descriptor). not (closes closing d)) entries

-- Views that are held beside those of the descriptors stay held.
pub record HoldsRest (before after : List Snapshot) (old new : Descs) : Type 0 where
  pub rest : (others : List Snapshot) → IsPermutation before (holds_of old ++ others) → IsPermutation after (holds_of new ++ others)

-- A hold, where there is one, was given back.
pub record GivesBack (hold : Option Snapshot) (x x' : Transactions) : Type 0 where
  pub others : HoldsOthers x x'
  pub order : IsPermutation x.held (held_by hold ++ x'.held)
  pub whole : HoldsWholeViews x → HoldsWholeViews x'
  pub views : length (kept_views x') ≤ length (kept_views x)

-- Some descriptors ended, and each gave back what it held: of the transactions nothing else changes, and no view more is kept.
pub record Ends (x x' : Transactions) (old new : Descs) : Type 0 where
  pub others : HoldsOthers x x'
  pub holds : HoldsRest x.held x'.held old new
  pub whole : HoldsWholeViews x → HoldsWholeViews x'
  pub views : length (kept_views x') ≤ length (kept_views x)
  pub remain : (s : ℕ) → AreOpen x s old → AreOpen x' s new

-- the descriptor of a number
abbrev pub described_at : (fd : ℤ) → List model.Descriptor → Option model.Descriptor
described_at (pos n) descriptors = model.descriptor_in n descriptors
described_at (negsuc n) descriptors = None

-- whether one of some descriptors has a number
abbrev pub has_number : List Descriptor → (number : ℕ) → Bool
has_number entries n = list_any (λ (d : Descriptor). d.number == n) entries

-- It stands at an index, and is the first that has the number.
pub record FindsDescriptor (fd : ℤ) (descs : Descs) (index : ℕ) : Type 0 where
  pub entry : Descriptor
  pub stands : slice_get descs.entries.items index ≡ Some entry
  pub found : described_at fd (descriptors_of descs) ≡ Some (described_by entry)
  pub number : fd ≡ pos entry.number

pub record FindsNone (fd : ℤ) (descs : Descs) (r : Refusal) : Type 0 where
  pub none : described_at fd (descriptors_of descs) ≡ None
  pub refusal : r ≡ record { cause = NoDescriptor; subject = fd }
