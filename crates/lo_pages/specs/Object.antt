-- Bytes by page that stand for the bytes of an object.
use Rattle.std.specs.Prelude.{◌≡◌, ℕ, zero, suc, ◌+◌, ◌-◌, ◌*◌, ◌/◌, ◌<◌, ◌≤◌, Bool, true, false, List, [], ◌∷◌, length, Option, Some, None, slice_index_or}
use Rattle.lo_model.specs.Descriptor.{bytes_or_none}
use Rattle.lo_model.specs.Edit.{Deed, Create, Write, Cut, Unlink, Put, Delete}

abbrev pub byte_at : List ℕ → ℕ → ℕ
byte_at bytes i = slice_index_or bytes i 0

-- a page that ends where the object ends
pub record EndsAt (pages : ℕ → Option (List ℕ)) (size : ℕ) : Type 0 where
  pub number : ℕ
  pub page : List ℕ
  pub there : pages number ≡ Some page
  pub end : 2048 * number + length page ≡ size

pub record IsObject (bytes : List ℕ) (pages : ℕ → Option (List ℕ)) : Type 0 where
  pub small : (b : ℕ) → length (bytes_or_none (pages b)) ≤ 2048
  pub within : (b : ℕ) (page : List ℕ) → pages b ≡ Some page → 2048 * b + length page ≤ length bytes
  pub last : 0 < length bytes → EndsAt pages (length bytes)
  pub same : (b i : ℕ) → i < 2048 → byte_at bytes (2048 * b + i) ≡ byte_at (bytes_or_none (pages b)) i

-- a head and pages stand for an object or for none
abbrev pub IsObjectAs : Option (List ℕ) → Bool → (ℕ → Option (List ℕ)) → Type 0
IsObjectAs None head pages = head ≡ false
IsObjectAs (Some bytes) head pages = (head ≡ true) × IsObject bytes pages

-- a write has a byte
abbrev pub IsProper : Deed → Type 0
IsProper (Create p) = Unit {0}
IsProper (Write p at bytes) = 0 < length bytes
IsProper (Cut p n) = Unit {0}
IsProper (Unlink p) = Unit {0}
IsProper (Put table id values stored) = Unit {0}
IsProper (Delete table id) = Unit {0}

-- so many bytes from an offset on, each read from its page, with zeros where that has fewer
abbrev pub bytes_from : (pages : ℕ → Option (List ℕ)) → (at count : ℕ) → List ℕ
bytes_from pages at zero = []
bytes_from pages at (suc more) = byte_at (bytes_or_none (pages (at / 2048))) (at - 2048 * (at / 2048)) ∷ bytes_from pages (at + 1) more
