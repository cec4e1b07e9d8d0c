-- Stores without versions, what a vacuum takes from each key, and what a call adds to it.
use Rattle.std.specs.Prelude.{◌≡◌, ℕ, Bool, List, [], Contains}
use Rattle.lo_model.specs.Edit.{Deed, Edit}
use Rattle.xact_core.specs.Transactions.{Transactions}
use Rattle.row_versions.specs.Stands.{AddsOwn, vacuumed}
use Rattle.row_versions.specs.Count.{Mark, mark, Apart}
use Rattle.row_versions.specs.Found.{is_erasure}
use Rattle.lo_pages.specs.Stores.{Stores}
use Rattle.lo_pages.specs.Held.{IsHeldPage}

abbrev pub no_stores : {P : Type 0} → Stores P
no_stores = record { objects = λ o. []; pages = λ o b. []; cuts = λ o b. [] }

-- what a reclamation leaves of the three stores
abbrev pub stores_vacuumed : {P : Type 0} → (erases : P → Bool) → Transactions → Stores P → Stores P
stores_vacuumed erases x stores = record {
  objects = λ o. vacuumed is_erasure x (stores.objects o);
  pages = λ o b. vacuumed erases x (stores.pages o b);
  cuts = λ o b. vacuumed is_erasure x (stores.cuts o b);
}

-- A vacuum has taken from each key of the three stores what no kept view needs.
pub record Vacuums {P : Type 0} (erases : P → Bool) (x : Transactions) (old new : Stores P) : Type 0 where
  pub objects : (o : ℕ) → new.objects o ≡ (stores_vacuumed erases x old).objects o
  pub pages : (o b : ℕ) → new.pages o b ≡ (stores_vacuumed erases x old).pages o b
  pub cuts : (o b : ℕ) → new.cuts o b ≡ (stores_vacuumed erases x old).cuts o b

-- What a call has put, also where it found no memory: new versions of the maker's top level alone.
pub record AddsOwnAll {P : Type 0} (x : Transactions) (s : ℕ) (old new : Stores P) : Type 0 where
  pub objects : (o : ℕ) → AddsOwn x s (old.objects o) (new.objects o)
  pub pages : (o b : ℕ) → AddsOwn x s (old.pages o b) (new.pages o b)
  pub cuts : (o b : ℕ) → AddsOwn x s (old.cuts o b) (new.cuts o b)

-- The held page versions of some keys, each once and no other. The keys are numbered in any way.
pub record ListsPages (x : Transactions) (ys : List (Edit Deed)) (oid_of number_of : ℕ → ℕ) (keys : List ℕ) (held : List Mark) : Type 0 where
  pub once : Apart held
  pub keyed : (m : Mark) → Contains held m → Contains keys m.key
  pub only : (m : Mark) → Contains held m → IsHeldPage x ys (oid_of m.key) (number_of m.key) m.clock
  pub each : (key clock : ℕ) → Contains keys key → IsHeldPage x ys (oid_of key) (number_of key) clock → Contains held (mark key clock)
