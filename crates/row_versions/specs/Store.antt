-- What contracts read of a store of versions: the versions of one key, and that the store goes with its transactions.
use Rattle.std.specs.Prelude.{ℕ, Bool, true, false, not, ◌⊎◌, ◌≡◌, ◌≢◌, List, [], ◌∷◌, ◌++◌, Option, length, ◌==◌}
use Rattle.std.specs.List.{list_any}
use Rattle.std.specs.Option.{option_map_or}
use Rattle.std.specs.declared.cmp.Ordering.{Ordering}
use Rattle.std.specs.BTreeMap.{BTreeMap, get, is_at}
use Rattle.std.specs.declared.vec.Vec.{Vec}
use Rattle.std.specs.declared.alloc.Global.{Global}
use Rattle.lo_model.specs.Edit.{Edit}
use Rattle.xact_core.specs.Transactions.{Transactions}
use Rattle.row_versions.specs.declared.chain.Entry.{Entry}
use Rattle.row_versions.specs.declared.store.Store.{Store}
use Rattle.row_versions.specs.Chain.{versions_of}
use Rattle.row_versions.specs.Found.{is_erasure, is_settled}
use Rattle.row_versions.specs.Stack.{IsStack}
use Rattle.row_versions.specs.Stands.{Version, standing, Fits, IsSettled, IsNew, vacuumed}

-- What contracts read of a store: the versions of one key, in the order made.

abbrev pub versions_in : {K D : Type 0} → (K → K → Ordering) → BTreeMap K (Vec (Entry D) Global) → (key : K) → List (Version (Option D))
versions_in cmp chains key = option_map_or (λ entries. versions_of entries.items) (get cmp chains key) []

abbrev pub versions_at : {K D : Type 0} → (K → K → Ordering) → Store K D → (key : K) → List (Version (Option D))
versions_at cmp store key = versions_in cmp store.chains key

-- whether the map has a key with no version
abbrev pub is_empty_at : {K D : Type 0} → (K → K → Ordering) → BTreeMap K (Vec (Entry D) Global) → (key : K) → Bool
is_empty_at cmp chains key = option_map_or (λ entries. length entries.items == 0) (get cmp chains key) false

-- those that were not undone, as edits of those whose they are now
abbrev pub edits_at : {K D : Type 0} → (K → K → Ordering) → Transactions → Store K D → (key : K) → List (Edit (Option D))
edits_at cmp x store key = standing x (versions_at cmp store key)

-- One key has one version more, which the session makes now, and every other one those that it had.
pub record AddsVersion {K D : Type 0} (cmp : K → K → Ordering) (x : Transactions) (s : ℕ) (key : K) (deed : Option D) (old new : Store K D) : Type 0 where
  pub version : Version (Option D)
  pub is_new : IsNew x s version
  pub deed_is : version.deed ≡ deed
  pub here : versions_at cmp new key ≡ versions_at cmp old key ++ version ∷ []
  pub others : (k : K) → k ≢ key → versions_at cmp new k ≡ versions_at cmp old k

-- No key has other versions than it had.
pub record SameVersions {K D : Type 0} (cmp : K → K → Ordering) (old new : Store K D) : Type 0 where
  pub same : (k : K) → versions_at cmp new k ≡ versions_at cmp old k

abbrev pub is_among : {K : Type 0} → (K → K → Ordering) → List K → K → Bool
is_among cmp keys key = list_any (is_at (cmp key)) keys

-- each key that a vacuum has to look at is in the set of those
pub record ListsUnsettled {K D : Type 0} (cmp : K → K → Ordering) (x : Transactions) (store : Store K D) : Type 0 where
  pub settled : (key : K) → IsSettled is_erasure x (versions_at cmp store key) ⊎ (is_among cmp store.unsettled.keys key ≡ true)

-- each key of the map has a version
pub record HasNoEmpty {K D : Type 0} (cmp : K → K → Ordering) (chains : BTreeMap K (Vec (Entry D) Global)) : Type 0 where
  pub none : (key : K) → is_empty_at cmp chains key ≡ false

-- what was to be looked at still is, and no key is left without versions
pub record KeepsListed {K D : Type 0} (cmp : K → K → Ordering) (x : Transactions) (old new : Store K D) : Type 0 where
  pub keeps : ListsUnsettled cmp x old → ListsUnsettled cmp x new
  pub full : HasNoEmpty cmp old.chains → HasNoEmpty cmp new.chains

-- the versions of some keys were vacuumed, and those of no other
pub record VacuumsKeys {K D : Type 0} (cmp : K → K → Ordering) (x : Transactions) (keys : List K) (old new : K → List (Version (Option D))) : Type 0 where
  pub here : (key : K) → is_among cmp keys key ≡ true → new key ≡ vacuumed is_erasure x (old key)
  pub others : (key : K) → is_among cmp keys key ≡ false → new key ≡ old key

abbrev pub is_unsettled : {K D : Type 0} → (K → K → Ordering) → Transactions → BTreeMap K (Vec (Entry D) Global) → K → Bool
is_unsettled cmp x chains key = not (is_settled x (versions_in cmp chains key))

-- A store goes with its transactions: each version has a stamp of theirs, the versions of each key are a stack, each key that
-- a vacuum has to look at is in the set of those, and no key without versions is in the map. Each call needs this and keeps
-- it, and so does each call of the transactions.
pub record GoesWith {K D : Type 0} (cmp : K → K → Ordering) (x : Transactions) (store : Store K D) : Type 0 where
  pub fits : (key : K) → Fits x (versions_at cmp store key)
  pub stacks : (key : K) → IsStack x (standing x (versions_at cmp store key))
  pub listed : ListsUnsettled cmp x store
  pub full : HasNoEmpty cmp store.chains
