-- Searches over several keys: the least or the greatest key at which a view finds something, and the lowest other session
-- that has one of them open.
use Rattle.std.specs.Prelude.{ℕ, ◌≤◌, ◌≡◌, true, Option, Some, None, is_some}
use Rattle.std.specs.declared.cmp.Ordering.{Ordering}
use Rattle.std.specs.BTreeMap.Range.{IsLeBy}
use Rattle.xact_core.specs.declared.snapshot.Snapshot.{Snapshot}
use Rattle.xact_core.specs.Transactions.{Transactions}
use Rattle.row_versions.specs.declared.store.Store.{Store}
use Rattle.row_versions.specs.Found.{finds}
use Rattle.row_versions.specs.Stands.{lowest_other}
use Rattle.row_versions.specs.Store.{versions_at, edits_at}

-- what a view finds at a key
abbrev pub finds_at : {K D : Type 0} → (K → K → Ordering) → Transactions → Snapshot → Store K D → K → Option D
finds_at cmp x v store key = finds x v (versions_at cmp store key)

-- the lowest other session that has a key open
abbrev pub busy_at : {K D : Type 0} → (K → K → Ordering) → Transactions → (session : ℕ) → Store K D → K → Option ℕ
busy_at cmp x s store key = lowest_other s (edits_at cmp x store key)

-- a key that stands from one key to another, both included
pub record IsBetween {K : Type 0} (cmp : K → K → Ordering) (from to key : K) : Type 0 where
  pub low : IsLeBy cmp from key
  pub high : IsLeBy cmp key to

-- nothing is found at or above a key
pub record HasNoneFrom {K D : Type 0} (cmp : K → K → Ordering) (x : Transactions) (v : Snapshot) (store : Store K D) (from : K) : Type 0 where
  pub none : (key : K) → IsLeBy cmp from key → finds_at cmp x v store key ≡ None

-- the least key at or above another at which something is found
pub record IsLeastFrom {K D : Type 0} (cmp : K → K → Ordering) (x : Transactions) (v : Snapshot) (store : Store K D) (from key : K) : Type 0 where
  pub low : IsLeBy cmp from key
  pub some : is_some (finds_at cmp x v store key) ≡ true
  pub least : (other : K) → IsLeBy cmp from other → is_some (finds_at cmp x v store other) ≡ true → IsLeBy cmp key other

-- nothing is found from one key to another
pub record HasNoneIn {K D : Type 0} (cmp : K → K → Ordering) (x : Transactions) (v : Snapshot) (store : Store K D) (from to : K) : Type 0 where
  pub none : (key : K) → IsBetween cmp from to key → finds_at cmp x v store key ≡ None

-- the greatest key from one to another at which something is found
pub record IsGreatestIn {K D : Type 0} (cmp : K → K → Ordering) (x : Transactions) (v : Snapshot) (store : Store K D) (from to key : K) : Type 0 where
  pub between : IsBetween cmp from to key
  pub some : is_some (finds_at cmp x v store key) ≡ true
  pub greatest : (other : K) → IsBetween cmp from to other → is_some (finds_at cmp x v store other) ≡ true → IsLeBy cmp other key

-- no key from one to another is busy
pub record IsFreeIn {K D : Type 0} (cmp : K → K → Ordering) (x : Transactions) (s : ℕ) (store : Store K D) (from to : K) : Type 0 where
  pub free : (key : K) → IsBetween cmp from to key → busy_at cmp x s store key ≡ None

-- the lowest session by which a key from one to another is busy
pub record IsLowestIn {K D : Type 0} (cmp : K → K → Ordering) (x : Transactions) (s : ℕ) (store : Store K D) (from to : K) (t : ℕ) : Type 0 where
  pub key : K
  pub between : IsBetween cmp from to key
  pub here : busy_at cmp x s store key ≡ Some t
  pub lowest : (other : K) (u : ℕ) → IsBetween cmp from to other → busy_at cmp x s store other ≡ Some u → t ≤ u
