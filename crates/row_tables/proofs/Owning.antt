-- A table that was found by its name: no other has the name, and rows of ids of 64 bits can be there.
use Rattle.std.proofs.Common.{Bool, Bor, true, false, ◌≡◌, ◌≢◌, to_z, of_z, ℕ, zero, suc, ℤ, ◌<◌, ◌≤◌, length, inl, inr, List, [], ◌∷◌, Option, Some, None, refl, ap, sym, subst, ◌∙◌, arith}
use Rattle.std.specs.Int.{w64}
use Rattle.std.specs.Option.{option_copied}
use Rattle.std.specs.List.{AllByRecursion}
use Rattle.std.specs.Prelude.{is_some, slice_get}
use Rattle.lo_model.specs.Database.{Table}
use Rattle.toast_plan.specs.Columns.{IsTableColumns}
use Rattle.std.proofs.lemmas.Bool.{false≢true}
use Rattle.toast_chunks.specs.Values.{next_number}
use Rattle.std.specs.Int.RustNames.{FitsSigned}
use Rattle.std.proofs.lemmas.Int.{to_z-of_z}
use Rattle.xact_core.specs.Transactions.{Transactions, levels_of}
use Rattle.xact_core.specs.declared.snapshot.Snapshot.{Snapshot}
use Rattle.row_versions.specs.Search.{busy_at}
use Rattle.row_tables.specs.declared.row_key.RowKey.{RowKey}
use Rattle.row_tables.specs.declared.tables.Tables.{Tables}
use Rattle.row_tables.specs.Calls.{IsHeld, IsTable}
use Rattle.row_tables.specs.Catalog.{AreTables, table_in}
use Rattle.row_tables.specs.Cells.{Moved, all_moved, all_settled}
use Rattle.row_tables.specs.Keys.{key_cmp, row_key}
use Rattle.row_tables.specs.Outside.{ChangesRow}
use Rattle.lo_base.specs.declared.refusal.Refusal.{Refusal}
use Rattle.lo_base.specs.declared.value.Cell.{Cell}
use Rattle.row_tables.specs.Standing.{IsNoKey, IsUnknown, cells_at}
use Rattle.row_tables.proofs.Naming.{one_number, stands_at}
use Rattle.row_tables.proofs.RowEdited.{HasOwnName}

abbrev pub has_own_name : (tables : Tables) (name : List ℕ) (number : ℕ) (id : ℤ) → IsTable tables name number → AreTables tables.catalog → HasOwnName tables (row_key number id)
has_own_name tables name number id is are = record {
  table = is.table;
  there = is.there;
  alone = λ k t at same. one_number tables.catalog k number t is.table are.distinct at is.there same;
  known = not_known;
}
  where
    not_known : (other : List ℕ) → IsUnknown tables other → other ≢ is.table.name
    not_known other unknown same =
        let both : None ≡ Some is.table = sym unknown ∙ (ap (λ (n : List ℕ). table_in n tables.catalog) (same ∙ is.named) ∙ is.found) in
        absurd (grind (arith, both))

pub can_be_there : (tables : Tables) (name : List ℕ) (number : ℕ) (id : ℤ) → IsTable tables name number → FitsSigned w64 id → IsNoKey tables (row_key number id) → ⊥
can_be_there tables name number id is fits (inl high) = let at = (stands_at name tables.catalog number is.is).within in omega (arith, high, at)
can_be_there tables name number id is fits (inr unfit) = unfit fits

-- the columns of a table of a database
pub columns_can : (tables : List Table) (n : ℕ) (t : Table) → AllByRecursion (λ (u : Table). IsTableColumns u.columns) tables → slice_get tables n ≡ Some t → IsTableColumns t.columns
columns_can [] n t all at = absurd (grind (arith, at))
columns_can (u ∷ us) zero t all at = let same : u ≡ t = grind (arith, at) in subst (λ (w : Table). IsTableColumns w.columns) same all.0
columns_can (u ∷ us) (suc n) t all at = columns_can us n t all.1 at

-- a session with a transaction has a number of 1 or higher
pub first_session : (x : Transactions) (s : ℕ) → 0 < length (levels_of x s) → 1 ≤ s
first_session x zero some = absurd (omega (arith, some))
first_session x (suc n) some = omega arith

-- A key whose id went through a word is the key of the id, and a view that is the current one finds what that finds.

abbrev pub passed : (number : ℕ) → (id : ℤ) → RowKey
passed number id = row_key number (to_z w64 (of_z w64 id))

pub key_same : (number : ℕ) (id : ℤ) → FitsSigned w64 id → passed number id ≡ row_key number id
key_same number id fits = ap (row_key number) (to_z-of_z w64 id fits)

pub found_here : (x : Transactions) (v u : Snapshot) (tables : Tables) (number : ℕ) (id : ℤ) (content : Option (List Cell)) → u ≡ v → FitsSigned w64 id → cells_at x u tables (passed number id) ≡ content → cells_at x v tables (row_key number id) ≡ content
found_here x v u tables number id content same fits found = subst (λ (k : RowKey). cells_at x v tables k ≡ content) (key_same number id fits) (subst (λ (w : Snapshot). cells_at x w tables (passed number id) ≡ content) same found)

pub free_here : (x : Transactions) (s : ℕ) (tables : Tables) (number : ℕ) (id : ℤ) (content : Option ℕ) → FitsSigned w64 id → busy_at key_cmp x s tables.rows (passed number id) ≡ content → busy_at key_cmp x s tables.rows (row_key number id) ≡ content
free_here x s tables number id content fits free = subst (λ (k : RowKey). busy_at key_cmp x s tables.rows k ≡ content) (key_same number id fits) free

pub held_here : (x : Transactions) (s : ℕ) (tables : Tables) (number : ℕ) (id : ℤ) (r : Refusal) → FitsSigned w64 id → IsHeld x s tables (passed number id) r → IsHeld x s tables (row_key number id) r
held_here x s tables number id r fits held = subst (λ (k : RowKey). IsHeld x s tables k r) (key_same number id fits) held

pub changed_here : (x : Transactions) (s number : ℕ) (id : ℤ) (moved : List Moved) {gone gone' : List ℕ} (content : Option (List Cell)) (old new : Tables) → FitsSigned w64 id → gone ≡ gone' → ChangesRow x s (passed number id) moved gone content old new → ChangesRow x s (row_key number id) moved gone' content old new
changed_here x s number id moved {gone} {gone'} content old new fits same changes = subst (λ (k : RowKey). ChangesRow x s k moved gone' content old new) (key_same number id fits) (subst (λ (ns : List ℕ). ChangesRow x s (passed number id) moved ns content old new) same changes)

-- what a search found, by whether it found something

pub none_copied : {A : Type 0} (found : Option (Bor A)) → false ≡ is_some found → option_copied found ≡ None
none_copied None is = refl
none_copied (Some at) is = absurd (false≢true is)

pub record IsTaken (x : Transactions) (v : Snapshot) (tables : Tables) (key : RowKey) : Type 0 where
  pub row : List Cell
  pub found : cells_at x v tables key ≡ Some row

pub taken_here : (x : Transactions) (v u : Snapshot) (tables : Tables) (number : ℕ) (i id : ℤ) (found : Option (Bor (List Cell))) → u ≡ v → FitsSigned w64 i → i ≡ id → option_copied found ≡ cells_at x u tables (passed number i) → true ≡ is_some found → IsTaken x v tables (row_key number id)
taken_here x v u tables number i id None same fits is at some = absurd (false≢true (sym some))
taken_here x v u tables number i id (Some row) same fits is at some = record { row = row.now; found = subst (λ (z : ℤ). cells_at x v tables (row_key number z) ≡ Some row.now) is (found_here x v u tables number i (Some row.now) same fits (sym at)) }

-- a row that was put, under the key of its id
pub made_here : (x : Transactions) (s number : ℕ) (i id : ℤ) (os : List Bool) (row cells : List Cell) (old new : Tables) → FitsSigned w64 i → i ≡ id → row ≡ cells → ChangesRow x s (passed number i) (all_moved os row (next_number old.chunks)) [] (Some (all_settled os row (next_number old.chunks))) old new → ChangesRow x s (row_key number id) (all_moved os cells (next_number old.chunks)) [] (Some (all_settled os cells (next_number old.chunks))) old new
made_here x s number i id os row cells old new fits is same changes =
    subst (λ (r : List Cell). ChangesRow x s (row_key number id) (all_moved os r (next_number old.chunks)) [] (Some (all_settled os r (next_number old.chunks))) old new) same
    (subst (λ (z : ℤ). ChangesRow x s (row_key number z) (all_moved os row (next_number old.chunks)) [] (Some (all_settled os row (next_number old.chunks))) old new) is
    (subst (λ (k : RowKey). ChangesRow x s k (all_moved os row (next_number old.chunks)) [] (Some (all_settled os row (next_number old.chunks))) old new) (key_same number i fits) changes))
