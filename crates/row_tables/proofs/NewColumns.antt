-- A table that gets other columns of the same types: what is kept of rows stays, and the tables stand for the same edits.
use Rattle.std.proofs.Common.{◌≡◌, ℕ, zero, suc, inl, inr, Bool, true, false, cond, List, [], ◌∷◌, length, map, Option, Some, None, refl, ap, sym, subst, ◌∙◌, arith}
use Rattle.std.specs.Prelude.{All, bytes_eq, is_some, slice_get}
use Rattle.std.specs.Option.{unwrap_or}
use Rattle.std.proofs.lemmas.Bool.{false≢true}
use Rattle.std.proofs.lemmas.List.Elements.{All-weaker}
use Rattle.lo_base.specs.declared.column.Column.{Column}
use Rattle.lo_base.specs.declared.value.Cell.{Cell}
use Rattle.lo_model.specs.Database.{Table}
use Rattle.lo_model.specs.Edit.{Deed, Edit}
use Rattle.xact_core.specs.Transactions.{Transactions}
use Rattle.row_versions.specs.Found.{given}
use Rattle.row_versions.specs.Stack.{Each}
use Rattle.row_versions.specs.Stands.{BusyAlike, Stands, replaces, standing}
use Rattle.row_versions.specs.Store.{GoesWith, versions_at}
use Rattle.toast_chunks.specs.Standing.{Stand}
use Rattle.toast_chunks.specs.Values.{GoWith, next_number}
use Rattle.row_tables.specs.declared.row_key.RowKey.{RowKey}
use Rattle.row_tables.specs.declared.tables.Tables.{Tables}
use Rattle.row_tables.specs.Catalog.{columns_in, table_in, with_columns}
use Rattle.row_tables.specs.Cells.{AreCells, Told, values_told}
use Rattle.row_tables.specs.Keys.{key_cmp}
use Rattle.row_tables.specs.Rewriting.{HasNewColumns, SameKinds}
use Rattle.row_tables.specs.Standing.{Go, HasCells, IsNoKey, IsUnknown, Kept, ReadsAs, StandFor, at_row, edit_told, gives}
use Rattle.row_tables.specs.World.{HasTable}
use Rattle.row_tables.proofs.Storages.{fit_alike}

-- tables, one of which has other columns

pub with_length : (n : ℕ) (columns : List Column) (ts : List Table) → length (with_columns n columns ts) ≡ length ts
with_length n columns [] = refl
with_length zero columns (t ∷ ts) = refl
with_length (suc n) columns (t ∷ ts) = ap suc (with_length n columns ts)

pub with_known : (n : ℕ) (columns : List Column) (ts : List Table) (name : List ℕ) → is_some (table_in name (with_columns n columns ts)) ≡ is_some (table_in name ts)
with_known n columns [] name = refl
with_known zero columns (t ∷ ts) name = by (bytes_eq t.name name)
  where
    by : (b : Bool) → is_some (cond b (Some (record { name = t.name; columns = columns })) (table_in name ts)) ≡ is_some (cond b (Some t) (table_in name ts))
    by true = refl
    by false = refl
with_known (suc n) columns (t ∷ ts) name = by (bytes_eq t.name name) (with_known n columns ts name)
  where
    by : (b : Bool) → is_some (table_in name (with_columns n columns ts)) ≡ is_some (table_in name ts) → is_some (cond b (Some t) (table_in name (with_columns n columns ts))) ≡ is_some (cond b (Some t) (table_in name ts))
    by true rest = refl
    by false rest = rest

-- the table that stood at a place, with the name of the one that stands there
record StoodAs (ts : List Table) (k : ℕ) (u : Table) : Type 0 where
  table : Table
  there : slice_get ts k ≡ Some table
  named : table.name ≡ u.name

stood : (n : ℕ) (columns : List Column) (ts : List Table) (k : ℕ) (u : Table) → slice_get (with_columns n columns ts) k ≡ Some u → StoodAs ts k u
stood n columns [] k u there = absurd (false≢true (ap is_some there))
stood zero columns (t ∷ ts) zero u there = record { table = t; there = refl; named = ap (λ (o : Option Table). (unwrap_or o t).name) there }
stood zero columns (t ∷ ts) (suc k) u there = record { table = u; there = there; named = refl }
stood (suc n) columns (t ∷ ts) zero u there = record { table = u; there = there; named = refl }
stood (suc n) columns (t ∷ ts) (suc k) u there = let was = stood n columns ts k u there in record { table = was.table; there = was.there; named = was.named }

pub kinds_at : (n : ℕ) (columns : List Column) (ts : List Table) → SameKinds (columns_in (slice_get ts n)) columns → (k : ℕ) → SameKinds (columns_in (slice_get ts k)) (columns_in (slice_get (with_columns n columns ts) k))
kinds_at n columns [] same k = refl
kinds_at zero columns (t ∷ ts) same zero = same
kinds_at zero columns (t ∷ ts) same (suc k) = refl
kinds_at (suc n) columns (t ∷ ts) same zero = refl
kinds_at (suc n) columns (t ∷ ts) same (suc k) = kinds_at n columns ts same k

none_is : {X : Type 0} (o : Option X) → is_some o ≡ false → o ≡ None
none_is None is = refl
none_is (Some x) is = absurd (false≢true (sym is))

module _ (x : Transactions) (number : ℕ) (columns : List Column) (old new : Tables) (kinds : SameKinds (columns_in (slice_get old.catalog number)) columns) (has : HasNewColumns number columns old new) where
  kinds_new : (k : ℕ) → SameKinds (columns_in (slice_get old.catalog k)) (columns_in (slice_get new.catalog k))
  kinds_new k = subst (λ tables. SameKinds (columns_in (slice_get old.catalog k)) (columns_in (slice_get tables k))) (sym has.catalog) (kinds_at number columns old.catalog kinds k)

  cells_new : (told : ℕ → Told) (key : RowKey) (content : Option (List Cell)) → HasCells told key old content → HasCells told key new content
  cells_new told key None good = tt
  cells_new told key (Some row) good = subst (λ chunks. AreCells told key (next_number chunks) (columns_in (slice_get new.catalog key.table)) row) (sym has.chunks) (record {
    each = good.each;
    once = good.once;
    fit = fit_alike (columns_in (slice_get old.catalog key.table)) (columns_in (slice_get new.catalog key.table)) (values_told told row) (kinds_new key.table) good.fit;
    id = good.id;
  })

  pub each_new : (told : ℕ → Told) (key : RowKey) (es : List (Edit (Option (List Cell)))) → Each (λ (e : Edit (Option (List Cell))). HasCells told key old e.deed) es → Each (λ (e : Edit (Option (List Cell))). HasCells told key new e.deed) es
  each_new told key [] each = tt
  each_new told key (e ∷ es) each = (cells_new told key e.deed each.0, each_new told key es each.1)

  pub no_key : (key : RowKey) → IsNoKey new key → IsNoKey old key
  no_key key (inl high) = inl (let count : length new.catalog ≡ length old.catalog = ap length has.catalog ∙ with_length number columns old.catalog in omega (arith, high, count))
  no_key key (inr unfit) = inr unfit

  abbrev pub kept_new : Kept x old → Kept x new
  kept_new kept = record {
    told = kept.told;
    edits = kept.edits;
    rows = λ key. subst (λ store. Stands x given (replaces given) None (versions_at key_cmp store key) (kept.edits key)) (sym has.rows) (kept.rows key);
    alike = λ key. subst (λ store. BusyAlike (standing x (versions_at key_cmp store key) ∷ []) (kept.edits key)) (sym has.rows) (kept.alike key);
    values = λ n. subst (λ chunks. Stand (gives kept.told n) x chunks n (kept.edits (kept.told n).home)) (sym has.chunks) (kept.values n);
    cells = λ key. each_new kept.told key (kept.edits key) (kept.cells key);
    none = λ key missing. kept.none key (no_key key missing);
  }

  reads_new : (kept : Kept x old) (ys : List (Edit Deed)) → ReadsAs x old kept ys → (key : RowKey) (table : Table) → slice_get new.catalog key.table ≡ Some table → at_row table.name key.id ys ≡ map (edit_told kept.told table.name key.id) (kept.edits key)
  reads_new kept ys reads key table there =
      let was = stood number columns old.catalog key.table table (subst (λ tables. slice_get tables key.table ≡ Some table) has.catalog there) in
      subst (λ (t : List ℕ). at_row t key.id ys ≡ map (edit_told kept.told t key.id) (kept.edits key)) was.named (reads.rows key was.table was.there)

  unknown_old : (name : List ℕ) → IsUnknown new name → IsUnknown old name
  unknown_old name unknown = none_is (table_in name old.catalog) (sym (with_known number columns old.catalog name) ∙ ap is_some (subst (λ tables. table_in name tables ≡ None) has.catalog unknown))

  pub stand_new : (ys : List (Edit Deed)) → StandFor x old ys → StandFor x new ys
  stand_new ys stand = record {
    kept = kept_new stand.kept;
    reads = record { rows = reads_new stand.kept ys stand.reads };
    known = λ name id unknown. stand.known name id (unknown_old name unknown);
  }

  pub go_new : Go x old → Go x new
  go_new go = record {
    rows = subst (λ store. GoesWith key_cmp x store) (sym has.rows) go.rows;
    chunks = subst (λ chunks. GoWith x chunks) (sym has.chunks) go.chunks;
  }

  pub named_new : All (HasTable old) old.cursors.entries.items → All (HasTable new) old.cursors.entries.items
  named_new are = All-weaker (HasTable old) (HasTable new) (λ c there. subst (λ tables. is_some (table_in c.table tables) ≡ true) (sym has.catalog) (with_known number columns old.catalog c.table ∙ there)) old.cursors.entries.items are
