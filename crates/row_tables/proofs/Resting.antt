-- Tables that stand for edits, through calls that change none of them: of the transactions, where the clock advances, a level
-- begins, or other views are held; of cursors; and of large objects.
use Rattle.std.proofs.Common.{◌≡◌, ℕ, ℤ, Bool, true, false, cond, List, [], ◌∷◌, ◌++◌, Option, None, refl, ap, sym, subst, ◌∙◌, append-nil}
use Rattle.std.specs.Prelude.{slice_get}
use Rattle.std.proofs.lemmas.Bool.{false≢true}
use Rattle.std.proofs.lemmas.List.Elements.{filter-append}
use Rattle.lo_model.specs.Edit.{Deed, Create, Write, Cut, Unlink, Put, Delete, Edit}
use Rattle.xact_core.specs.Ends.{Opens}
use Rattle.xact_core.specs.Ends as ends
use Rattle.xact_core.specs.Kept.{HoldsOthers}
use Rattle.xact_core.specs.Stamp.{owner_in, owner_of}
use Rattle.xact_core.specs.Transactions.{Transactions}
use Rattle.xact_core.specs.declared.fate.Fate.{Fate}
use Rattle.row_versions.specs.Calls.{Ticks}
use Rattle.row_versions.specs.Found.{given}
use Rattle.row_versions.specs.Stack.{turned}
use Rattle.row_versions.specs.Stands.{Version, BusyAlike, Stands, replaces, standing, standing_of}
use Rattle.row_versions.proofs.Agreeing.{standing_turned}
use Rattle.row_versions.proofs.Laws.{stands_ticked, stands_opened, stands_holding}
use Rattle.toast_chunks.specs.Standing.{Stand}
use Rattle.toast_chunks.proofs.Standing.{stand_ticked, stand_opened, stand_held}
use Rattle.row_tables.specs.declared.row_key.RowKey.{RowKey}
use Rattle.row_tables.specs.declared.tables.Tables.{Tables}
use Rattle.row_tables.specs.Laws.{is_of_objects}
use Rattle.row_tables.specs.Standing.{GoWith, Kept, StandFor, at_row, gives, is_of_row, versions_of}
use Rattle.row_tables.specs.World.{SameRows}

-- versions whose owners are told by the same fates
standing_same : {D : Type 0} (old new : Transactions) → new.fates ≡ old.fates → (vs : List (Version D)) → standing new vs ≡ standing old vs
standing_same old new same [] = refl
standing_same {D} old new same (v ∷ vs) = ap (λ (fates : List Fate). standing_of (owner_in v.stamp (slice_get fates v.stamp.place)) v (standing new vs)) same ∙ ap (standing_of (owner_of old v.stamp) v) (standing_same old new same vs)

same_turned : {E : Type 0} (es : List (Edit E)) → turned ends.same es ≡ es
same_turned [] = refl
same_turned {E} (e ∷ es) = ap (λ (fs : List (Edit E)). e ∷ fs) (same_turned es)

module _ (tables : Tables) (old new : Transactions) where
  abbrev kept_still : (kept : Kept old tables) → ((key : RowKey) → standing new (versions_of tables key) ≡ standing old (versions_of tables key)) → ((key : RowKey) → Stands new given (replaces given) None (versions_of tables key) (kept.edits key)) → ((n : ℕ) → Stand (gives kept.told n) new tables.chunks n (kept.edits (kept.told n).home)) → Kept new tables
  kept_still kept same rows values = record {
    told = kept.told;
    edits = kept.edits;
    rows = rows;
    alike = λ key. subst (λ es. BusyAlike (es ∷ []) (kept.edits key)) (sym (same key)) (kept.alike key);
    values = values;
    cells = kept.cells;
    none = kept.none;
  }

  stand_still : (ys : List (Edit Deed)) (stand : StandFor old tables ys) → ((key : RowKey) → standing new (versions_of tables key) ≡ standing old (versions_of tables key)) → ((key : RowKey) → Stands new given (replaces given) None (versions_of tables key) (stand.kept.edits key)) → ((n : ℕ) → Stand (gives stand.kept.told n) new tables.chunks n (stand.kept.edits (stand.kept.told n).home)) → StandFor new tables ys
  stand_still ys stand same rows values = record { kept = kept_still stand.kept same rows values; reads = record { rows = stand.reads.rows }; known = stand.known }

  module _ (by : Ticks old new) (kept : Kept old tables) where
    same_ticked : (key : RowKey) → standing new (versions_of tables key) ≡ standing old (versions_of tables key)
    same_ticked key = standing_same old new (ap (λ (x : Transactions). x.fates) by.is) (versions_of tables key)

    rows_ticked : (key : RowKey) → Stands new given (replaces given) None (versions_of tables key) (kept.edits key)
    rows_ticked key = subst (λ (x : Transactions). Stands x given (replaces given) None (versions_of tables key) (kept.edits key)) (sym by.is) (stands_ticked given (replaces given) None old (versions_of tables key) (kept.edits key) (kept.rows key))

    values_ticked : (n : ℕ) → Stand (gives kept.told n) new tables.chunks n (kept.edits (kept.told n).home)
    values_ticked n = stand_ticked (gives kept.told n) tables.chunks n (kept.edits (kept.told n).home) old new by (kept.values n)

  module _ (s : ℕ) (name : Option (List ℕ)) (by : Opens s name old new) (kept : Kept old tables) where
    same_opened : (key : RowKey) → standing new (versions_of tables key) ≡ standing old (versions_of tables key)
    same_opened key = standing_turned ends.same old new (versions_of tables key) by.owners (kept.rows key).fits ∙ same_turned (standing old (versions_of tables key))

    rows_opened : (key : RowKey) → Stands new given (replaces given) None (versions_of tables key) (kept.edits key)
    rows_opened key = stands_opened given (replaces given) None s name old new (versions_of tables key) (kept.edits key) by.levels.low by (kept.rows key)

    values_opened : (n : ℕ) → Stand (gives kept.told n) new tables.chunks n (kept.edits (kept.told n).home)
    values_opened n = stand_opened (gives kept.told n) tables.chunks n (kept.edits (kept.told n).home) s name old new by (kept.values n)

  module _ (by : HoldsOthers old new) (kept : Kept old tables) where
    same_held : (key : RowKey) → standing new (versions_of tables key) ≡ standing old (versions_of tables key)
    same_held key = standing_same old new (ap (λ (x : Transactions). x.fates) by.rest) (versions_of tables key)

    rows_held : (key : RowKey) → Stands new given (replaces given) None (versions_of tables key) (kept.edits key)
    rows_held key = subst (λ (x : Transactions). Stands x given (replaces given) None (versions_of tables key) (kept.edits key)) (sym by.rest) (stands_holding given (replaces given) None old new.held (versions_of tables key) (kept.edits key) by.kept (kept.rows key))

    values_held : (n : ℕ) → Stand (gives kept.told n) new tables.chunks n (kept.edits (kept.told n).home)
    values_held n = stand_held (gives kept.told n) tables.chunks n (kept.edits (kept.told n).home) old new by (kept.values n)

  pub kept_ticked : Ticks old new → Kept old tables → Kept new tables
  kept_ticked by kept = kept_still kept (same_ticked by kept) (rows_ticked by kept) (values_ticked by kept)

  pub kept_opened : (s : ℕ) (name : Option (List ℕ)) → Opens s name old new → Kept old tables → Kept new tables
  kept_opened s name by kept = kept_still kept (same_opened s name by kept) (rows_opened s name by kept) (values_opened s name by kept)

  pub kept_held : HoldsOthers old new → Kept old tables → Kept new tables
  kept_held by kept = kept_still kept (same_held by kept) (rows_held by kept) (values_held by kept)

  pub for_ticked : (ys : List (Edit Deed)) → Ticks old new → StandFor old tables ys → StandFor new tables ys
  for_ticked ys by stand = stand_still ys stand (same_ticked by stand.kept) (rows_ticked by stand.kept) (values_ticked by stand.kept)

  pub for_opened : (s : ℕ) (name : Option (List ℕ)) (ys : List (Edit Deed)) → Opens s name old new → StandFor old tables ys → StandFor new tables ys
  for_opened s name ys by stand = stand_still ys stand (same_opened s name by stand.kept) (rows_opened s name by stand.kept) (values_opened s name by stand.kept)

  pub for_held : (ys : List (Edit Deed)) → HoldsOthers old new → StandFor old tables ys → StandFor new tables ys
  for_held ys by stand = stand_still ys stand (same_held by stand.kept) (rows_held by stand.kept) (values_held by stand.kept)

-- an edit of an object is of no row
no_row : (t : List ℕ) (i : ℤ) (d : Deed) → is_of_objects d ≡ true → is_of_row t i d ≡ false
no_row t i (Create o) is = refl
no_row t i (Write o at bytes) is = refl
no_row t i (Cut o size) is = refl
no_row t i (Unlink o) is = refl
no_row t i (Put u j values stored) is = absurd (false≢true is)
no_row t i (Delete u j) is = absurd (false≢true is)

row_rests : (t : List ℕ) (i : ℤ) (ys : List (Edit Deed)) (e : Edit Deed) → is_of_objects e.deed ≡ true → at_row t i (ys ++ e ∷ []) ≡ at_row t i ys
row_rests t i ys e is = filter-append (λ (f : Edit Deed). is_of_row t i f.deed) ys (e ∷ []) ∙ (ap (λ (b : Bool). at_row t i ys ++ cond b (e ∷ []) []) (no_row t i e.deed is) ∙ append-nil (at_row t i ys))

pub for_objects : (x : Transactions) (tables : Tables) (ys : List (Edit Deed)) (e : Edit Deed) → is_of_objects e.deed ≡ true → StandFor x tables ys → StandFor x tables (ys ++ e ∷ [])
for_objects x tables ys e is stand = record {
  kept = stand.kept;
  reads = record { rows = λ key table there. row_rests table.name key.id ys e is ∙ stand.reads.rows key table there };
  known = λ name id unknown. row_rests name id ys e is ∙ stand.known name id unknown;
}

-- with other cursors

abbrev with_cursors : (old new : Tables) → Tables
with_cursors old new = record { alloc = new.alloc; catalog = old.catalog; rows = old.rows; chunks = old.chunks; cursors = new.cursors }

-- what the rows, chunks and tables tell
pub same_rows : (P : Tables → Type 0) (old new : Tables) → SameRows old new → P (with_cursors old new) → P new
same_rows P old new same before =
    subst (λ rows. P (record { alloc = new.alloc; catalog = new.catalog; rows = rows; chunks = new.chunks; cursors = new.cursors })) (sym same.rows)
    (subst (λ chunks. P (record { alloc = new.alloc; catalog = new.catalog; rows = old.rows; chunks = chunks; cursors = new.cursors })) (sym same.chunks)
    (subst (λ catalog. P (record { alloc = new.alloc; catalog = catalog; rows = old.rows; chunks = old.chunks; cursors = new.cursors })) (sym same.catalog) before))

module _ (x : Transactions) (old new : Tables) (same : SameRows old new) where
  abbrev kept_beside : Kept x old → Kept x (with_cursors old new)
  kept_beside kept = record { told = kept.told; edits = kept.edits; rows = kept.rows; alike = kept.alike; values = kept.values; cells = kept.cells; none = kept.none }

  pub goes_same : GoWith x old → GoWith x new
  goes_same go = same_rows (GoWith x) old new same (record { stores = record { rows = go.stores.rows; chunks = go.stores.chunks }; kept = kept_beside go.kept })

  pub for_same : (ys : List (Edit Deed)) → StandFor x old ys → StandFor x new ys
  for_same ys stand = same_rows (λ (tables : Tables). StandFor x tables ys) old new same (record { kept = kept_beside stand.kept; reads = record { rows = stand.reads.rows }; known = stand.known })
