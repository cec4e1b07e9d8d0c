-- A vacuum of tables leaves what their edits stand for.
use Rattle.std.proofs.Common.{◌≡◌, ℕ, true, List, [], ◌∷◌, Option, Some, None, refl, ap, sym, subst, ◌∙◌}
use Rattle.std.proofs.lemmas.Bool.{false≢true}
use Rattle.lo_base.specs.declared.value.Cell.{Cell}
use Rattle.lo_model.specs.Edit.{Deed, Edit}
use Rattle.xact_core.specs.Transactions.{Transactions}
use Rattle.row_versions.specs.Found.{given, is_erasure}
use Rattle.row_versions.specs.Stands.{Version, BusyAlike, Stands, replaces, standing, vacuumed}
use Rattle.row_versions.specs.Store.{GoesWith, versions_at}
use Rattle.row_versions.specs.declared.store.Store.{Store}
use Rattle.row_versions.proofs.Agreeing.{busy_reclaimed}
use Rattle.row_versions.proofs.Laws.{standing_vacuumed, stands_vacuumed}
use Rattle.row_versions.proofs.Stacking.{each_more}
use Rattle.toast_chunks.specs.declared.chunks.Chunks.{Chunks}
use Rattle.toast_chunks.specs.Calls.{Vacuums}
use Rattle.toast_chunks.specs.Values as chunks
use Rattle.toast_chunks.proofs.Standing.{stand_vacuumed}
use Rattle.row_tables.specs.declared.row_key.RowKey.{RowKey}
use Rattle.row_tables.specs.declared.tables.Tables.{Tables}
use Rattle.row_tables.specs.Cells.{Told}
use Rattle.row_tables.specs.Keys.{key_cmp}
use Rattle.row_tables.specs.Standing.{GoWith, HasCells, Kept, StandFor, gives, versions_of}

given_none : {D : Type 0} (clock : ℕ) (deed : Option D) → is_erasure deed ≡ true → given clock deed ≡ None
given_none clock None is = refl
given_none clock (Some content) is = absurd (false≢true is)

module _ (x : Transactions) (old : Tables) (rows : Store RowKey (List Cell)) (values : Chunks) (here : (key : RowKey) → versions_at key_cmp rows key ≡ vacuumed is_erasure x (versions_of old key)) (vacuums : Vacuums x old.chunks values) where
  abbrev pub after : Tables
  after = record { alloc = old.alloc; catalog = old.catalog; rows = rows; chunks = values; cursors = old.cursors }

  has_cells : (told : ℕ → Told) (key : RowKey) (o : Option (List Cell)) → HasCells told key old o → HasCells told key after o
  has_cells told key None has = tt
  has_cells told key (Some row) has = rw vacuums.next has

  abbrev kept_vacuumed : Kept x old → Kept x after
  kept_vacuumed kept = record {
    told = kept.told;
    edits = kept.edits;
    rows = λ key. subst (λ (vs : List (Version (Option (List Cell)))). Stands x given (replaces given) None vs (kept.edits key)) (sym (here key)) (stands_vacuumed is_erasure given (replaces given) None x (versions_of old key) (kept.edits key) (record { gives = given_none }) (kept.rows key));
    alike = λ key. subst (λ (es : List (Edit (Option (List Cell)))). BusyAlike (es ∷ []) (kept.edits key)) (sym (ap (standing x) (here key) ∙ standing_vacuumed is_erasure x (versions_of old key))) (busy_reclaimed is_erasure x (standing x (versions_of old key) ∷ []) (kept.edits key) ((kept.rows key).versions, tt) (kept.alike key));
    values = λ n. stand_vacuumed (gives kept.told n) x old.chunks values n (kept.edits (kept.told n).home) vacuums (kept.values n);
    cells = λ key. each_more (λ (e : Edit (Option (List Cell))). HasCells kept.told key old e.deed) (λ (e : Edit (Option (List Cell))). HasCells kept.told key after e.deed) (λ e has. has_cells kept.told key e.deed has) (kept.edits key) (kept.cells key);
    none = kept.none;
  }

  pub vacuum_stands : (ys : List (Edit Deed)) → StandFor x old ys → StandFor x after ys
  vacuum_stands ys stand = record { kept = kept_vacuumed stand.kept; reads = record { rows = stand.reads.rows }; known = stand.known }

  pub vacuum_goes : GoesWith key_cmp x rows → chunks.GoWith x values → GoWith x old → GoWith x after
  vacuum_goes goes go with' = record { stores = record { rows = goes; chunks = go }; kept = kept_vacuumed with'.kept }
