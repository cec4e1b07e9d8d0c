-- What a server's tables need to be saved in the view of what is committed: it has the rows that a state has committed, and these
-- are rows that an opening can have.
use Rattle.std.proofs.Common.{◌≡◌, ℕ, ℤ, ◌+◌, List, [], ◌∷◌, Option, ap, subst, ◌∙◌}
use Rattle.lo_base.specs.declared.column.Column.{Column}
use Rattle.lo_base.specs.declared.column.ColType.{ColType}
use Rattle.lo_base.specs.declared.column.ColType.TheVariants as types
use Rattle.lo_base.specs.declared.value.Value.{Value}
use Rattle.lo_base.specs.declared.value.Value.TheVariants.{Null, Int, Oid, Bytes}
use Rattle.lo_model.specs.declared.viewer.Viewer.TheVariants.{Nobody}
use Rattle.lo_model.specs.Database.{Table}
use Rattle.lo_model.specs.Edit.{Deed, Edit}
use Rattle.lo_model.specs.View.{view}
use Rattle.lo_opening.specs.Opening.{HoldArrays, IsArrayIfThere}
use Rattle.lo_restore.specs.TablesSaved.{AreRowsFit, CanBeSaved, IsRowFit}
use Rattle.row_tables.specs.Catalog.{columns_in}
use Rattle.xact_core.specs.declared.snapshot.Snapshot.{Snapshot}
use Rattle.xact_core.specs.Kept.{current_committed}
use Rattle.lo_machine.specs.declared.server.Server.{Server}
use Rattle.lo_machine.specs.Server.{StandsFor, xacts_of}
use Rattle.lo_machine.specs.Fitting.{IsTableRow}
use Rattle.lo_machine.specs.FlatRows.{AreFlatValues, IsFlatValue}
use Rattle.lo_machine.specs.State.{State, committed_edits, edits, now, session_of}
use Rattle.lo_machine.proofs.FitViews.{view_row}
use Rattle.lo_machine.proofs.Readings.{past_later}

array_there : (kind : ColType) (v : Value) → IsFlatValue kind v → IsArrayIfThere kind v
array_there kind Null flat = tt
array_there kind (Int n) flat = tt
array_there kind (Oid n) flat = tt
array_there types.Int8 (Bytes bytes) flat = tt
array_there types.Oid (Bytes bytes) flat = tt
array_there types.Lo (Bytes bytes) flat = tt
array_there types.Bytea (Bytes bytes) flat = tt
array_there types.Int4Array (Bytes bytes) flat = flat

arrays_there : (columns : List Column) (values : List Value) → AreFlatValues columns values → HoldArrays columns values
arrays_there [] values flat = tt
arrays_there (c ∷ columns) [] flat = tt
arrays_there (c ∷ columns) (v ∷ values) flat = (array_there c.kind v flat.0, arrays_there columns values flat.1)

row_fits : (columns : List Column) (i : ℤ) (values : List Value) → IsTableRow columns i values → IsRowFit columns values
row_fits columns i values is = record { fits = is.plan; arrays = arrays_there columns values is.flat }

module _ (e : Server) (st : State) (stands : StandsFor e st) where
  abbrev seen : Snapshot → List (Edit Deed)
  seen v = view v.clock v.viewer (edits st)

  -- No edit was made at the present clock yet.
  pub seen_committed : (v : Snapshot) → v ≡ current_committed (xacts_of e) → seen v ≡ committed_edits st
  seen_committed v is =
      ap seen is
      ∙ (ap (λ (time : ℕ). view (time + 1) Nobody (edits st)) stands.time
      ∙ past_later (now st) (session_of st) (edits st) stands.well.well.past Nobody)

  committed_rows : AreRowsFit st.database.tables (committed_edits st)
  committed_rows t i row there found =
      row_fits t.columns i row.values
      (subst (λ (here : Option Table). IsTableRow (columns_in here) i row.values) there (view_row st stands.well stands.fit Nobody t.name i row found))

  pub can_be_saved : (v : Snapshot) → v ≡ current_committed (xacts_of e) → CanBeSaved (xacts_of e) e.tables v
  can_be_saved v is = record {
    tables_are = rw stands.has.tables stands.fit.tables.tables;
    named = rw stands.has.tables stands.fit.tables.named;
    edits = edits st;
    stand = stands.has.rows;
    rows = rw (stands.has.tables, seen_committed v is) committed_rows;
  }
