-- The row that a call finds has flat bytes in its array columns: a row of a view is one that was put. What get and load answer
-- of it.
use Rattle.std.proofs.Common.{◌≡◌, ℕ, ℤ, pos, Bool, true, false, not, List, [], ◌∷◌, Option, Some, None, refl, ap, sym, subst, ◌∙◌}
use Rattle.std.specs.Prelude.{All, ◌&&◌, is_some, option_map, bytes_eq, if◌then◌else◌}
use Rattle.std.specs.Ordering.{int_eq}
use Rattle.std.proofs.lemmas.Bool.{false≢true}
use Rattle.std.proofs.lemmas.List.Elements.{All-filter, All-head, All-tail}
use Rattle.std.proofs.lemmas.Option.{same_Some}
use Rattle.std.proofs.lemmas.Slice.Eq.{bytes_eq-Decides}
use Rattle.expanded_array.specs.Array.{Array}
use Rattle.lo_base.specs.declared.column.Column.{Column}
use Rattle.lo_base.specs.declared.refusal.Cause.TheVariants.{NoRow, NoTable}
use Rattle.lo_base.specs.declared.refusal.Denied.{Denied}
use Rattle.lo_base.specs.declared.refusal.Denied.TheVariants.{By}
use Rattle.lo_base.specs.declared.refusal.Refusal.{Refusal}
use Rattle.lo_base.specs.declared.reply.Reply.{Reply}
use Rattle.lo_base.specs.declared.reply.Reply.TheVariants as replies
use Rattle.lo_base.specs.declared.reply.Word.TheVariants as words
use Rattle.lo_base.specs.declared.value.Cell.{Cell}
use Rattle.lo_base.specs.declared.value.Value.{Value}
use Rattle.lo_model.specs.declared.viewer.Viewer.TheVariants.{Whole}
use Rattle.lo_model.specs.Database.{Table}
use Rattle.lo_model.specs.Edit.{Deed, Create, Write, Cut, Unlink, Put, Delete, Edit, deeds}
use Rattle.lo_model.specs.Row as model
use Rattle.lo_model.specs.Row.{is_row}
use Rattle.lo_model.specs.Session.{Session}
use Rattle.lo_model.specs.View.{sees_edit}
use Rattle.lo_pages.specs.Outcome as pages
use Rattle.row_tables.specs.Catalog.{columns_in, columns_of, table_in}
use Rattle.row_tables.specs.Row as tables
use Rattle.row_tables.specs.RowRules.{get_row, row_here, value_under, values_in}
use Rattle.row_tables.specs.Standing.{tables_in}
use Rattle.row_tables.specs.Terms.{first_of, no_row, no_table, refusal}
use Rattle.row_tables.specs.Values as rows
use Rattle.row_tables.specs.World as calls
use Rattle.row_tables.specs.World.{World, world, here_in as read_in}
use Rattle.xact_core.specs.declared.snapshot.Snapshot.{Snapshot}
use Rattle.xact_core.specs.Kept.{current}
use Rattle.lo_machine.specs.declared.server.Server.{Server}
use Rattle.lo_machine.specs.ArrayRows.{array_of_value, load_line, no_array, variable_becomes, variable_set}
use Rattle.lo_machine.specs.CallRows.{Shared}
use Rattle.lo_machine.specs.Dispatch.{CanCall, Finds, here_in}
use Rattle.lo_machine.specs.Server.{xacts_of}
use Rattle.lo_machine.specs.FlatRows.{AreFlatCells, AreFlatRows, AreFlatValues, IsFlatDeed, IsFlatPut}
use Rattle.lo_machine.specs.Literals.{IsArrayOf}
use Rattle.lo_machine.specs.Row.{Here, tables_here, view_of, with_variables}
use Rattle.lo_machine.specs.State.{Variable}
use Rattle.lo_machine.specs.TableRows.{get_line, table_columns}
use Rattle.lo_machine.specs.Values.{cells_of}
use Rattle.lo_machine.proofs.CellsTold.{flat_cells}
use Rattle.lo_machine.proofs.LinesAlike.{RefusedBy, first_judged, past_judged, unknown_table}
use Rattle.lo_machine.proofs.TableCalls.{IsMatch, IsReading, first_same, high_of, later_here, low_of, reads_later}
use Rattle.lo_machine.proofs.TablesAlike.{last_none, no_deeds}

-- ---- a row after deeds, each of which put flat rows alone

abbrev pub IsFlatRow : List Table → (t : List ℕ) → Option model.Row → Type 0
IsFlatRow tables' t None = Unit {0}
IsFlatRow tables' t (Some row) = IsFlatPut tables' t row.values

same_table : (t u : List ℕ) (i j : ℤ) → is_row t i u j ≡ true → t ≡ u
same_table t u i j is = by (bytes_eq t u) refl
  where
    by : (b : Bool) → bytes_eq t u ≡ b → t ≡ u
    by true same = (bytes_eq-Decides t u).0 same
    by false apart = absurd (false≢true (sym (ap (λ (b : Bool). b && int_eq i j) apart) ∙ is))

module _ (tables' : List Table) (t : List ℕ) (i : ℤ) (old : Option model.Row) (was : IsFlatRow tables' t old) where
  put_over : (u : List ℕ) (row : model.Row) → IsFlatPut tables' u row.values → (test : Bool) → (test ≡ true → t ≡ u) → IsFlatRow tables' t (if test then Some row else old)
  put_over u row put true same = subst (λ (name : List ℕ). IsFlatPut tables' name row.values) (sym (same refl)) put
  put_over u row put false same = was

  deleted_over : (test : Bool) → IsFlatRow tables' t (if test then None else old)
  deleted_over true = tt
  deleted_over false = was

  flat_after : (d : Deed) → IsFlatDeed tables' d → IsFlatRow tables' t (model.row_after t i old d)
  flat_after (Create o) flat = was
  flat_after (Write o at bytes) flat = was
  flat_after (Cut o size) flat = was
  flat_after (Unlink o) flat = was
  flat_after (Put u j values stored) flat = put_over u (record { values = values; stored = stored }) flat (is_row t i u j) (same_table t u i j)
  flat_after (Delete u j) flat = deleted_over (is_row t i u j)

flat_after_all : (tables' : List Table) (t : List ℕ) (i : ℤ) (old : Option model.Row) → IsFlatRow tables' t old → (edits : List (Edit Deed)) → All (λ (e : Edit Deed). IsFlatDeed tables' e.deed) edits → IsFlatRow tables' t (model.row_after_all t i old (deeds edits))
flat_after_all tables' t i old was [] all = was
flat_after_all tables' t i old was (e ∷ edits) all =
    flat_after_all tables' t i (model.row_after t i old e.deed) (flat_after tables' t i old was e.deed (All-head (λ (one : Edit Deed). IsFlatDeed tables' one.deed) e edits all)) edits (All-tail (λ (one : Edit Deed). IsFlatDeed tables' one.deed) e edits all)

-- ---- the row that is read

flat_row : (here : Here) (t : List ℕ) (i : ℤ) → AreFlatRows here.tables here.edits → IsFlatRow here.tables t (row_here (tables_here here) t i)
flat_row here t i flat =
    flat_after_all here.tables t i None tt (view_of here) (All-filter (sees_edit here.now (Whole here.session)) (λ (e : Edit Deed). IsFlatDeed here.tables e.deed) here.edits flat)

flat_values : (tables' : List Table) (t : List ℕ) (found : Option model.Row) → is_some found ≡ true → IsFlatRow tables' t found → (columns : List Column) → Some columns ≡ option_map columns_of (table_in t tables') → AreFlatValues columns (values_in found)
flat_values tables' t None there flat columns is = absurd (false≢true there)
flat_values tables' t (Some row) there flat columns is = by (table_in t tables') refl is
  where
    by : (o : Option Table) → table_in t tables' ≡ o → Some columns ≡ option_map columns_of o → AreFlatValues columns row.values
    by None at is = absurd (false≢true (sym (ap is_some is)))
    by (Some table) at is = subst (λ (cs : List Column). AreFlatValues cs row.values) (sym (same_Some columns table.columns is)) (flat.flat table at)

row_there : (test : Bool) (r : Refusal) → (if not test then Some r else None) ≡ None → test ≡ true
row_there true r is = refl
row_there false r is = absurd (false≢true (sym (ap is_some is)))

columns_known : (o : Option Table) (columns : List Column) → Some columns ≡ option_map columns_of o → columns_in o ≡ columns
columns_known None columns is = absurd (false≢true (sym (ap is_some is)))
columns_known (Some table) columns is = sym (same_Some columns table.columns is)

cells_in : Reply → List Cell
cells_in (replies.Row cells) = cells
cells_in _ = []

-- get, with the columns of its table told by their arrays' texts

abbrev pub told_row : (table : List ℕ) → (id : ℤ) → List Column → tables.Here → tables.Row
told_row t i columns here = record {
  refusals = (get_row t i here).refusals;
  granted = tables.answered here (replies.Row (cells_of columns (values_in (row_here here t i))));
}

pub told_reading : (t : List ℕ) (i : ℤ) (columns : List Column) → IsReading (told_row t i columns)
told_reading t i columns = record { leaves = λ here. (refl, refl, refl) }

pub told_tells : (t : List ℕ) (i : ℤ) (columns : List Column) (w : World) (v : Snapshot) (row cells : List Cell) → calls.Tells (get_row t i) w v (replies.Row row) → ((values : List Value) → row ≡ rows.cells_of values → cells ≡ cells_of columns values) → calls.Tells (told_row t i columns) w v (replies.Row cells)
unfolding cells_in
told_tells t i columns w v row cells tells told = record {
  unrefused = tells.unrefused;
  answer = λ ys stand. ap replies.Row (told (values_in (row_here (read_in w v ys) t i)) (ap cells_in (tells.answer ys stand)));
}

-- a table that is not there, and what refuses a row in the view

module _ (s : ℕ) (old : Server) (t : List ℕ) (found : Option (List Column)) (is : found ≡ option_map columns_of (table_in t (tables_in old.tables))) (none : found ≡ None) (i : ℤ) where
  pub get_unknown : RefusedBy s old (get_line t i) (refusal NoTable (pos 0))
  get_unknown ys shared sessions variables finds = rw (unknown_table s old t found is none ys shared sessions variables finds) refl

  pub load_unknown : (name column : List ℕ) → RefusedBy s old (load_line name t i column) (refusal NoTable (pos 0))
  load_unknown name column ys shared sessions variables finds = rw (unknown_table s old t found is none ys shared sessions variables finds) refl

module _ (s : ℕ) (old : Server) (can : CanCall s old) (t : List ℕ) (i : ℤ) (denied : Denied) (denies : calls.RefusesIn (get_row t i) (world (xacts_of old) old.tables s) (current (xacts_of old) s) denied) (r : Refusal) (by_it : denied ≡ By r) where
  pub refused_get : calls.RefusesIn (get_row t i) (world (xacts_of old) old.tables s) (current (xacts_of old) s) (By r)
  refused_get = subst (λ (d : Denied). calls.RefusesIn (get_row t i) (world (xacts_of old) old.tables s) (current (xacts_of old) s) d) by_it denies

  pub get_missing : RefusedBy s old (get_line t i) r
  get_missing ys shared sessions variables finds =
      let later : first_of (get_row t i (later_here (here_in s old ys shared sessions variables))).refusals ≡ Some r = subst (λ (h : tables.Here). first_of (get_row t i h).refusals ≡ Some r) (reads_later s old ys shared sessions variables (low_of s old can) (high_of s old can) finds) (refused_get ys finds.has.rows) in
      sym (first_same (get_row t i (later_here (here_in s old ys shared sessions variables))).refusals) ∙ later

  pub load_missing : (name column : List ℕ) → RefusedBy s old (load_line name t i column) r
  load_missing name column ys shared sessions variables finds =
      let inner = here_in s old ys shared sessions variables in
      first_judged (no_table (tables_here inner) t ∷ no_row (tables_here inner) t i ∷ []) (no_array column (table_columns inner t) (values_in (row_here (tables_here inner) t i))) r (get_missing ys shared sessions variables finds)

-- the row that was found

module _ (s : ℕ) (old : Server) (can : CanCall s old) (t : List ℕ) (i : ℤ) (found : Option (List Column)) (is : found ≡ option_map columns_of (table_in t (tables_in old.tables))) (columns : List Column) (some : found ≡ Some columns) (row : List Cell) (tells : calls.Tells (get_row t i) (world (xacts_of old) old.tables s) (current (xacts_of old) s) (replies.Row row)) where
  module _ (ys : List (Edit Deed)) (shared : Shared) (sessions : ℕ → Session) (variables : ℕ → List Variable) (finds : Finds s old ys shared sessions variables) where
    abbrev inner : Here
    inner = here_in s old ys shared sessions variables

    abbrev values : List Value
    values = values_in (row_here (tables_here inner) t i)

    reads : calls.here_of (world (xacts_of old) old.tables s) ys ≡ later_here inner
    reads = reads_later s old ys shared sessions variables (low_of s old can) (high_of s old can) finds

    known : Some columns ≡ option_map columns_of (table_in t shared.tables)
    known = subst (λ (all : List Table). Some columns ≡ option_map columns_of (table_in t all)) finds.has.tables (sym some ∙ is)

    columns_are : table_columns inner t ≡ columns
    columns_are = columns_known (table_in t shared.tables) columns known

    later : first_of (get_row t i (later_here inner)).refusals ≡ None
    later = subst (λ (h : tables.Here). first_of (get_row t i h).refusals ≡ None) reads (tells.unrefused ys finds.has.rows)

    passed : pages.first_of (no_table (tables_here inner) t ∷ no_row (tables_here inner) t i ∷ []) ≡ None
    passed = sym (first_same (get_row t i (later_here inner)).refusals) ∙ later

    row_is : row ≡ rows.cells_of values
    unfolding cells_in
    row_is = ap cells_in (subst (λ (h : tables.Here). replies.Row row ≡ (get_row t i h).granted.reply) reads (tells.answer ys finds.has.rows))

    row_some : is_some (row_here (tables_here inner) t i) ≡ true
    row_some = row_there (is_some (row_here (tables_here inner) t i)) (refusal NoRow i) (last_none (no_table (later_here inner) t ∷ []) (no_row (later_here inner) t i) later)

    pub flat_found : AreFlatCells columns row
    flat_found = subst (AreFlatCells columns) (sym row_is) (flat_cells columns values (flat_values shared.tables t (row_here (tables_here inner) t i) row_some (flat_row inner t i finds.flat) columns known))

    -- what get tells of it
    pub told_match : IsMatch inner (get_line t i inner) (told_row t i columns (later_here inner))
    told_match = record {
      refusals = sym (first_same (get_row t i (later_here inner)).refusals);
      reply = ap (λ (cs : List Column). replies.Row (cells_of cs values)) columns_are;
      deeds = refl;
      tables = refl;
      cursors = refl;
      leveled = λ level own. own;
      descriptors = refl;
      variables = refl;
      counter = refl;
      pages = λ x store maker none stands. no_deeds inner x store maker stands;
    }

    -- the array of its column, or why there is none
    module _ (name column : List ℕ) where
      line_judged : pages.first_of (load_line name t i column inner).refusals ≡ pages.first_of (no_array column columns values)
      line_judged =
          past_judged (no_table (tables_here inner) t ∷ no_row (tables_here inner) t i ∷ []) (no_array column (table_columns inner t) values) passed
          ∙ ap (λ (cs : List Column). pages.first_of (no_array column cs values)) columns_are

      pub load_refused : (r : Refusal) → ((vs : List Value) → row ≡ rows.cells_of vs → pages.first_of (no_array column columns vs) ≡ Some r) → pages.first_of (load_line name t i column inner).refusals ≡ Some r
      load_refused r denies = line_judged ∙ denies values row_is

      module _ (a : Array) (array : (vs : List Value) → row ≡ rows.cells_of vs → IsArrayOf column columns vs a) where
        pub load_passes : pages.first_of (load_line name t i column inner).refusals ≡ None
        load_passes = line_judged ∙ (array values row_is).unrefused

        pub load_makes : (load_line name t i column inner).granted ≡ with_variables inner (replies.Word words.Ok) (variable_set name a inner.variables)
        load_makes = ap (variable_becomes inner name) (ap (λ (cs : List Column). array_of_value (value_under column cs values)) columns_are ∙ sym (array values row_is).is)

    -- such a row is looked at: it is never found to be another
    pub unflat_row : (test : Bool) → test ≡ false → (AreFlatCells columns row → test ≡ true) → ⊥
    unflat_row test unlooked looks = false≢true (sym unlooked ∙ looks flat_found)
