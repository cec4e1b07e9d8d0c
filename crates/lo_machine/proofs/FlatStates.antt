-- Rows stay flat through the requests that are served, tables have columns of different names, and variables hold arrays that
-- they may hold.
use Rattle.std.proofs.Common.{◌≡◌, ℕ, ℤ, pos, Bool, true, false, not, List, [], ◌∷◌, ◌++◌, length, map, Option, Some, None, refl, ap, sym, subst, ◌∙◌}
use Rattle.std.specs.Prelude.{All, ◌==◌, is_none, is_some}
use Rattle.std.specs.Ordering.{int_cmp}
use Rattle.std.proofs.lemmas.Bool.{eqb-true, false≢true, true≢false}
use Rattle.std.proofs.lemmas.List.Elements.{All-append, All-head, All-tail, filter_passes}
use Rattle.expanded_array.specs.Array.{Array, IsHeld, array_set, excess}
use Rattle.expanded_array.specs.Read.{array_of_text, text_refusal}
use Rattle.expanded_array.proofs.ArrayLaws.{set_held}
use Rattle.lo_base.specs.declared.column.Column.{Column}
use Rattle.lo_base.specs.declared.refusal.Cause.TheVariants.{NoRow, NoTable, WrongType}
use Rattle.lo_base.specs.declared.refusal.Refusal.{Refusal}
use Rattle.lo_base.specs.declared.reply.Reply.{Reply}
use Rattle.lo_base.specs.declared.reply.Reply.TheVariants.{Word, Refused, Counted}
use Rattle.lo_base.specs.declared.reply.Word.TheVariants as words
use Rattle.lo_base.specs.declared.request.Assign.{Assign}
use Rattle.lo_base.specs.declared.request.Request.{Request}
use Rattle.lo_base.specs.declared.request.Request.TheVariants.{Begin, Commit, Rollback, Savepoint, Release, RollbackTo, LoCreat, LoCreate, LoOpen, LoClose, LoRead, LoWrite, LoLseek, LoLseek64, LoTell, LoTell64, LoTruncate, LoTruncate64, LoUnlink, LoGet, LoPut, LoFromBytea, CreateTable, Insert, Update, Delete, Get, Ids, Slice, Declare, Fetch, Close, Rewrite, Vacuum, Array as ArrayText, Load, Set, Elem, Show, Vacuumlo, Step, Finish}
use Rattle.lo_base.specs.declared.value.Literal.{Literal}
use Rattle.lo_base.specs.declared.value.Value.{Value}
use Rattle.lo_calls.specs.DescriptorRows.{open_row, close_row, read_row, write_row, seek_row, tell_row, truncate_row}
use Rattle.lo_calls.specs.ObjectRows.{create_row, unlink_row, get_row, put_row}
use Rattle.lo_calls.specs.Row as objects
use Rattle.lo_model.specs.declared.viewer.Viewer.TheVariants.{Whole}
use Rattle.lo_model.specs.Database.{Table}
use Rattle.lo_model.specs.Edit.{Deed, Edit, deeds, edits_by}
use Rattle.lo_model.specs.Levels.{released_owner, undone, committed, committed_owner, aborted, stays}
use Rattle.lo_model.specs.Listing.{has_row, ids_in, in_order, put_ids}
use Rattle.lo_model.specs.Row as model
use Rattle.lo_model.specs.Session.{Session}
use Rattle.lo_model.specs.Transaction.{is_open}
use Rattle.lo_model.specs.View.{sees_edit}
use Rattle.lo_pages.specs.Outcome.{first_of}
use Rattle.row_tables.specs.Catalog.{columns_in, table_in}
use Rattle.row_tables.specs.CursorRules as cursors
use Rattle.row_tables.specs.RewriteRules.{columns_rewritten, puts_anew, rewrite_row, values_of as row_values}
use Rattle.row_tables.specs.Row as tables
use Rattle.row_tables.specs.RowRules.{create_table_row, delete_row, ids_row, insert_row, put_anew, row_here, slice_row, update_row, updated, values_in}
use Rattle.row_tables.specs.Terms.{no_row, no_table}
use Rattle.row_versions.specs.Stack.{Each}
use Rattle.toast_plan.specs.Columns.{AreDistinct}
use Rattle.lo_machine.specs.ArrayRows.{array_here, array_line, array_of_value, elem_line, load_line, loaded, no_array, no_array_column, no_variable_named, set_line, show_line, too_big_by, variable_becomes}
use Rattle.lo_machine.specs.CallRows.{here, called, call_granted, call_refusals, misplaced}
use Rattle.lo_machine.specs.FlatRows.{AreFlatRows, AreFlatValues, IsFlatDeed, IsFlatPut}
use Rattle.lo_machine.specs.Row.{Granted, Here, Row, objects_here, on_objects, on_tables, tables_here, view_of}
use Rattle.lo_machine.specs.Served.{IsRanged, is_plain}
use Rattle.lo_machine.specs.Spelled.{IsSpelled, names_of}
use Rattle.lo_machine.specs.State.{State, Outcome, now, edits, session_of, variables_of, answered, left_with, owner_in, refused, refused_in}
use Rattle.lo_machine.specs.Step.{failed, granted, granted_or_refused, refusal_of, refusals}
use Rattle.lo_machine.specs.TableRows.{changes_here, changes_judged, declare_line, get_line, insert_line, inserted, table_columns, update_line, wrong_count}
use Rattle.lo_machine.specs.Terms.{pool_short}
use Rattle.lo_machine.specs.TransactionRows.{begun, rolled_back, committed_in, level_named, level_or_0}
use Rattle.lo_machine.specs.Values.{all_judged, array_or_empty, column_in}
use Rattle.lo_machine.specs.Well.{AreHeld, AreNamed, IsWell}
use Rattle.lo_machine.proofs.ChangesJudged.{all_found}
use Rattle.lo_machine.proofs.FlatEdits.{IsFlatEdit, IsFlatIfThere, KeepTables, AreRewritten, flat_owned, flat_left, flat_made, more_named, more_tables, named_in, objects_flat, put_kept, rewritten, row_flat, rows_kept, tables_same}
use Rattle.lo_machine.proofs.FlatLiterals.{changes_flat, set_all_held, text_held, under_held, values_flat, variable_held}
use Rattle.lo_machine.proofs.ObjectDeeds.{AreOfObjects, create_deeds, unlink_deeds, get_deeds, put_deeds, open_deeds, close_deeds, read_deeds, write_deeds, seek_deeds, tell_deeds, truncate_deeds}
use Rattle.lo_machine.proofs.Unmet.{first_none, front_none, unmet, not_unmet}
use Rattle.orphan_sweep.specs.declared.act.SweepAct.{SweepAct}
use Rattle.orphan_sweep.specs.declared.act.SweepAct.TheVariants as acts
use Rattle.lo_machine.specs.SweepRows.{act_granted, act_of, scan_reply, report_in}

-- what an outcome leaves of rows, tables and variables
pub record IsKept (done : Outcome) : Type 0 where
  pub flat : AreFlatRows done.database.tables done.database.edits
  pub named : AreNamed done.database.tables
  pub held : AreHeld done.player.variables

-- a table that is there

some_there : (found : Option Table) → is_none found ≡ false → is_some found ≡ true
some_there None is = absurd (true≢false is)
some_there (Some t) is = refl

pub each_row : {X Y : Type 0} (P : Y → Type 0) (Q : X → Type 0) (f : X → Y) → ((x : X) → Q x → P (f x)) → (xs : List X) → All Q xs → Each P (map f xs)
each_row P Q f each [] all = tt
each_row P Q f each (x ∷ xs) all = (each x (All-head Q x xs all), each_row P Q f each xs (All-tail Q x xs all))

module _ (st : State) (s : ℕ) (well : IsWell st) where
  abbrev es : List (Edit Deed)
  es = edits st

  abbrev all_tables : List Table
  all_tables = st.database.tables

  abbrev at : Here
  at = here st s

  answered_kept : (reply : Reply) → IsKept (answered st s reply)
  answered_kept reply = record { flat = well.flat; named = well.named; held = well.held s }

  left_kept : (reply : Reply) (es' : List (Edit Deed)) (session : Session) → AreFlatRows all_tables es' → IsKept (left_with st s reply es' session)
  left_kept reply es' session flat = record { flat = flat; named = well.named; held = well.held s }

  begun_kept : (inside : Bool) → IsKept (begun st s inside)
  begun_kept true = answered_kept (Word words.Begin)
  begun_kept false = left_kept (Word words.Begin) es _ well.flat

  undone_flat : (k : ℕ) → AreFlatRows all_tables (undone s k es)
  undone_flat k = flat_left all_tables (stays s k) es well.flat

  rolled_back_kept : (inside : Bool) → IsKept (rolled_back st s inside)
  rolled_back_kept false = answered_kept (Word words.Rollback)
  rolled_back_kept true = left_kept (Word words.Rollback) (aborted s es) _ (undone_flat 1)

  committed_in_kept : (inside failed : Bool) → IsKept (committed_in st s inside failed)
  committed_in_kept false failed = answered_kept (Word words.Commit)
  committed_in_kept true true = rolled_back_kept true
  committed_in_kept true false = left_kept (Word words.Commit) (committed s (now st) es) _ (flat_owned all_tables (committed_owner s (now st)) es well.flat)

  refused_kept : (refusal : Refusal) → IsKept (refused st s refusal)
  refused_kept refusal = by (is_open (session_of st s).transaction)
    where
      by : (inside : Bool) → IsKept (refused_in st s inside refusal)
      by false = answered_kept (Refused refusal)
      by true = left_kept (Refused refusal) _ _ (undone_flat _)

  -- a call, under the tables that it leaves
  called_kept : (granted : Granted) → KeepTables all_tables granted.tables → AreNamed granted.tables → Each (IsFlatDeed granted.tables) granted.deeds → AreHeld granted.variables → IsKept (called st s granted)
  called_kept granted' keep named made held = record {
    flat =
        All-append (IsFlatEdit granted'.tables) es (edits_by (now st) (owner_in (now st) s (session_of st s).transaction.levels) granted'.deeds)
        (rows_kept all_tables granted'.tables keep es well.flat)
        (flat_made granted'.tables (now st) (owner_in (now st) s (session_of st s).transaction.levels) granted'.deeds made);
    named = named;
    held = held;
  }

  on_objects_kept : (row : objects.Here → objects.Row) → AreOfObjects (row (objects_here at)).granted.deeds → IsKept (call_granted st s (on_objects row))
  on_objects_kept row made = called_kept (on_objects row at).granted (tables_same all_tables) well.named (objects_flat all_tables (row (objects_here at)).granted.deeds made) (well.held s)

  -- one on tables that leaves them, and one that makes no edits either
  on_rows_kept : (granted : Granted) → granted.tables ≡ all_tables → granted.variables ≡ variables_of st s → Each (IsFlatDeed all_tables) granted.deeds → IsKept (called st s granted)
  on_rows_kept granted' same same_variables made =
      called_kept granted'
      (subst (KeepTables all_tables) (sym same) (tables_same all_tables))
      (subst AreNamed (sym same) well.named)
      (subst (λ (ts : List Table). Each (IsFlatDeed ts) granted'.deeds) (sym same) made)
      (subst AreHeld (sym same_variables) (well.held s))

  becomes_kept : (name : List ℕ) (a : Array) → IsHeld a → IsKept (called st s (variable_becomes at name a))
  becomes_kept name a held = called_kept (variable_becomes at name a) (tables_same all_tables) well.named tt (set_all_held name a (variables_of st s) (well.held s) held)

  -- No term of a call's refusal holds.

  unrefused : (r : Request) (row : Here → Row) → first_of (misplaced st s r ∷ call_refusals st s row) ≡ None → first_of (row at).refusals ≡ None
  unrefused r row none = front_none (row at).refusals (pool_short st (row at).granted.deeds ∷ []) (first_none (misplaced st s r) (call_refusals st s row) none).1

  -- the table of a name is there

  table_there : (t : List ℕ) → no_table (tables_here at) t ≡ None → is_some (table_in t all_tables) ≡ true
  table_there t none = some_there (table_in t all_tables) (unmet (is_none (table_in t all_tables)) NoTable (pos 0) none)

  values_put : (t : List ℕ) (row : List Value) → no_table (tables_here at) t ≡ None → AreFlatValues (table_columns at t) row → IsFlatPut all_tables t row
  values_put t row none flat = record {
    there = table_there t none;
    flat = λ u found. subst (λ (o : Option Table). AreFlatValues (columns_in o) row) found flat;
  }

  -- a row that is there

  abbrev found_row : (t : List ℕ) (i : ℤ) → Option model.Row
  found_row t i = row_here (tables_here at) t i

  found_flat : (t : List ℕ) (i : ℤ) → IsFlatIfThere all_tables t i (found_row t i)
  found_flat t i = row_flat all_tables t i (view_of at) (flat_left all_tables (sees_edit (now st) (Whole s)) es well.flat)

  row_put : (t : List ℕ) (i : ℤ) → has_row (view_of at) t i ≡ true → IsFlatPut all_tables t (values_in (found_row t i))
  row_put t i there = by (found_row t i) refl (found_flat t i)
    where
      by : (found : Option model.Row) → found_row t i ≡ found → IsFlatIfThere all_tables t i found → IsFlatPut all_tables t (values_in found)
      by None is flat = absurd (false≢true (sym (ap is_some is) ∙ there))
      by (Some row) is flat = flat

  row_there : (t : List ℕ) (i : ℤ) → no_row (tables_here at) t i ≡ None → has_row (view_of at) t i ≡ true
  row_there t i none = not_unmet (has_row (view_of at) t i) (unmet (not (has_row (view_of at) t i)) NoRow i none)

  columns_flat : (t : List ℕ) (row : List Value) → IsFlatPut all_tables t row → AreFlatValues (table_columns at t) row
  columns_flat t row put = by (table_in t all_tables) refl
    where
      by : (found : Option Table) → table_in t all_tables ≡ found → AreFlatValues (columns_in found) row
      by None is = absurd (false≢true (sym (ap is_some is) ∙ put.there))
      by (Some u) is = put.flat u is

  columns_distinct : (t : List ℕ) → AreDistinct (names_of (table_columns at t))
  columns_distinct t = by (table_in t all_tables) refl
    where
      by : (found : Option Table) → table_in t all_tables ≡ found → AreDistinct (names_of (columns_in found))
      by None is = tt
      by (Some u) is = named_in t all_tables u well.named is

  -- each request on rows

  insert_kept : (t : List ℕ) (literals : List Literal) → first_of (insert_line t literals at).refusals ≡ None → IsKept (call_granted st s (insert_line t literals))
  insert_kept t literals none = on_rows_kept (insert_line t literals at).granted refl refl (put, tt)
    where
      columns : List Column
      columns = table_columns at t

      judged : List (Option Refusal)
      judged = all_judged at.variables 1 columns literals

      made : tables.Row
      made = insert_row t (inserted at t literals) (tables_here at)

      table_none : (no_table (tables_here at) t ≡ None) × (first_of (wrong_count columns literals ∷ (judged ++ made.refusals)) ≡ None)
      table_none = first_none (no_table (tables_here at) t) (wrong_count columns literals ∷ (judged ++ made.refusals)) none

      count_none : (wrong_count columns literals ≡ None) × (first_of (judged ++ made.refusals) ≡ None)
      count_none = first_none (wrong_count columns literals) (judged ++ made.refusals) table_none.1

      same : length columns ≡ length literals
      same = eqb-true (length columns) (length literals) (not_unmet (length columns == length literals) (unmet (not (length columns == length literals)) WrongType (pos (length literals)) count_none.0))

      put : IsFlatPut all_tables t (inserted at t literals)
      put = values_put t (inserted at t literals) table_none.0 (values_flat at.variables (well.held s) 1 columns literals same (front_none judged made.refusals count_none.1))

  update_kept : (t : List ℕ) (i : ℤ) (changes : List Assign) → first_of (update_line t i changes at).refusals ≡ None → IsKept (call_granted st s (update_line t i changes))
  update_kept t i changes none = on_rows_kept (update_line t i changes at).granted refl refl (put, tt)
    where
      columns : List Column
      columns = table_columns at t

      judged : List (Option Refusal)
      judged = changes_judged at.variables columns 1 changes

      made : tables.Row
      made = update_row t i (changes_here at t changes) (tables_here at)

      table_none : (no_table (tables_here at) t ≡ None) × (first_of (no_row (tables_here at) t i ∷ (judged ++ made.refusals)) ≡ None)
      table_none = first_none (no_table (tables_here at) t) (no_row (tables_here at) t i ∷ (judged ++ made.refusals)) none

      row_none : (no_row (tables_here at) t i ≡ None) × (first_of (judged ++ made.refusals) ≡ None)
      row_none = first_none (no_row (tables_here at) t i) (judged ++ made.refusals) table_none.1

      old : AreFlatValues columns (values_in (found_row t i))
      old = columns_flat t (values_in (found_row t i)) (row_put t i (row_there t i row_none.0))

      put : IsFlatPut all_tables t (updated (tables_here at) t i (changes_here at t changes))
      put =
          values_put t (updated (tables_here at) t i (changes_here at t changes)) table_none.0
          (changes_flat at.variables (well.held s) columns changes (front_none judged made.refusals row_none.1) columns (all_found columns (columns_distinct t)) (values_in (found_row t i)) old)

  rewrite_kept : (t : List ℕ) (storages : List Column) → IsKept (call_granted st s (on_tables (rewrite_row t storages)))
  rewrite_kept t storages = called_kept (on_tables (rewrite_row t storages) at).granted (new.keep) (new.named well.named) puts (well.held s)
    where
      new : AreRewritten all_tables (rewrite_row t storages (tables_here at)).granted.tables
      new = rewritten t storages all_tables

      puts : Each (IsFlatDeed (rewrite_row t storages (tables_here at)).granted.tables) (puts_anew t (columns_rewritten t storages (tables_here at)) (tables_here at) (ids_in t (view_of at)))
      puts =
          each_row (IsFlatDeed (rewrite_row t storages (tables_here at)).granted.tables) (λ (i : ℤ). has_row (view_of at) t i ≡ true)
          (λ (i : ℤ). put_anew (tables_here at).clock t (columns_rewritten t storages (tables_here at)) (row_values t (tables_here at) i))
          (λ i there. put_kept all_tables (rewrite_row t storages (tables_here at)).granted.tables new.keep t (values_in (found_row t i)) (row_put t i there))
          (ids_in t (view_of at)) (filter_passes (has_row (view_of at) t) (in_order int_cmp (put_ids t (deeds (view_of at)))))

  create_table_kept : (name : List ℕ) (columns : List Column) → AreDistinct (names_of columns) → IsKept (call_granted st s (on_tables (create_table_row name columns)))
  create_table_kept name columns distinct = called_kept (on_tables (create_table_row name columns) at).granted (more_tables all_tables (new ∷ [])) (more_named all_tables new well.named distinct) tt (well.held s)
    where
      new : Table
      new = record { name = name; columns = columns }

  -- each request on array variables

  load_kept : (name t : List ℕ) (i : ℤ) (column : List ℕ) → first_of (load_line name t i column at).refusals ≡ None → IsKept (call_granted st s (load_line name t i column))
  load_kept name t i column none = becomes_kept name (array_of_value (loaded at t i column)) held
    where
      row : List Value
      row = values_in (found_row t i)

      table_none : (no_table (tables_here at) t ≡ None) × (first_of (no_row (tables_here at) t i ∷ no_array column (table_columns at t) row) ≡ None)
      table_none = first_none (no_table (tables_here at) t) (no_row (tables_here at) t i ∷ no_array column (table_columns at t) row) none

      row_none : (no_row (tables_here at) t i ≡ None) × (first_of (no_array column (table_columns at t) row) ≡ None)
      row_none = first_none (no_row (tables_here at) t i) (no_array column (table_columns at t) row) table_none.1

      held : IsHeld (array_of_value (loaded at t i column))
      held =
          under_held column (table_columns at t) row (columns_flat t row (row_put t i (row_there t i row_none.0)))
          (front_none (no_array_column (column_in column (table_columns at t))) _ row_none.1)

  not_too_big : (found : Option ℕ) → too_big_by found ≡ None → found ≡ None
  not_too_big None none = refl
  not_too_big (Some count) none = absurd (false≢true (sym (ap is_some none)))

  set_kept : (name : List ℕ) (sub : ℤ) (value : Option ℤ) → IsRanged (Set name sub value) → first_of (set_line name sub value at).refusals ≡ None → IsKept (call_granted st s (set_line name sub value))
  set_kept name sub value ranged none = becomes_kept name (array_set (array_here at name) sub value) held
    where
      fits : excess (array_here at name) sub ≡ None
      fits =
          let behind = (first_none (no_variable_named at name) (too_big_by (excess (array_here at name) sub) ∷ []) none).1 in
          not_too_big (excess (array_here at name) sub) (first_none (too_big_by (excess (array_here at name) sub)) [] behind).0

      held : IsHeld (array_set (array_here at name) sub value)
      held = set_held (array_here at name) sub value (variable_held name (variables_of st s) (well.held s)) fits ranged.0 ranged.1

  -- an act of a clean-up
  act_kept : (act : SweepAct) → IsKept (act_granted st s act)
  act_kept (acts.Scan table column) = answered_kept (scan_reply st s table column)
  act_kept acts.Begin = begun_kept (is_open (session_of st s).transaction)
  act_kept (acts.Unlink o) = on_objects_kept (unlink_row o) (unlink_deeds (objects_here at) o)
  act_kept acts.Commit = committed_in_kept (is_open (session_of st s).transaction) (session_of st s).transaction.failed
  act_kept acts.Rollback = rolled_back_kept (is_open (session_of st s).transaction)
  act_kept acts.Report = answered_kept (report_in (st.players s).sweep)
  act_kept acts.Idle = answered_kept (Word words.Idle)

  all_kept : (r : Request) → IsSpelled r → IsRanged r → first_of (refusals st s r) ≡ None → IsKept (granted st s r)
  all_kept Begin spelled ranged none = begun_kept (is_open (session_of st s).transaction)
  all_kept Commit spelled ranged none = committed_in_kept (is_open (session_of st s).transaction) (session_of st s).transaction.failed
  all_kept Rollback spelled ranged none = rolled_back_kept (is_open (session_of st s).transaction)
  all_kept (Savepoint name) spelled ranged none = left_kept (Word words.Savepoint) es _ well.flat
  all_kept (Release name) spelled ranged none = left_kept (Word words.Release) _ _ (flat_owned all_tables (released_owner s (level_or_0 (level_named st s name))) es well.flat)
  all_kept (RollbackTo name) spelled ranged none = left_kept (Word words.Rollback) _ _ (undone_flat (level_or_0 (level_named st s name)))
  all_kept (LoCreat mode) spelled ranged none = on_objects_kept (create_row 0 []) (create_deeds (objects_here at) 0 [])
  all_kept (LoCreate o) spelled ranged none = on_objects_kept (create_row o []) (create_deeds (objects_here at) o [])
  all_kept (LoOpen o mode) spelled ranged none = on_objects_kept (open_row o mode) (open_deeds (objects_here at) o mode)
  all_kept (LoClose fd) spelled ranged none = on_objects_kept (close_row fd) (close_deeds (objects_here at) fd)
  all_kept (LoRead fd count) spelled ranged none = on_objects_kept (read_row fd count) (read_deeds (objects_here at) fd count)
  all_kept (LoWrite fd bytes) spelled ranged none = on_objects_kept (write_row fd bytes) (write_deeds (objects_here at) fd bytes)
  all_kept (LoLseek fd offset whence) spelled ranged none = on_objects_kept (seek_row false fd offset whence) (seek_deeds (objects_here at) false fd offset whence)
  all_kept (LoLseek64 fd offset whence) spelled ranged none = on_objects_kept (seek_row true fd offset whence) (seek_deeds (objects_here at) true fd offset whence)
  all_kept (LoTell fd) spelled ranged none = on_objects_kept (tell_row false fd) (tell_deeds (objects_here at) false fd)
  all_kept (LoTell64 fd) spelled ranged none = on_objects_kept (tell_row true fd) (tell_deeds (objects_here at) true fd)
  all_kept (LoTruncate fd size) spelled ranged none = on_objects_kept (truncate_row fd size) (truncate_deeds (objects_here at) fd size)
  all_kept (LoTruncate64 fd size) spelled ranged none = on_objects_kept (truncate_row fd size) (truncate_deeds (objects_here at) fd size)
  all_kept (LoUnlink o) spelled ranged none = on_objects_kept (unlink_row o) (unlink_deeds (objects_here at) o)
  all_kept (LoGet o from count) spelled ranged none = on_objects_kept (get_row o from count) (get_deeds (objects_here at) o from count)
  all_kept (LoPut o offset bytes) spelled ranged none = on_objects_kept (put_row o offset bytes) (put_deeds (objects_here at) o offset bytes)
  all_kept (LoFromBytea o bytes) spelled ranged none = on_objects_kept (create_row o bytes) (create_deeds (objects_here at) o bytes)
  all_kept (CreateTable name columns) spelled ranged none = create_table_kept name columns spelled.1.distinct
  all_kept (Insert t literals) spelled ranged none = insert_kept t literals (unrefused (Insert t literals) (insert_line t literals) none)
  all_kept (Update t i changes) spelled ranged none = update_kept t i changes (unrefused (Update t i changes) (update_line t i changes) none)
  all_kept (Delete t i) spelled ranged none = on_rows_kept (on_tables (delete_row t i) at).granted refl refl (tt, tt)
  all_kept (Get t i) spelled ranged none = on_rows_kept (get_line t i at).granted refl refl tt
  all_kept (Ids t) spelled ranged none = on_rows_kept (on_tables (ids_row t) at).granted refl refl tt
  all_kept (Slice t i column from count) spelled ranged none = on_rows_kept (on_tables (slice_row t i column from count) at).granted refl refl tt
  all_kept (Declare name t i) spelled ranged none = on_rows_kept (declare_line name t i at).granted refl refl tt
  all_kept (Fetch name column from count) spelled ranged none = on_rows_kept (on_tables (cursors.fetch_row name column from count) at).granted refl refl tt
  all_kept (Close name) spelled ranged none = on_rows_kept (on_tables (cursors.close_row name) at).granted refl refl tt
  all_kept (Rewrite t storages) spelled ranged none = rewrite_kept t storages
  all_kept (ArrayText name text) spelled ranged none = becomes_kept name (array_or_empty (array_of_text text)) (text_held text (first_none (text_refusal text) [] (unrefused (ArrayText name text) (array_line name text) none)).0)
  all_kept (Load name t i column) spelled ranged none = load_kept name t i column (unrefused (Load name t i column) (load_line name t i column) none)
  all_kept (Set name sub value) spelled ranged none = set_kept name sub value ranged (unrefused (Set name sub value) (set_line name sub value) none)
  all_kept (Elem name sub) spelled ranged none = on_rows_kept (elem_line name sub at).granted refl refl tt
  all_kept (Show name) spelled ranged none = on_rows_kept (show_line name at).granted refl refl tt
  all_kept Vacuum spelled ranged none = answered_kept (Word words.Vacuum)
  all_kept (Vacuumlo dry limit) spelled ranged none = record { flat = well.flat; named = well.named; held = well.held s }
  all_kept Step spelled ranged none = act_kept (act_of st s)
  all_kept Finish spelled ranged none = act_kept (act_of st s)

  -- granted or refused
  pub outcome_kept : (r : Request) → IsSpelled r → IsRanged r → IsKept (granted_or_refused st s r (refusal_of st s r))
  outcome_kept r spelled ranged = by (refusal_of st s r) refl
    where
      by : (refusal : Option Refusal) → refusal_of st s r ≡ refusal → IsKept (granted_or_refused st s r refusal)
      by None is = all_kept r spelled ranged (first_none (failed st s r) (refusals st s r) is).1
      by (Some refusal) is = refused_kept refusal
