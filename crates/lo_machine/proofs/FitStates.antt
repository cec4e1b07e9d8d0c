-- The database stays fit through the requests that are served.
use Rattle.std.proofs.Common.{◌≡◌, ◌≤◌, ◌<◌, ℕ, ℤ, pos, Bool, true, false, not, List, [], ◌∷◌, ◌++◌, length, map, Option, Some, None, refl, ap, sym, subst, ◌∙◌, arith}
use Rattle.std.specs.Prelude.{◌==◌, ◌||◌, is_none, is_some, nat_le, nat_lt, option_map}
use Rattle.std.specs.List.{AllByRecursion, list_any}
use Rattle.std.specs.Ordering.{int_cmp, int_eq}
use Rattle.std.proofs.lemmas.Bool.{eqb-true, false≢true, true≢false}
use Rattle.std.proofs.lemmas.Bool.Decides.{Decides-int_eq, nat_tests}
use Rattle.std.proofs.lemmas.List.Elements.{All-append, All-filter, All-map, filter_passes}
use Rattle.lo_base.specs.Name.{IsName}
use Rattle.lo_base.specs.declared.column.Column.{Column}
use Rattle.lo_base.specs.declared.refusal.Cause.TheVariants.{InBlock, NoRow, NoTable, RowTooBig, TableExists, TooManyTables, WrongType}
use Rattle.lo_base.specs.declared.refusal.Refusal.{Refusal}
use Rattle.lo_base.specs.declared.reply.Reply.{Reply}
use Rattle.lo_base.specs.declared.reply.Reply.TheVariants.{Word, Refused, Counted}
use Rattle.lo_base.specs.declared.reply.Word.TheVariants as words
use Rattle.lo_base.specs.declared.request.Assign.{Assign}
use Rattle.lo_base.specs.declared.request.Request.{Request}
use Rattle.lo_base.specs.declared.request.Request.TheVariants.{Begin, Commit, Rollback, Savepoint, Release, RollbackTo, LoCreat, LoCreate, LoOpen, LoClose, LoRead, LoWrite, LoLseek, LoLseek64, LoTell, LoTell64, LoTruncate, LoTruncate64, LoUnlink, LoGet, LoPut, LoFromBytea, CreateTable, Insert, Update, Delete, Get, Ids, Slice, Declare, Fetch, Close, Rewrite, Vacuum, Array, Load, Set, Elem, Show, Vacuumlo, Step, Finish}
use Rattle.lo_base.specs.declared.value.Literal.{Literal}
use Rattle.lo_base.specs.declared.value.Value.{Value}
use Rattle.lo_calls.specs.DescriptorRows.{open_row, close_row, read_row, write_row, seek_row, tell_row, truncate_row}
use Rattle.lo_calls.specs.ObjectRows.{create_row, unlink_row, get_row, put_row}
use Rattle.lo_calls.specs.Row as objects
use Rattle.lo_model.specs.declared.owner.Owner.{Owner}
use Rattle.lo_model.specs.declared.owner.Owner.TheVariants.{Running, Committed}
use Rattle.lo_model.specs.declared.viewer.Viewer.TheVariants.{Whole}
use Rattle.lo_model.specs.Database.{Table}
use Rattle.lo_model.specs.Edit.{Deed, Create, Write, Cut, Unlink, Put, Delete, Edit, deeds, edits_by}
use Rattle.lo_model.specs.Levels.{committed_owner, is_from_level, owned_by, released_owner, stays, undone}
use Rattle.lo_model.specs.Listing.{has_row, ids_in, in_order, put_ids}
use Rattle.lo_model.specs.Numbering.{is_running}
use Rattle.lo_model.specs.Row as model
use Rattle.lo_model.specs.Session.{Session}
use Rattle.lo_model.specs.Touch.{RowOf, RowsOf, busy_with, meets, touched}
use Rattle.lo_model.specs.Transaction.{is_open}
use Rattle.lo_model.specs.View.{sees_edit}
use Rattle.lo_model.proofs.ListingLaws.{ids_are}
use Rattle.lo_pages.specs.Outcome.{first_of}
use Rattle.row_tables.specs.Catalog.{columns_in, most_tables, number_in, table_in, with_columns}
use Rattle.row_tables.specs.CursorRules as cursors
use Rattle.row_tables.specs.RewriteRules.{columns_rewritten, rewrite_row, some_too_big, storage_refusals, tables_rewritten, values_of as row_values}
use Rattle.row_tables.specs.Row as tables
use Rattle.row_tables.specs.RowRules.{create_table_row, delete_row, ids_row, insert_row, put_anew, row_here, slice_row, update_row, updated, values_in}
use Rattle.row_tables.specs.Terms.{busy, busy_for, held_by_session, no_row, no_table, rounded_length, row_exists, row_limit, row_too_big}
use Rattle.row_tables.specs.Terms as terms
use Rattle.row_tables.specs.Values.{HasId, id_in, id_of}
use Rattle.row_tables.proofs.Naming.{none_there, no_table_in}
use Rattle.row_tables.proofs.RowEdits.{is_row_itself}
use Rattle.row_tables.proofs.Storages.{can_store, kinds_kept}
use Rattle.row_versions.specs.Stack.{Each}
use Rattle.toast_plan.specs.Columns.{IsTableColumns}
use Rattle.toast_plan.specs.Row.{value_lengths}
use Rattle.lo_machine.specs.ArrayRows.{array_line, elem_line, load_line, set_line, show_line}
use Rattle.lo_machine.specs.CallRows.{here, called, call_granted, call_refusals, misplaced, misplaced_by}
use Rattle.lo_machine.specs.Fitting.{AreCreated, FitsObject, FitsTable, HasLiteralRange, HasPlan, HasKeptRanges, HavePlans, IsCounter, IsFit, IsFitDatabase, IsRow, columns_among, is_replaced, replaces}
use Rattle.lo_machine.specs.Row.{Granted, Here, Row, objects_here, on_objects, on_tables, tables_here, view_of}
use Rattle.lo_machine.specs.Served.{is_plain}
use Rattle.lo_machine.specs.Spelled.{IsLiteral, IsSpelled}
use Rattle.lo_machine.specs.State.{State, Outcome, and_made, answered, edits, left_with, now, owner_in, refused, refused_in, session_of}
use Rattle.lo_machine.specs.Step.{failed, granted, granted_or_refused, refusal_of, refusals, state_after, outcome}
use Rattle.lo_machine.specs.TableRows.{changes_here, changes_judged, declare_line, get_line, insert_line, inserted, table_columns, update_line, wrong_count}
use Rattle.lo_machine.specs.Terms.{pool_short, refusal}
use Rattle.lo_machine.specs.TransactionRows.{begun, rolled_back, committed_in, level_named, level_or_0}
use Rattle.lo_machine.specs.Values.{all_judged}
use Rattle.lo_machine.specs.Well.{IsWell}
use Rattle.lo_machine.proofs.FitFound.{IsRowIfThere, row_is, settled}
use Rattle.lo_machine.proofs.FitLiterals.{changed_row, inserted_row}
use Rattle.lo_machine.proofs.FitObjects.{FitObjects, LeavesFit, create_fits, put_fits, read_fits, seek_fits, tell_fits, truncate_fits, write_fits}
use Rattle.lo_machine.proofs.FitTables.{KeepTypes, created_more, created_with, made_all, made_plans, new_columns, old_columns, plans_with_more, row_with, table_has, types_kept, types_more, types_same, types_with}
use Rattle.lo_machine.proofs.FlatStates.{each_row}
use Rattle.lo_machine.proofs.ObjectDeeds.{AreOfObjects, create_deeds, unlink_deeds, get_deeds, put_deeds, open_deeds, close_deeds, read_deeds, write_deeds, seek_deeds, tell_deeds, truncate_deeds}
use Rattle.lo_machine.proofs.PlanEdits.{LeavesCommits, plans_anew, plans_left, plans_more, plans_owned}
use Rattle.lo_machine.proofs.TableCalls.{first_same}
use Rattle.lo_machine.proofs.TablesAlike.{held_none}
use Rattle.lo_machine.proofs.Unmet.{first_none, front_none, rest_none, unmet, not_unmet}
use Rattle.lo_machine.proofs.WellSessions.{none_open}
use Rattle.lo_machine.proofs.WellStates.{untold}
use Rattle.orphan_sweep.specs.declared.act.SweepAct.{SweepAct}
use Rattle.orphan_sweep.specs.declared.act.SweepAct.TheVariants as acts
use Rattle.lo_machine.specs.SweepRows.{act_granted, act_of, scan_reply, report_in}
use Rattle.lo_machine.proofs.ToldSweeps.{IsSame, request_same}

-- ends of levels and transactions leave commits, and take open edits alone

released_leaves : (s k : ℕ) → LeavesCommits (released_owner s k)
released_leaves s k (Running t l) ended = absurd (true≢false ended)
released_leaves s k (Committed c) ended = refl

committed_leaves : (s clock : ℕ) → LeavesCommits (committed_owner s clock)
committed_leaves s clock (Running t l) ended = absurd (true≢false ended)
committed_leaves s clock (Committed c) ended = refl

open_goes : (s k : ℕ) (o : Owner) → not (is_from_level s k o) ≡ false → is_running o ≡ true
open_goes s k (Running t l) gone = refl
open_goes s k (Committed c) gone = absurd (true≢false gone)

-- deeds on objects are of no row

object_fits : (tables : List Table) (ds : List Deed) → AreOfObjects ds → Each (FitsTable tables) ds × Each (HasPlan tables) ds
object_fits tables [] are = (tt, tt)
object_fits tables (Create o ∷ ds) are = let rest = object_fits tables ds are.1 in ((tt, rest.0), (tt, rest.1))
object_fits tables (Write o at bytes ∷ ds) are = let rest = object_fits tables ds are.1 in ((tt, rest.0), (tt, rest.1))
object_fits tables (Cut o size ∷ ds) are = let rest = object_fits tables ds are.1 in ((tt, rest.0), (tt, rest.1))
object_fits tables (Unlink o ∷ ds) are = let rest = object_fits tables ds are.1 in ((tt, rest.0), (tt, rest.1))
object_fits tables (Put t i values stored ∷ ds) are = absurd (false≢true are.0)
object_fits tables (Delete t i ∷ ds) are = absurd (false≢true are.0)

-- a row that is not too big

not_too_big : (columns : List Column) (lengths : List (Option ℕ)) → row_too_big columns lengths ≡ None → rounded_length columns lengths ≤ row_limit
not_too_big columns lengths none =
    let test : nat_lt row_limit (rounded_length columns lengths) ≡ false = unmet (nat_lt row_limit (rounded_length columns lengths)) RowTooBig (pos (rounded_length columns lengths)) none in
    grind (arith, nat_tests, test)

each_not_too_big : (columns : List Column) (row : ℤ → List Value) (ids : List ℤ) → terms.first_of (map (λ i. row_too_big columns (value_lengths (row i))) ids) ≡ None → Each (λ (i : ℤ). rounded_length columns (value_lengths (row i)) ≤ row_limit) ids
each_not_too_big columns row [] none = tt
each_not_too_big columns row (i ∷ ids) none =
    let both = first_none (row_too_big columns (value_lengths (row i))) (map (λ j. row_too_big columns (value_lengths (row j))) ids) (sym (first_same (map (λ j. row_too_big columns (value_lengths (row j))) (i ∷ ids))) ∙ none) in
    (not_too_big columns (value_lengths (row i)) both.0, each_not_too_big columns row ids (first_same (map (λ j. row_too_big columns (value_lengths (row j))) ids) ∙ both.1))

each_put : {X Y : Type 0} (P : X → Type 0) (Q : Y → Type 0) (f : X → Y) → ((x : X) → P x → Q (f x)) → (xs : List X) → Each P xs → Each Q (map f xs)
each_put P Q f each [] all = tt
each_put P Q f each (x ∷ xs) all = (each x all.0, each_put P Q f each xs all.1)

no_refusal : (r : Refusal) → Some r ≡ None → ⊥
no_refusal r is = absurd (false≢true (sym (ap is_some is)))

pub id_is : (i : ℤ) (row : List Value) → HasId i row → id_of row ≡ i
id_is i [] has = absurd has
id_is i (v ∷ row) has = ap id_in has

pub own_id : (i : ℤ) (row : List Value) → HasId i row → HasId (id_of row) row
own_id i row has = subst (λ (j : ℤ). HasId j row) (sym (id_is i row has)) has

literals_of : (changes : List Assign) → AllByRecursion (λ (a : Assign). IsName a.column × IsLiteral a.value) changes → AllByRecursion (λ (a : Assign). IsLiteral a.value) changes
literals_of [] all = tt
literals_of (a ∷ changes) all = (all.0.1, literals_of changes all.1)

-- a put of each id replaces each row of these
puts_replace : (clock : ℕ) (owner : Owner) (t : List ℕ) (put : ℤ → Deed) (i : ℤ) → is_running owner ≡ false → ((k : ℤ) → i ≡ k → meets (RowOf t i) (touched (put k)) ≡ true) → (ids : List ℤ) → list_any (λ k. int_eq i k) ids ≡ true → is_replaced (RowOf t i) (edits_by clock owner (map put ids)) ≡ true
puts_replace clock owner t put i settles own [] listed = absurd (false≢true listed)
puts_replace clock owner t put i settles own (k ∷ ids) listed = by (int_eq i k) refl listed (puts_replace clock owner t put i settles own ids)
  where
    one : Edit Deed
    one = record { clock = clock; owner = owner; deed = put k }

    more : List (Edit Deed)
    more = edits_by clock owner (map put ids)

    by : (b : Bool) → int_eq i k ≡ b → (b || list_any (λ j. int_eq i j) ids) ≡ true → (list_any (λ j. int_eq i j) ids ≡ true → is_replaced (RowOf t i) more ≡ true) → (replaces (RowOf t i) one || is_replaced (RowOf t i) more) ≡ true
    by true same now rest = rw (settles, own k ((Decides-int_eq i k).0 same)) refl
    by false other now rest = rw (rest now) (either (replaces (RowOf t i) one))
      where
        either : (b : Bool) → (b || true) ≡ true
        either true = refl
        either false = refl

module _ (st : State) (s : ℕ) (well : IsWell st) (fit : IsFit st) where
  abbrev es : List (Edit Deed)
  es = edits st

  abbrev all_tables : List Table
  all_tables = st.database.tables

  abbrev at : Here
  at = here st s

  abbrev levels : List (Option (List ℕ))
  levels = (session_of st s).transaction.levels

  abbrev owner : Owner
  owner = owner_in (now st) s levels

  answered_fits : (reply : Reply) → IsFitDatabase (answered st s reply).database
  answered_fits reply = fit

  owned_fits : (reply : Reply) (session : Session) (change : Owner → Owner) → LeavesCommits change → IsFitDatabase (left_with st s reply (map (owned_by change) es) session).database
  owned_fits reply session change leaves = record {
    counter = fit.counter;
    tables = fit.tables;
    objects = All-map (λ (e : Edit Deed). FitsObject e.deed) (owned_by change) es fit.objects;
    rows = All-map (λ (e : Edit Deed). FitsTable all_tables e.deed) (owned_by change) es fit.rows;
    plans = plans_owned change leaves all_tables es fit.plans;
  }

  undone_fits : (reply : Reply) (session : Session) (k : ℕ) → IsFitDatabase (left_with st s reply (undone s k es) session).database
  undone_fits reply session k = record {
    counter = fit.counter;
    tables = fit.tables;
    objects = All-filter (stays s k) (λ (e : Edit Deed). FitsObject e.deed) es fit.objects;
    rows = All-filter (stays s k) (λ (e : Edit Deed). FitsTable all_tables e.deed) es fit.rows;
    plans = plans_left (stays s k) (λ e gone. open_goes s k e.owner gone) all_tables es fit.plans;
  }

  begun_fits : (inside : Bool) → IsFitDatabase (begun st s inside).database
  begun_fits true = fit
  begun_fits false = fit

  rolled_back_fits : (inside : Bool) → IsFitDatabase (rolled_back st s inside).database
  rolled_back_fits false = fit
  rolled_back_fits true = undone_fits (Word words.Rollback) (session_of st s) 1

  committed_in_fits : (inside failed : Bool) → IsFitDatabase (committed_in st s inside failed).database
  committed_in_fits false failed = fit
  committed_in_fits true true = rolled_back_fits true
  committed_in_fits true false = owned_fits (Word words.Commit) (session_of st s) (committed_owner s (now st)) (committed_leaves s (now st))

  refused_fits : (r : Refusal) → IsFitDatabase (refused st s r).database
  refused_fits r = by (is_open (session_of st s).transaction)
    where
      by : (inside : Bool) → IsFitDatabase (refused_in st s inside r).database
      by false = fit
      by true = undone_fits (Refused r) (session_of st s) _

  -- a call, under the tables that it leaves
  called_fits : (granted : Granted) (new : List Table) → granted.tables ≡ new → IsCounter granted.counter → AreCreated new → KeepTypes all_tables new → FitObjects granted.deeds → Each (FitsTable new) granted.deeds → HavePlans new (and_made st s granted.deeds) → IsFitDatabase (called st s granted).database
  called_fits granted' new same counter created keep objects rows plans =
      subst (λ (ts : List Table). IsFitDatabase (record { edits = and_made st s granted'.deeds; tables = ts; counter = granted'.counter })) (sym same) record {
        counter = counter;
        tables = created;
        objects = All-append (λ (e : Edit Deed). FitsObject e.deed) es (edits_by (now st) owner granted'.deeds) fit.objects (made_all FitsObject (now st) owner granted'.deeds objects);
        rows = All-append (λ (e : Edit Deed). FitsTable new e.deed) es (edits_by (now st) owner granted'.deeds) (types_kept all_tables new keep es fit.rows) (made_all (FitsTable new) (now st) owner granted'.deeds rows);
        plans = plans;
      }

  -- one that leaves the tables
  rows_fit : (granted : Granted) → granted.tables ≡ all_tables → IsCounter granted.counter → FitObjects granted.deeds → Each (FitsTable all_tables) granted.deeds → Each (HasPlan all_tables) granted.deeds → IsFitDatabase (called st s granted).database
  rows_fit granted' same counter objects rows plans =
      called_fits granted' all_tables same counter fit.tables (types_same all_tables) objects rows
      (plans_more all_tables es (edits_by (now st) owner granted'.deeds) fit.plans (made_plans all_tables (now st) owner granted'.deeds plans))

  on_objects_fits : (row : objects.Here → objects.Row) → AreOfObjects (row (objects_here at)).granted.deeds → LeavesFit (row (objects_here at)).granted → IsFitDatabase (call_granted st s (on_objects row)).database
  on_objects_fits row are leaves =
      let none = object_fits all_tables (row (objects_here at)).granted.deeds are in
      rows_fit (on_objects row at).granted refl leaves.counter leaves.deeds none.0 none.1

  -- one that makes no edits
  reads_fit : (granted : Granted) → granted.tables ≡ all_tables → granted.counter ≡ at.counter → granted.deeds ≡ [] → IsFitDatabase (called st s granted).database
  reads_fit granted' same same_counter none =
      rows_fit granted' same (subst IsCounter (sym same_counter) fit.counter) (subst FitObjects (sym none) tt) (subst (Each (FitsTable all_tables)) (sym none) tt) (subst (Each (HasPlan all_tables)) (sym none) tt)

  -- No term of a call's refusal holds.

  unrefused : (r : Request) (row : Here → Row) → first_of (misplaced st s r ∷ call_refusals st s row) ≡ None → first_of (row at).refusals ≡ None
  unrefused r row none = front_none (row at).refusals (pool_short st (row at).granted.deeds ∷ []) (first_none (misplaced st s r) (call_refusals st s row) none).1

  -- the columns of a table that is there

  some_there : (found : Option Table) → is_none found ≡ false → is_some found ≡ true
  some_there None is = absurd (true≢false is)
  some_there (Some t) is = refl

  table_there : (t : List ℕ) → no_table (tables_here at) t ≡ None → is_some (table_in t all_tables) ≡ true
  table_there t none = some_there (table_in t all_tables) (unmet (is_none (table_in t all_tables)) NoTable (pos 0) none)

  columns_can : (t : List ℕ) → no_table (tables_here at) t ≡ None → IsTableColumns (table_columns at t)
  columns_can t none = by (table_in t all_tables) refl (table_there t none)
    where
      by : (found : Option Table) → table_in t all_tables ≡ found → is_some found ≡ true → IsTableColumns (columns_in found)
      by None is there = absurd (false≢true there)
      by (Some u) is there = table_has (λ (u : Table). IsTableColumns u.columns) t all_tables u fit.tables.tables.columns is

  -- a row that is there

  abbrev found_row : (t : List ℕ) (i : ℤ) → Option model.Row
  found_row t i = row_here (tables_here at) t i

  row_there : (t : List ℕ) (i : ℤ) → no_row (tables_here at) t i ≡ None → has_row (view_of at) t i ≡ true
  row_there t i none = not_unmet (has_row (view_of at) t i) (unmet (not (has_row (view_of at) t i)) NoRow i none)

  found_is : (t : List ℕ) (i : ℤ) → has_row (view_of at) t i ≡ true → IsRow (table_columns at t) i (values_in (found_row t i))
  found_is t i there = by (found_row t i) refl (row_is all_tables t i (view_of at) (All-filter (sees_edit (now st) (Whole s)) (λ (e : Edit Deed). FitsTable all_tables e.deed) es fit.rows))
    where
      by : (found : Option model.Row) → found_row t i ≡ found → IsRowIfThere all_tables t i found → IsRow (table_columns at t) i (values_in found)
      by None is row = absurd (false≢true (sym (ap is_some is) ∙ there))
      by (Some r) is row = row

  -- each request on rows

  insert_fits : (t : List ℕ) (literals : List Literal) → AllByRecursion IsLiteral literals → AllByRecursion HasLiteralRange literals → first_of (insert_line t literals at).refusals ≡ None → IsFitDatabase (call_granted st s (insert_line t literals)).database
  insert_fits t literals spelled range none = rows_fit (insert_line t literals at).granted refl fit.counter (tt, tt) (row, tt) (plan, tt)
    where
      columns : List Column
      columns = table_columns at t

      judged : List (Option Refusal)
      judged = all_judged at.variables 1 columns literals

      put : List Value
      put = inserted at t literals

      made : tables.Row
      made = insert_row t put (tables_here at)

      table_none : (no_table (tables_here at) t ≡ None) × (first_of (wrong_count columns literals ∷ (judged ++ made.refusals)) ≡ None)
      table_none = first_none (no_table (tables_here at) t) (wrong_count columns literals ∷ (judged ++ made.refusals)) none

      count_none : (wrong_count columns literals ≡ None) × (first_of (judged ++ made.refusals) ≡ None)
      count_none = first_none (wrong_count columns literals) (judged ++ made.refusals) table_none.1

      same : length columns ≡ length literals
      same = eqb-true (length columns) (length literals) (not_unmet (length columns == length literals) (unmet (not (length columns == length literals)) WrongType (pos (length literals)) count_none.0))

      row : IsRow columns (id_of put) put
      row = inserted_row at.variables (well.held s) columns literals (columns_can t table_none.0) same (front_none judged made.refusals count_none.1) spelled range

      last : List (Option Refusal)
      last = busy (tables_here at) t (id_of put) ∷ []

      big : Option Refusal
      big = row_too_big columns (value_lengths put)

      plan : rounded_length columns (value_lengths put) ≤ row_limit
      plan =
          let first = first_none (no_table (tables_here at) t) (row_exists (tables_here at) t (id_of put) ∷ big ∷ last) (rest_none judged made.refusals count_none.1) in
          let second = first_none (row_exists (tables_here at) t (id_of put)) (big ∷ last) first.1 in
          not_too_big columns (value_lengths put) (first_none big last second.1).0

  update_fits : (t : List ℕ) (i : ℤ) (changes : List Assign) → AllByRecursion (λ (a : Assign). IsLiteral a.value) changes → AllByRecursion (λ (a : Assign). HasLiteralRange a.value) changes → first_of (update_line t i changes at).refusals ≡ None → IsFitDatabase (call_granted st s (update_line t i changes)).database
  update_fits t i changes spelled range none = rows_fit (update_line t i changes at).granted refl fit.counter (tt, tt) (row, tt) (plan, tt)
    where
      columns : List Column
      columns = table_columns at t

      judged : List (Option Refusal)
      judged = changes_judged at.variables columns 1 changes

      put : List Value
      put = updated (tables_here at) t i (changes_here at t changes)

      made : tables.Row
      made = update_row t i (changes_here at t changes) (tables_here at)

      table_none : (no_table (tables_here at) t ≡ None) × (first_of (no_row (tables_here at) t i ∷ (judged ++ made.refusals)) ≡ None)
      table_none = first_none (no_table (tables_here at) t) (no_row (tables_here at) t i ∷ (judged ++ made.refusals)) none

      row_none : (no_row (tables_here at) t i ≡ None) × (first_of (judged ++ made.refusals) ≡ None)
      row_none = first_none (no_row (tables_here at) t i) (judged ++ made.refusals) table_none.1

      row : IsRow columns i put
      row =
          changed_row at.variables (well.held s) columns changes (front_none judged made.refusals row_none.1) spelled range (columns_can t table_none.0) i
          (values_in (found_row t i)) (found_is t i (row_there t i row_none.0))

      last : List (Option Refusal)
      last = busy (tables_here at) t i ∷ []

      big : Option Refusal
      big = row_too_big columns (value_lengths put)

      plan : rounded_length columns (value_lengths put) ≤ row_limit
      plan =
          let first = first_none (no_table (tables_here at) t) (no_row (tables_here at) t i ∷ big ∷ last) (rest_none judged made.refusals row_none.1) in
          let second = first_none (no_row (tables_here at) t i) (big ∷ last) first.1 in
          not_too_big columns (value_lengths put) (first_none big last second.1).0

  -- each request on tables

  create_table_fits : (name : List ℕ) (columns : List Column) → IsName name → IsTableColumns columns → first_of (create_table_row name columns (tables_here at)).refusals ≡ None → IsFitDatabase (call_granted st s (on_tables (create_table_row name columns))).database
  create_table_fits name columns named can none =
      called_fits (on_tables (create_table_row name columns) at).granted (all_tables ++ new ∷ []) refl fit.counter
      (created_more all_tables new fit.tables few fresh named can) (types_more all_tables (new ∷ [])) tt tt
      (plans_more (all_tables ++ new ∷ []) es [] (plans_with_more all_tables (new ∷ []) es fit.rows fit.plans) tt)
    where
      new : Table
      new = record { name = name; columns = columns }

      exists : Option Refusal
      exists = terms.when (is_some (table_in name all_tables)) TableExists (pos 0)

      many : Option Refusal
      many = terms.when (nat_le most_tables (length all_tables)) TooManyTables (pos most_tables)

      first : (exists ≡ None) × (first_of (many ∷ held_by_session at.other ∷ []) ≡ None)
      first = first_none exists (many ∷ held_by_session at.other ∷ []) none

      fresh : table_in name all_tables ≡ None
      fresh = none_there (table_in name all_tables) (unmet (is_some (table_in name all_tables)) TableExists (pos 0) first.0)

      few : length all_tables < most_tables
      few =
          let test : nat_le most_tables (length all_tables) ≡ false = unmet (nat_le most_tables (length all_tables)) TooManyTables (pos most_tables) (first_none many (held_by_session at.other ∷ []) first.1).0 in
          grind (arith, nat_tests, test)

  -- a rewrite, which stands outside a block

  outside : (t : List ℕ) (storages : List Column) → misplaced st s (Rewrite t storages) ≡ None → is_open (session_of st s).transaction ≡ false
  outside t storages none = by (is_open (session_of st s).transaction) none
    where
      by : (b : Bool) → option_map (λ cause. refusal cause (pos 0)) (misplaced_by (Rewrite t storages) b) ≡ None → b ≡ false
      by false free = refl
      by true free = absurd (no_refusal (refusal InBlock (pos 0)) free)

  module _ (t : List ℕ) (storages : List Column) (idle : levels ≡ []) (none : first_of (rewrite_row t storages (tables_here at)).refusals ≡ None) where
    abbrev columns_anew : List Column
    columns_anew = columns_rewritten t storages (tables_here at)

    abbrev ids : List ℤ
    ids = ids_in t (view_of at)

    abbrev put : ℤ → Deed
    put i = put_anew (now st) t columns_anew (row_values t (tables_here at) i)

    abbrev stored : List (Option Refusal)
    stored = storage_refusals 1 (table_columns at t) storages

    abbrev last : List (Option Refusal)
    last = some_too_big t columns_anew (tables_here at) ids ∷ busy_for (tables_here at) (RowsOf t) ∷ []

    table_none : (no_table (tables_here at) t ≡ None) × (first_of (stored ++ last) ≡ None)
    table_none = first_none (no_table (tables_here at) t) (stored ++ last) none

    big_none : (some_too_big t columns_anew (tables_here at) ids ≡ None) × (first_of (busy_for (tables_here at) (RowsOf t) ∷ []) ≡ None)
    big_none = first_none (some_too_big t columns_anew (tables_here at) ids) (busy_for (tables_here at) (RowsOf t) ∷ []) (rest_none stored last table_none.1)

    free : busy_with s (RowsOf t) es ≡ None
    free = held_none (busy_with s (RowsOf t) es) (first_none (busy_for (tables_here at) (RowsOf t)) [] big_none.1).0

    can : IsTableColumns columns_anew
    can = can_store (table_columns at t) storages (columns_can t table_none.0) (first_same stored ∙ front_none stored last table_none.1)

    listed : (i : ℤ) → has_row (view_of at) t i ≡ true → HasId i (row_values t (tables_here at) i)
    listed i there = (found_is t i there).id

    own_put : (i : ℤ) → has_row (view_of at) t i ≡ true → (k : ℤ) → i ≡ k → meets (RowOf t i) (touched (put k)) ≡ true
    own_put i there k same =
        let id : id_of (row_values t (tables_here at) k) ≡ i = subst (λ (j : ℤ). id_of (row_values t (tables_here at) j) ≡ i) same (id_is i (row_values t (tables_here at) i) (listed i there)) in
        subst (λ (j : ℤ). model.is_row t i t j ≡ true) (sym id) (is_row_itself t i)

    owner_settles : is_running owner ≡ false
    owner_settles = ap (λ (names : List (Option (List ℕ))). is_running (owner_in (now st) s names)) idle

    module _ (n : ℕ) (number : number_in t all_tables ≡ Some n) where
      abbrev new : List Table
      new = with_columns n columns_anew all_tables

      new_are : columns_among new t ≡ columns_anew
      new_are = new_columns t columns_anew n all_tables number

      row_anew : (i : ℤ) → has_row (view_of at) t i ≡ true → FitsTable new (put i)
      row_anew i there =
          let was : IsRow (table_columns at t) i (row_values t (tables_here at) i) = found_is t i there in
          let now_is : IsRow columns_anew i (row_values t (tables_here at) i) = row_with (table_columns at t) columns_anew i (row_values t (tables_here at) i) (kinds_kept storages (table_columns at t)) was in
          subst (λ (cs : List Column). IsRow cs (id_of (row_values t (tables_here at) i)) (row_values t (tables_here at) i)) (sym new_are)
          record { values = now_is.values; range = now_is.range; id = own_id i (row_values t (tables_here at) i) now_is.id }

      rows_anew : Each (FitsTable new) (map put ids)
      rows_anew = each_row (FitsTable new) (λ (i : ℤ). has_row (view_of at) t i ≡ true) put row_anew ids (filter_passes (has_row (view_of at) t) (in_order int_cmp (put_ids t (deeds (view_of at)))))

      plans_put : Each (HasPlan new) (map put ids)
      plans_put =
          each_put (λ (i : ℤ). rounded_length columns_anew (value_lengths (row_values t (tables_here at) i)) ≤ row_limit) (HasPlan new) put
          (λ i fits. subst (λ (cs : List Column). rounded_length cs (value_lengths (row_values t (tables_here at) i)) ≤ row_limit) (sym new_are) fits)
          ids (each_not_too_big columns_anew (row_values t (tables_here at)) ids big_none.0)

      no_objects : (xs : List ℤ) → FitObjects (map put xs)
      no_objects [] = tt
      no_objects (x ∷ xs) = (tt, no_objects xs)

      replaced : (i : ℤ) → is_some (model.row_in t i (view_of at)) ≡ true → is_replaced (RowOf t i) (edits_by (now st) owner (map put ids)) ≡ true
      replaced i there = puts_replace (now st) owner t put i owner_settles (own_put i there) ids (ids_are t (view_of at) i ∙ there)

      anew : IsFitDatabase (call_granted st s (on_tables (rewrite_row t storages))).database
      anew =
          called_fits (on_tables (rewrite_row t storages) at).granted new (ap (tables_rewritten t columns_anew all_tables) number) fit.counter
          (created_with n columns_anew all_tables can fit.tables)
          (types_with t columns_anew n all_tables number (kinds_kept storages (table_columns at t)))
          (no_objects ids) rows_anew
          (plans_anew (sees_edit (now st) (Whole s)) t all_tables new (λ u other. sym (old_columns t columns_anew n all_tables u other number)) (edits_by (now st) owner (map put ids)) es
          (settled (now st) (session_of st) s t idle es well.well.past free) replaced fit.plans
          (made_plans new (now st) owner (map put ids) plans_put))

    rewritten_fits : IsFitDatabase (call_granted st s (on_tables (rewrite_row t storages))).database
    rewritten_fits = by (number_in t all_tables) refl
      where
        by : (number : Option ℕ) → number_in t all_tables ≡ number → IsFitDatabase (call_granted st s (on_tables (rewrite_row t storages))).database
        by None is = absurd (false≢true (sym (ap is_some (no_table_in t all_tables is)) ∙ table_there t table_none.0))
        by (Some n) is = anew n is

  rewrite_fits : (t : List ℕ) (storages : List Column) → first_of (misplaced st s (Rewrite t storages) ∷ call_refusals st s (on_tables (rewrite_row t storages))) ≡ None → IsFitDatabase (call_granted st s (on_tables (rewrite_row t storages))).database
  rewrite_fits t storages none =
      rewritten_fits t storages (none_open levels (outside t storages (first_none (misplaced st s (Rewrite t storages)) (call_refusals st s (on_tables (rewrite_row t storages))) none).0))
      (unrefused (Rewrite t storages) (on_tables (rewrite_row t storages)) none)

  -- an act of a clean-up
  act_fits : (act : SweepAct) → IsFitDatabase (act_granted st s act).database
  act_fits (acts.Scan table column) = fit
  act_fits acts.Begin = begun_fits (is_open (session_of st s).transaction)
  act_fits (acts.Unlink o) = on_objects_fits (unlink_row o) (unlink_deeds (objects_here at) o) (record { deeds = (tt, tt); counter = fit.counter })
  act_fits acts.Commit = committed_in_fits (is_open (session_of st s).transaction) (session_of st s).transaction.failed
  act_fits acts.Rollback = rolled_back_fits (is_open (session_of st s).transaction)
  act_fits acts.Report = fit
  act_fits acts.Idle = fit

  all_fit : (r : Request) → IsSpelled r → HasKeptRanges r → first_of (refusals st s r) ≡ None → IsFitDatabase (granted st s r).database
  all_fit Begin spelled range none = begun_fits (is_open (session_of st s).transaction)
  all_fit Commit spelled range none = committed_in_fits (is_open (session_of st s).transaction) (session_of st s).transaction.failed
  all_fit Rollback spelled range none = rolled_back_fits (is_open (session_of st s).transaction)
  all_fit (Savepoint name) spelled range none = fit
  all_fit (Release name) spelled range none = owned_fits (Word words.Release) (session_of st s) (released_owner s (level_or_0 (level_named st s name))) (released_leaves s (level_or_0 (level_named st s name)))
  all_fit (RollbackTo name) spelled range none = undone_fits (Word words.Rollback) (session_of st s) (level_or_0 (level_named st s name))
  all_fit (LoCreat mode) spelled range none = on_objects_fits (create_row 0 []) (create_deeds (objects_here at) 0 []) (create_fits (objects_here at) fit.counter 0 [] (omega arith) (omega arith) (unrefused (LoCreat mode) (on_objects (create_row 0 [])) none))
  all_fit (LoCreate o) spelled range none = on_objects_fits (create_row o []) (create_deeds (objects_here at) o []) (create_fits (objects_here at) fit.counter o [] range (omega arith) (unrefused (LoCreate o) (on_objects (create_row o [])) none))
  all_fit (LoOpen o mode) spelled range none = on_objects_fits (open_row o mode) (open_deeds (objects_here at) o mode) (record { deeds = tt; counter = fit.counter })
  all_fit (LoClose fd) spelled range none = on_objects_fits (close_row fd) (close_deeds (objects_here at) fd) (record { deeds = tt; counter = fit.counter })
  all_fit (LoRead fd count) spelled range none = on_objects_fits (read_row fd count) (read_deeds (objects_here at) fd count) (read_fits (objects_here at) fit.counter fd count)
  all_fit (LoWrite fd bytes) spelled range none = on_objects_fits (write_row fd bytes) (write_deeds (objects_here at) fd bytes) (write_fits (objects_here at) fit.counter fd bytes (unrefused (LoWrite fd bytes) (on_objects (write_row fd bytes)) none))
  all_fit (LoLseek fd offset whence) spelled range none = on_objects_fits (seek_row false fd offset whence) (seek_deeds (objects_here at) false fd offset whence) (seek_fits (objects_here at) fit.counter false fd offset whence)
  all_fit (LoLseek64 fd offset whence) spelled range none = on_objects_fits (seek_row true fd offset whence) (seek_deeds (objects_here at) true fd offset whence) (seek_fits (objects_here at) fit.counter true fd offset whence)
  all_fit (LoTell fd) spelled range none = on_objects_fits (tell_row false fd) (tell_deeds (objects_here at) false fd) (tell_fits (objects_here at) fit.counter false fd)
  all_fit (LoTell64 fd) spelled range none = on_objects_fits (tell_row true fd) (tell_deeds (objects_here at) true fd) (tell_fits (objects_here at) fit.counter true fd)
  all_fit (LoTruncate fd size) spelled range none = on_objects_fits (truncate_row fd size) (truncate_deeds (objects_here at) fd size) (truncate_fits (objects_here at) fit.counter fd size (unrefused (LoTruncate fd size) (on_objects (truncate_row fd size)) none))
  all_fit (LoTruncate64 fd size) spelled range none = on_objects_fits (truncate_row fd size) (truncate_deeds (objects_here at) fd size) (truncate_fits (objects_here at) fit.counter fd size (unrefused (LoTruncate64 fd size) (on_objects (truncate_row fd size)) none))
  all_fit (LoUnlink o) spelled range none = on_objects_fits (unlink_row o) (unlink_deeds (objects_here at) o) (record { deeds = (tt, tt); counter = fit.counter })
  all_fit (LoGet o from count) spelled range none = on_objects_fits (get_row o from count) (get_deeds (objects_here at) o from count) (record { deeds = tt; counter = fit.counter })
  all_fit (LoPut o offset bytes) spelled range none = on_objects_fits (put_row o offset bytes) (put_deeds (objects_here at) o offset bytes) (put_fits (objects_here at) fit.counter o offset bytes (unrefused (LoPut o offset bytes) (on_objects (put_row o offset bytes)) none))
  all_fit (LoFromBytea o bytes) spelled range none = on_objects_fits (create_row o bytes) (create_deeds (objects_here at) o bytes) (create_fits (objects_here at) fit.counter o bytes range spelled (unrefused (LoFromBytea o bytes) (on_objects (create_row o bytes)) none))
  all_fit (CreateTable name columns) spelled range none = create_table_fits name columns spelled.0 spelled.1 (unrefused (CreateTable name columns) (on_tables (create_table_row name columns)) none)
  all_fit (Insert t literals) spelled range none = insert_fits t literals spelled.2 range (unrefused (Insert t literals) (insert_line t literals) none)
  all_fit (Update t i changes) spelled range none = update_fits t i changes (literals_of changes spelled.1.1) range (unrefused (Update t i changes) (update_line t i changes) none)
  all_fit (Delete t i) spelled range none = rows_fit (on_tables (delete_row t i) at).granted refl fit.counter (tt, tt) (tt, tt) (tt, tt)
  all_fit (Get t i) spelled range none = reads_fit (get_line t i at).granted refl refl refl
  all_fit (Ids t) spelled range none = reads_fit (on_tables (ids_row t) at).granted refl refl refl
  all_fit (Slice t i column from count) spelled range none = reads_fit (on_tables (slice_row t i column from count) at).granted refl refl refl
  all_fit (Declare name t i) spelled range none = reads_fit (declare_line name t i at).granted refl refl refl
  all_fit (Fetch name column from count) spelled range none = reads_fit (on_tables (cursors.fetch_row name column from count) at).granted refl refl refl
  all_fit (Close name) spelled range none = reads_fit (on_tables (cursors.close_row name) at).granted refl refl refl
  all_fit (Rewrite t storages) spelled range none = rewrite_fits t storages none
  all_fit (Array name text) spelled range none = reads_fit (array_line name text at).granted refl refl refl
  all_fit (Load name t i column) spelled range none = reads_fit (load_line name t i column at).granted refl refl refl
  all_fit (Set name sub value) spelled range none = reads_fit (set_line name sub value at).granted refl refl refl
  all_fit (Elem name sub) spelled range none = reads_fit (elem_line name sub at).granted refl refl refl
  all_fit (Show name) spelled range none = reads_fit (show_line name at).granted refl refl refl
  all_fit Vacuum spelled range none = fit
  all_fit (Vacuumlo dry limit) spelled range none = fit
  all_fit Step spelled range none = act_fits (act_of st s)
  all_fit Finish spelled range none = act_fits (act_of st s)

  -- granted or refused
  outcome_fits : (r : Request) → IsSpelled r → HasKeptRanges r → IsFitDatabase (granted_or_refused st s r (refusal_of st s r)).database
  outcome_fits r spelled range = by (refusal_of st s r) refl
    where
      by : (term : Option Refusal) → refusal_of st s r ≡ term → IsFitDatabase (granted_or_refused st s r term).database
      by None is = all_fit r spelled range (first_none (failed st s r) (refusals st s r) is).1
      by (Some term) is = refused_fits term

pub fit_after : (st : State) (s : ℕ) (r : Request) → IsSpelled r → HasKeptRanges r → IsWell st → IsFit st → IsFit (state_after st s r)
fit_after st s r spelled range well fit =
    let done : Outcome = granted_or_refused st s r (refusal_of st s r) in
    subst IsFitDatabase (sym (request_same st s r (is_some (refusal_of st s r)) done).database) (outcome_fits st s well fit r spelled range)
