-- The rows of insert and update match those of their calls, where the literals were judged and nothing refused them; and what
-- refuses a request before it comes to its call.
use Rattle.std.proofs.Common.{◌≡◌, ◌≤◌, ℕ, ℤ, pos, ◌+◌, ◌-◌, true, false, List, [], ◌∷◌, ◌++◌, Option, Some, None, refl, ap, sym, subst, ◌∙◌, arith}
use Rattle.std.specs.Prelude.{is_some, is_none, option_map, slice_get, slice_index_or, Err}
use Rattle.std.proofs.lemmas.Bool.{false≢true}
use Rattle.std.proofs.lemmas.Option.{same_Some, slice_get_read}
use Rattle.lo_base.specs.declared.column.Column.{Column}
use Rattle.lo_base.specs.declared.refusal.Cause.TheVariants.{NoTable}
use Rattle.lo_base.specs.declared.refusal.Denied.{Denied}
use Rattle.lo_base.specs.declared.refusal.Denied.TheVariants.{By, NoMemory}
use Rattle.lo_base.specs.declared.refusal.Refusal.{Refusal}
use Rattle.lo_base.specs.declared.request.Assign.{Assign}
use Rattle.lo_base.specs.declared.value.Literal.{Literal}
use Rattle.lo_base.specs.declared.value.Value.{Value}
use Rattle.lo_model.specs.Database.{Table}
use Rattle.lo_model.specs.Edit.{Deed, Edit}
use Rattle.lo_model.specs.Session.{Session}
use Rattle.lo_pages.specs.Outcome as pages
use Rattle.lo_pages.proofs.Steps.{left_none}
use Rattle.row_tables.specs.Catalog.{columns_in, columns_of, table_in}
use Rattle.row_tables.specs.RowRules.{columns_here, get_row, insert_row, update_row, updated}
use Rattle.row_tables.specs.Row as tables
use Rattle.row_tables.specs.Standing.{tables_in}
use Rattle.row_tables.specs.Terms.{busy, first_of, no_row, no_table, refusal, row_exists, row_too_big}
use Rattle.row_tables.specs.Values.{id_of}
use Rattle.row_tables.specs.declared.change.Change.{Change}
use Rattle.row_tables.proofs.StoringRows.{leaves_none}
use Rattle.row_tables.specs.World as calls
use Rattle.row_tables.specs.World.{world}
use Rattle.toast_plan.specs.Row.{value_lengths}
use Rattle.xact_core.specs.Kept.{current}
use Rattle.lo_base.specs.declared.reply.Reply.{Reply}
use Rattle.lo_machine.specs.Server.{xacts_of}
use Rattle.lo_machine.specs.declared.server.Server.{Server}
use Rattle.lo_machine.specs.declared.variables.Variables.{Variables}
use Rattle.lo_machine.specs.CallRows.{Shared}
use Rattle.lo_machine.specs.Dispatch.{CanCall, Finds, ReadsCall, here_in}
use Rattle.lo_machine.specs.Literals.{AreChangesOf, AreValuesOf, DeniesChanges, DeniesValues}
use Rattle.lo_machine.specs.Row.{Here, Row, on_tables, tables_here}
use Rattle.lo_machine.specs.State.{Variable}
use Rattle.lo_machine.specs.TableRows.{changes_here, changes_judged, changes_of, insert_line, inserted, table_columns, update_line, wrong_count}
use Rattle.lo_machine.specs.Values.{all_judged, values_of}
use Rattle.lo_machine.specs.Variables.{IsAs}
use Rattle.lo_machine.proofs.TableCalls.{Carries, IsMatch, carries_same, first_same, high_of, later_here, low_of, reads_later, stays_as, table_sound, with_tables}
use Rattle.lo_machine.proofs.TablesAlike.{held_none, last_none, one_put}

-- The server is as it was: a term refused the request, or there was no memory.

abbrev pub RefusedBy : (s : ℕ) → Server → (Here → Row) → Refusal → Type 0
RefusedBy s old row r = (ys : List (Edit Deed)) (shared : Shared) (sessions : ℕ → Session) (variables : ℕ → List Variable) → Finds s old ys shared sessions variables → pages.first_of (row (here_in s old ys shared sessions variables)).refusals ≡ Some r

module _ (s : ℕ) (old : Server) (can : CanCall s old) (row : Here → Row) where
  abbrev same : Server
  same = with_tables old old.core old.tables

  pub refused_by : (r : Refusal) → RefusedBy s old row r → ReadsCall s row old same (Err (By r))
  refused_by r first = record {
    answers = record {
      sound = table_sound s (low_of s old can) (high_of s old can) old can old.core old.tables carried;
      xacts = carried.others;
      views = omega arith;
      ok = tt;
      err = record { first = first; stays = stays_as s (low_of s old can) (high_of s old can) old can old.core old.tables refl refl };
    };
    stays = stays_as s (low_of s old can) (high_of s old can) old can old.core old.tables refl refl;
  }
    where
      carried : Carries (world old.core.xacts old.tables s) (world old.core.xacts old.tables s)
      carried = carries_same s (low_of s old can) (high_of s old can) old can old.core old.tables refl refl refl

  pub no_memory : ReadsCall s row old same (Err NoMemory)
  no_memory = record {
    answers = record {
      sound = table_sound s (low_of s old can) (high_of s old can) old can old.core old.tables carried;
      xacts = carried.others;
      views = omega arith;
      ok = tt;
      err = record {
        pages = left_none old.core.xacts s old.store.pages;
        tables = leaves_none old.core.xacts s old.tables;
        go = can.rows.stores;
        counter = refl;
        sessions = λ sessions had. had;
        variables = λ variables had. had;
        xacts = refl;
      };
    };
    stays = stays_as s (low_of s old can) (high_of s old can) old can old.core old.tables refl refl;
  }
    where
      carried : Carries (world old.core.xacts old.tables s) (world old.core.xacts old.tables s)
      carried = carries_same s (low_of s old can) (high_of s old can) old can old.core old.tables refl refl refl

  pub denied_by : (denied : Denied) → ((r : Refusal) → denied ≡ By r → RefusedBy s old row r) → ReadsCall s row old same (Err denied)
  denied_by (By r) first = refused_by r (first r refl)
  denied_by NoMemory first = no_memory

-- the first of terms of which some are judged before others

pub past_judged : (judged more : List (Option Refusal)) → pages.first_of judged ≡ None → pages.first_of (judged ++ more) ≡ pages.first_of more
past_judged [] more is = refl
past_judged (None ∷ judged) more is = past_judged judged more is
past_judged (Some r ∷ judged) more is = absurd (false≢true (sym (ap is_some is)))

pub insert_judged : (a w : Option Refusal) (judged more : List (Option Refusal)) → w ≡ None → pages.first_of judged ≡ None → pages.first_of (a ∷ w ∷ (judged ++ a ∷ more)) ≡ pages.first_of (a ∷ more)
insert_judged (Some r) w judged more counted is = refl
insert_judged None w judged more counted is = rw counted (past_judged judged (None ∷ more) is)

pub update_judged : (a b : Option Refusal) (judged more : List (Option Refusal)) → pages.first_of judged ≡ None → pages.first_of (a ∷ b ∷ (judged ++ a ∷ b ∷ more)) ≡ pages.first_of (a ∷ b ∷ more)
update_judged (Some r) b judged more is = refl
update_judged None (Some r) judged more is = refl
update_judged None None judged more is = past_judged judged (None ∷ None ∷ more) is

pub first_judged : (judged more : List (Option Refusal)) (r : Refusal) → pages.first_of judged ≡ Some r → pages.first_of (judged ++ more) ≡ Some r
first_judged [] more r is = absurd (false≢true (ap is_some is))
first_judged (None ∷ judged) more r is = first_judged judged more r is
first_judged (Some q ∷ judged) more r is = is

-- the variables of a session, at their place

pub record TakesOwn (s place : ℕ) (e : Server) (own : Variables) : Type 0 where
  pub place' : place + 1 ≡ s
  pub within : place + 1 ≤ 16
  pub taken : own ≡ slice_index_or e.variables.items place own

pub own_as : (s place : ℕ) (e : Server) (own : Variables) → CanCall s e → TakesOwn s place e own → (ys : List (Edit Deed)) (shared : Shared) (sessions : ℕ → Session) (variables : ℕ → List Variable) → Finds s e ys shared sessions variables → IsAs own (variables s)
own_as s place e own can takes ys shared sessions variables finds =
    let at : place ≡ s - 1 = omega (arith, takes.place') in
    let there : slice_get e.variables.items (s - 1) ≡ Some own = subst (λ (n : ℕ). slice_get e.variables.items n ≡ Some own) at (slice_get_read e.variables.items 16 place own (sym can.sound.sixteen_lists) (omega (arith, takes.within)) takes.taken) in
    finds.arrays.each s own (low_of s e can) (high_of s e can) there

-- a table that is not there

is_unknown : (o : Option Table) → None ≡ option_map columns_of o → is_none o ≡ true
is_unknown None is = refl
is_unknown (Some table) is = absurd (false≢true (ap is_some is))

module _ (s : ℕ) (old : Server) (t : List ℕ) (found : Option (List Column)) (is : found ≡ option_map columns_of (table_in t (tables_in old.tables))) (none : found ≡ None) where
  pub unknown_table : (ys : List (Edit Deed)) (shared : Shared) (sessions : ℕ → Session) (variables : ℕ → List Variable) → Finds s old ys shared sessions variables → no_table (tables_here (here_in s old ys shared sessions variables)) t ≡ Some (refusal NoTable (pos 0))
  unknown_table ys shared sessions variables finds =
      let unknown : is_none (table_in t (tables_in old.tables)) ≡ true = is_unknown (table_in t (tables_in old.tables)) (sym none ∙ is) in
      let here : is_none (table_in t shared.tables) ≡ true = subst (λ (all : List Table). is_none (table_in t all) ≡ true) finds.has.tables unknown in
      rw here refl

  pub insert_unknown : (literals : List Literal) → RefusedBy s old (insert_line t literals) (refusal NoTable (pos 0))
  insert_unknown literals ys shared sessions variables finds = rw (unknown_table ys shared sessions variables finds) refl

  pub update_unknown : (i : ℤ) (changes : List Assign) → RefusedBy s old (update_line t i changes) (refusal NoTable (pos 0))
  update_unknown i changes ys shared sessions variables finds = rw (unknown_table ys shared sessions variables finds) refl

module _ (s place : ℕ) (old : Server) (can : CanCall s old) (own : Variables) (takes : TakesOwn s place old own) (t : List ℕ) (found : Option (List Column)) (is : found ≡ option_map columns_of (table_in t (tables_in old.tables))) where
  known : (o : Option Table) (columns : List Column) → Some columns ≡ option_map columns_of o → columns_in o ≡ columns
  known None columns is = absurd (false≢true (sym (ap is_some is)))
  known (Some table) columns is = sym (same_Some columns table.columns is)

  known_there : (o : Option Table) (columns : List Column) → Some columns ≡ option_map columns_of o → is_none o ≡ false
  known_there None columns is = absurd (false≢true (sym (ap is_some is)))
  known_there (Some table) columns is = refl

  module _ (ys : List (Edit Deed)) (shared : Shared) (sessions : ℕ → Session) (variables : ℕ → List Variable) (finds : Finds s old ys shared sessions variables) where
    abbrev inner : Here
    inner = here_in s old ys shared sessions variables

    module _ (columns : List Column) (some : found ≡ Some columns) where
      pub there : no_table (tables_here inner) t ≡ None
      there =
          let known : is_none (table_in t (tables_in old.tables)) ≡ false = known_there (table_in t (tables_in old.tables)) columns (sym some ∙ is) in
          let here : is_none (table_in t shared.tables) ≡ false = subst (λ (all : List Table). is_none (table_in t all) ≡ false) finds.has.tables known in
          rw here refl

      pub columns_same : table_columns inner t ≡ columns
      columns_same = subst (λ (all : List Table). columns_in (table_in t all) ≡ columns) finds.has.tables (known (table_in t (tables_in old.tables)) columns (sym some ∙ is))

      is_as : IsAs own (variables s)
      is_as = own_as s place old own can takes ys shared sessions variables finds

      -- insert

      module _ (literals : List Literal) where
        line_match : wrong_count (table_columns inner t) literals ≡ None → pages.first_of (all_judged (variables s) 1 (table_columns inner t) literals) ≡ None → IsMatch inner (insert_line t literals inner) (insert_row t (inserted inner t literals) (later_here inner))
        line_match counted judged = record {
          refusals = insert_judged (no_table (tables_here inner) t) (wrong_count (table_columns inner t) literals) (all_judged (variables s) 1 (table_columns inner t) literals) (row_exists (tables_here inner) t (id_of (inserted inner t literals)) ∷ row_too_big (columns_here (tables_here inner) t) (value_lengths (inserted inner t literals)) ∷ busy (tables_here inner) t (id_of (inserted inner t literals)) ∷ []) counted judged
              ∙ sym (first_same (insert_row t (inserted inner t literals) (later_here inner)).refusals);
          reply = refl;
          deeds = refl;
          tables = refl;
          cursors = refl;
          leveled = λ level own. own;
          descriptors = refl;
          variables = refl;
          counter = refl;
          pages = λ x store maker none stands. one_put inner t (id_of (inserted inner t literals)) _ _ (held_none _ (last_none (no_table (later_here inner) t ∷ row_exists (later_here inner) t (id_of (inserted inner t literals)) ∷ row_too_big (columns_here (later_here inner) t) (value_lengths (inserted inner t literals)) ∷ []) (busy (later_here inner) t (id_of (inserted inner t literals))) none)) x store maker stands;
        }

        pub insert_match : (values : List Value) → AreValuesOf own columns literals values → IsMatch inner (insert_line t literals inner) (insert_row t values (later_here inner))
        insert_match values are =
            let same : values ≡ inserted inner t literals = are.is (variables s) is_as ∙ sym (ap (λ (cs : List Column). values_of (variables s) cs literals) columns_same) in
            subst (λ (row : List Value). IsMatch inner (insert_line t literals inner) (insert_row t row (later_here inner))) (sym same)
            (line_match
            (subst (λ (cs : List Column). wrong_count cs literals ≡ None) (sym columns_same) are.counted)
            (subst (λ (cs : List Column). pages.first_of (all_judged (variables s) 1 cs literals) ≡ None) (sym columns_same) (are.unrefused (variables s) is_as)))

        pub insert_refused : (r : Refusal) → DeniesValues own columns literals (By r) → pages.first_of (insert_line t literals inner).refusals ≡ Some r
        insert_refused r denies =
            let judged : pages.first_of (wrong_count (table_columns inner t) literals ∷ all_judged (variables s) 1 (table_columns inner t) literals) ≡ Some r = subst (λ (cs : List Column). pages.first_of (wrong_count cs literals ∷ all_judged (variables s) 1 cs literals) ≡ Some r) (sym columns_same) (denies (variables s) is_as) in
            let first = first_judged (wrong_count (table_columns inner t) literals ∷ all_judged (variables s) 1 (table_columns inner t) literals) (on_tables (insert_row t (inserted inner t literals)) inner).refusals r judged in
            subst (λ (a : Option Refusal). pages.first_of (a ∷ wrong_count (table_columns inner t) literals ∷ (all_judged (variables s) 1 (table_columns inner t) literals ++ (on_tables (insert_row t (inserted inner t literals)) inner).refusals)) ≡ Some r) (sym there) first

      -- update

      module _ (i : ℤ) (changes : List Assign) where
        change_match : pages.first_of (changes_judged (variables s) (table_columns inner t) 1 changes) ≡ None → IsMatch inner (update_line t i changes inner) (update_row t i (changes_here inner t changes) (later_here inner))
        change_match judged = record {
          refusals = update_judged (no_table (tables_here inner) t) (no_row (tables_here inner) t i) (changes_judged (variables s) (table_columns inner t) 1 changes) (row_too_big (columns_here (tables_here inner) t) (value_lengths (updated (tables_here inner) t i (changes_here inner t changes))) ∷ busy (tables_here inner) t i ∷ []) judged
              ∙ sym (first_same (update_row t i (changes_here inner t changes) (later_here inner)).refusals);
          reply = refl;
          deeds = refl;
          tables = refl;
          cursors = refl;
          leveled = λ level own. own;
          descriptors = refl;
          variables = refl;
          counter = refl;
          pages = λ x store maker none stands. one_put inner t i _ _ (held_none _ (last_none (no_table (later_here inner) t ∷ no_row (later_here inner) t i ∷ row_too_big (columns_here (later_here inner) t) (value_lengths (updated (later_here inner) t i (changes_here inner t changes))) ∷ []) (busy (later_here inner) t i) none)) x store maker stands;
        }

        pub update_match : (given : List Change) → AreChangesOf own columns changes given → IsMatch inner (update_line t i changes inner) (update_row t i given (later_here inner))
        update_match given are =
            let same : given ≡ changes_here inner t changes = are.is (variables s) is_as ∙ sym (ap (λ (cs : List Column). changes_of (variables s) cs changes) columns_same) in
            subst (λ (given : List Change). IsMatch inner (update_line t i changes inner) (update_row t i given (later_here inner))) (sym same)
            (change_match (subst (λ (cs : List Column). pages.first_of (changes_judged (variables s) cs 1 changes) ≡ None) (sym columns_same) (are.unrefused (variables s) is_as)))

        pub update_missing : (r : Refusal) → calls.RefusesIn (get_row t i) (world (xacts_of old) old.tables s) (current (xacts_of old) s) (By r) → pages.first_of (update_line t i changes inner).refusals ≡ Some r
        update_missing r refuses =
            let later : first_of (get_row t i (later_here inner)).refusals ≡ Some r = subst (λ (h : tables.Here). first_of (get_row t i h).refusals ≡ Some r) (reads_later s old ys shared sessions variables (low_of s old can) (high_of s old can) finds) (refuses ys finds.has.rows) in
            first_judged (no_table (tables_here inner) t ∷ no_row (tables_here inner) t i ∷ []) (changes_judged (variables s) (table_columns inner t) 1 changes ++ (on_tables (update_row t i (changes_here inner t changes)) inner).refusals) r (sym (first_same (get_row t i (later_here inner)).refusals) ∙ later)

        pub update_refused : (reply : Reply) → calls.Tells (get_row t i) (world (xacts_of old) old.tables s) (current (xacts_of old) s) reply → (r : Refusal) → DeniesChanges own columns changes (By r) → pages.first_of (update_line t i changes inner).refusals ≡ Some r
        update_refused reply tells r denies =
            let later : first_of (get_row t i (later_here inner)).refusals ≡ None = subst (λ (h : tables.Here). first_of (get_row t i h).refusals ≡ None) (reads_later s old ys shared sessions variables (low_of s old can) (high_of s old can) finds) (tells.unrefused ys finds.has.rows) in
            let row : no_row (tables_here inner) t i ≡ None = last_none (no_table (later_here inner) t ∷ []) (no_row (later_here inner) t i) later in
            let judged : pages.first_of (changes_judged (variables s) (table_columns inner t) 1 changes) ≡ Some r = subst (λ (cs : List Column). pages.first_of (changes_judged (variables s) cs 1 changes) ≡ Some r) (sym columns_same) (denies (variables s) is_as) in
            let first = first_judged (changes_judged (variables s) (table_columns inner t) 1 changes) (on_tables (update_row t i (changes_here inner t changes)) inner).refusals r judged in
            subst (λ (a : Option Refusal). pages.first_of (a ∷ no_row (tables_here inner) t i ∷ (changes_judged (variables s) (table_columns inner t) 1 changes ++ (on_tables (update_row t i (changes_here inner t changes)) inner).refusals)) ≡ Some r) (sym there)
            (subst (λ (a : Option Refusal). pages.first_of (None ∷ a ∷ (changes_judged (variables s) (table_columns inner t) 1 changes ++ (on_tables (update_row t i (changes_here inner t changes)) inner).refusals)) ≡ Some r) (sym row) first)

-- what the calls ask of values and changes

module _ (t : List ℕ) (tables' : List Table) (found : Option (List Column)) (is : found ≡ option_map columns_of (table_in t tables')) (columns : List Column) (some : found ≡ Some columns) where
  pub columns_are : (table : Table) → table_in t tables' ≡ Some table → table.columns ≡ columns
  columns_are table there = sym (same_Some columns table.columns (sym some ∙ (is ∙ ap (option_map columns_of) there)))
