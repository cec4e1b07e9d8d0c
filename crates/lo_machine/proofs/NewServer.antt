-- A server that was made of an opening stands for the state in which runs from that opening start.
use Rattle.std.proofs.Common.{◌≡◌, ◌≢◌, ◌≤◌, ◌==◌, ℕ, zero, suc, ◌+◌, ◌-◌, Bool, true, false, List, [], ◌∷◌, ◌++◌, length, map, Option, Some, None, inl, inr, refl, ap, sym, subst, ◌∙◌, arith, length-append}
use Rattle.std.specs.Prelude.{All, flat_map, if◌then◌else◌, replicate, slice_get, slice_index_or}
use Rattle.std.proofs.lemmas.Bool.Decides.{nat_tests}
use Rattle.std.proofs.lemmas.List.Elements.{All-nil}
use Rattle.std.proofs.lemmas.List.Sorted.{IsPermutation-refl}
use Rattle.std.proofs.lemmas.Option.{none-some}
use Rattle.lo_calls.specs.declared.session.LoSession.{LoSession}
use Rattle.lo_calls.specs.World.{counter_end}
use Rattle.lo_base.specs.declared.value.Value.{Value}
use Rattle.lo_model.specs.declared.owner.Owner.TheVariants.{Committed, Running}
use Rattle.lo_model.specs.Database.{Table}
use Rattle.lo_model.specs.Edit.{Deed, Edit, edits_by}
use Rattle.lo_model.specs.Levels.{committed}
use Rattle.lo_model.specs.Opening.{Opening, TableRows, object_deeds, table_deeds}
use Rattle.lo_model.specs.Session.{idle_session, session_begun}
use Rattle.lo_pages.specs.Standing.{GoWith, StandFor}
use Rattle.lo_pages.proofs.Standing.{stand_ticked}
use Rattle.lo_opening.specs.declared.opening.TableData.{TableData}
use Rattle.lo_opening.specs.Meaning.{opening_of, table_of}
use Rattle.lo_opening.specs.Opening.{OpeningData}
use Rattle.lo_restore.specs.Objects.{now_by}
use Rattle.lo_restore.specs.Tables.{deeds_in, named_of}
use Rattle.lo_restore.specs.TablesRestored.{HaveDone}
use Rattle.lo_restore.proofs.TableDeeds.{edits_both}
use Rattle.row_tables.specs.declared.cursors.Cursor.{Cursor}
use Rattle.row_tables.specs.declared.tables.Tables.{Tables}
use Rattle.row_tables.specs.Cursors.{HoldsOwn, holds_in, own_cursors}
use Rattle.row_tables.specs.Standing as tables
use Rattle.row_tables.proofs.Resting.{for_ticked}
use Rattle.row_versions.proofs.Benching.{whole_none}
use Rattle.xact_core.proofs.ListPlaces.{append_cases}
use Rattle.xact_core.specs.Ends.{Opens}
use Rattle.xact_core.specs.Transactions.{Transactions, beginning, levels_of}
use Rattle.lo_machine.specs.declared.server.Server.{Server}
use Rattle.lo_machine.specs.CallRows.{shared_of}
use Rattle.lo_machine.specs.Server.{xacts_of, clock_of, names_in, holds_at, all_holds, Becomes, Has, HasSession, IsLeveled, IsNamed, IsPlaced, IsServer, StandsFor}
use Rattle.lo_machine.specs.Fitting.{IsFitOpening}
use Rattle.lo_machine.specs.Later.{with_session_at}
use Rattle.lo_machine.specs.Loading.{ArePuts, IsLoaded, StandBehindRows, deeds_of, loading_session, loading_sessions, open_edits}
use Rattle.lo_machine.specs.NewServer.{IsNew, AreNew, AreNone}
use Rattle.lo_machine.specs.Run.{database_of, start, start_from}
use Rattle.lo_machine.specs.Values.{plan_of}
use Rattle.lo_machine.specs.Well.{IsFirst, IsWell}
use Rattle.lo_machine.proofs.FitOpenings.{fit_opened}
use Rattle.lo_machine.proofs.ObjectDeeds.{rows_rest}
use Rattle.lo_machine.proofs.OpeningsWell.{objects_are, well_opened}
use Rattle.lo_machine.proofs.Steps.{later_at, levels_later, with_xacts}

-- The empty database is that of an opening too.
pub well_start : IsWell start.state
well_start =
    well_opened (record { blocks = 1; counter = 16384; tables = []; objects = [] })
    (record { counter = record { least = omega arith; most = omega arith }; few = omega arith; distinct = tt; tables = tt; objects = tt })

-- sessions without descriptors hold no view
none_held : (sessions : List LoSession) → ((place : ℕ) (session : LoSession) → slice_get sessions place ≡ Some session → holds_at session ≡ []) → all_holds sessions ≡ []
none_held [] none = refl
none_held (session ∷ sessions) none = rw (none 0 session refl) (none_held sessions (λ place. none (suc place)))

all_alike : {A : Type 0} (count i : ℕ) (x : A) → slice_index_or (replicate count x) i x ≡ x
all_alike zero i x = refl
all_alike (suc count) zero x = refl
all_alike (suc count) (suc i) x = all_alike count i x

no_levels : (s : ℕ) → levels_of beginning s ≡ []
no_levels zero = refl
no_levels (suc i) = all_alike 16 i []

-- the sessions below one of a number
pub record AreNewBelow (number : ℕ) (sessions : List LoSession) : Type 0 where
  pub count : length sessions + 1 ≡ number
  pub each : (place : ℕ) (session : LoSession) → slice_get sessions place ≡ Some session → IsNew place session

pub none_below : AreNewBelow 1 []
none_below = record { count = refl; each = λ place session is. absurd (none-some session is) }

pub one_more : (number : ℕ) (sessions : List LoSession) (session : LoSession) → AreNewBelow number sessions → IsNew (number - 1) session → AreNewBelow (number + 1) (sessions ++ session ∷ [])
one_more number sessions session below new = record {
  count = omega (arith, below.count, length-append sessions (session ∷ []));
  each = λ place found is. elim (append_cases sessions session found place is) [
    | inl before ↦ below.each place found before
    | inr here ↦
        let last : number - 1 ≡ place = omega (arith, below.count, here.0) in
        subst (IsNew place) (sym here.1) (subst (λ (n : ℕ). IsNew n session) last new)
  ];
}

pub all_sixteen : (sessions : List LoSession) → AreNewBelow 17 sessions → AreNew sessions
all_sixteen sessions below = record { sixteen = omega (arith, below.count); each = below.each }

-- cursors that hold no view are none
pub none_open : (entries : List Cursor) → holds_in entries ≡ [] → entries ≡ []
none_open [] none = refl
none_open (c ∷ entries) none = absurd (omega (arith, ap length none))

abbrev pub as_table : TableRows → Table
as_table t = record { name = t.name; columns = t.columns }

-- what a server is made of before the commit
pub record IsMadeOf (o : Opening) (s : ℕ) (e : Server) : Type 0 where
  pub fit : IsFitOpening o
  pub begun : Opens s None beginning (xacts_of e)
  pub goes : GoWith (xacts_of e) e.store.pages
  pub pages : StandBehindRows (xacts_of e) s (flat_map object_deeds o.objects) e.store.pages
  pub counter : e.store.counter ≡ o.counter
  pub most : o.counter ≤ counter_end
  pub undos : e.undos ≡ 0
  pub failed : e.failed.items ≡ replicate 16 false
  pub sessions : AreNew e.sessions.items
  pub rows : HaveDone (xacts_of e) s e.tables (map as_table o.tables) (flat_map (table_deeds plan_of) o.tables)
  pub variables : AreNone e.variables.items

-- the deeds of tables are puts

puts_more : (ds es : List Deed) → ArePuts ds → ArePuts es → ArePuts (ds ++ es)
puts_more [] es first second = second
puts_more (d ∷ ds) es first second = (first.0, puts_more ds es first.1 second)

table_puts : (t : TableRows) → ArePuts (table_deeds plan_of t)
table_puts t = each t.rows
  where
    each : (rows : List (List Value)) → ArePuts (table_deeds plan_of (record { name = t.name; columns = t.columns; rows = rows }))
    each [] = tt
    each (row ∷ rows) = (refl, each rows)

all_puts : (ts : List TableRows) → ArePuts (flat_map (table_deeds plan_of) ts)
all_puts [] = tt
all_puts (t ∷ ts) = puts_more (table_deeds plan_of t) (flat_map (table_deeds plan_of) ts) (table_puts t) (all_puts ts)

module _ (o : Opening) (e : Server) (made : IsMadeOf o loading_session e) where
  abbrev x : Transactions
  x = xacts_of e

  abbrev row_deeds : List Deed
  row_deeds = flat_map (table_deeds plan_of) o.tables

  abbrev all_object_deeds : List Deed
  all_object_deeds = flat_map object_deeds o.objects

  own_names : names_in e loading_session ≡ None ∷ []
  own_names = made.begun.levels.own

  other_names : (s : ℕ) → s ≢ loading_session → names_in e s ≡ []
  other_names s other = made.begun.levels.others s other ∙ no_levels s

  done_now : (ds : List Deed) → now_by x loading_session ds ≡ open_edits ds
  done_now ds =
      ap (λ (clock : ℕ). edits_by clock (Running loading_session (length (names_in e loading_session))) ds) made.begun.clock
      ∙ ap (λ (names : List (Option (List ℕ))). edits_by 0 (Running loading_session (length names)) ds) own_names

  none_open_yet : (tables.cursors_in e.tables).entries.items ≡ []
  none_open_yet = none_open (tables.cursors_in e.tables).entries.items made.rows.cursors

  placed_new : (place : ℕ) (session : LoSession) → IsNew place session → IsPlaced place session
  placed_new place session new =
      let open' = new.stay beginning (place + 1) in
      record { number = new.number; most = open'.most; positions = open'.positions; holds = open'.holds }

  first_name : (s : ℕ) → IsFirst (names_in e s)
  first_name s = by (s == loading_session) refl
    where
      by : (b : Bool) → (s == loading_session) ≡ b → IsFirst (names_in e s)
      by true is = let same : s ≡ loading_session = grind (arith, nat_tests, is) in subst (λ (t : ℕ). IsFirst (names_in e t)) (sym same) (subst IsFirst (sym own_names) refl)
      by false is = let other : s ≢ loading_session = λ same. grind (arith, nat_tests, is, same) in subst IsFirst (sym (other_names s other)) tt

  made_sound : IsServer e
  made_sound = record {
    goes = made.goes;
    whole = whole_none x made.begun.held;
    counter = omega (arith, made.counter, made.most);
    undos = made.undos ∙ sym made.begun.undos;
    flags = ap length made.failed;
    sixteen = made.sessions.sixteen;
    sixteen_lists = made.variables.sixteen;
    sixteen_levels = ap length made.begun.levels.levels;
    placed = λ place session is. placed_new place session (made.sessions.each place session is);
    held = rw (made.begun.held, none_held e.sessions.items (λ place session is. (made.sessions.each place session is).holds), none_open_yet) (IsPermutation-refl []);
    own = subst (All HoldsOwn) (sym none_open_yet) (All-nil HoldsOwn);
    numbered = λ s beyond. ap (λ (entries : List Cursor). own_cursors s entries) none_open_yet;
    named = λ s. subst (λ (entries : List Cursor). All (IsNamed (tables.tables_in e.tables)) (own_cursors s entries)) (sym none_open_yet) (All-nil (IsNamed (tables.tables_in e.tables)));
    first = first_name;
  }

  unfailed : (s : ℕ) → slice_index_or e.failed.items (s - 1) false ≡ false
  unfailed s = ap (λ (flags : List Bool). slice_index_or flags (s - 1) false) made.failed ∙ all_alike 16 (s - 1) false

  no_cursors : (s : ℕ) → own_cursors s (tables.cursors_in e.tables).entries.items ≡ []
  no_cursors s = ap (λ (entries : List Cursor). own_cursors s entries) none_open_yet

  made_session : (s : ℕ) → HasSession e s (loading_sessions s)
  made_session s = by (s == loading_session) refl
    where
      by : (b : Bool) → (s == loading_session) ≡ b → HasSession e s (if b then session_begun else idle_session)
      by true is = record {
        levels = let same : s ≡ loading_session = grind (arith, nat_tests, is) in ap (λ (t : ℕ). names_in e t) same ∙ own_names;
        failed = unfailed s;
        descriptors = λ own there. (made.sessions.each (s - 1) own there).none;
        cursors = no_cursors s;
        leveled = All-nil IsLeveled;
      }
      by false is = record {
        levels = other_names s (λ same. grind (arith, nat_tests, is, same));
        failed = unfailed s;
        descriptors = λ own there. (made.sessions.each (s - 1) own there).none;
        cursors = no_cursors s;
        leveled = All-nil IsLeveled;
      }

  pages_stand : StandFor x e.store.pages (open_edits (deeds_of o))
  pages_stand = subst (StandFor x e.store.pages) (done_now (deeds_of o)) (made.pages.stand row_deeds (all_puts o.tables))

  rows_stand : tables.StandFor x e.tables (open_edits (deeds_of o))
  rows_stand =
      let alone : tables.StandFor x e.tables (open_edits row_deeds) = subst (tables.StandFor x e.tables) (done_now row_deeds) made.rows.stand in
      subst (tables.StandFor x e.tables) (sym (edits_both 0 (Running loading_session 1) row_deeds all_object_deeds))
      (rows_rest x e.tables 0 (Running loading_session 1) all_object_deeds (open_edits row_deeds) (objects_are o.objects) alone)

  is_loaded : IsLoaded o e
  is_loaded = record {
    fit = made.fit;
    sound = made_sound;
    rows = made.rows.ready.goes;
    time = made.begun.clock;
    begun = omega (arith, ap length own_names);
    has = record {
      edits = pages_stand;
      rows = rows_stand;
      counter = made.counter;
      tables = made.rows.catalog;
      sessions = λ s low high. made_session s;
    };
    variables = made.variables;
  }

-- what an opening's data give

tables_as : (list : List TableData) → map named_of list ≡ map as_table (map table_of list)
tables_as [] = refl
tables_as (t ∷ ts) = ap (λ (tables : List Table). named_of t ∷ tables) (tables_as ts)

pub rows_opened : (x : Transactions) (s : ℕ) (tables : Tables) (list : List TableData) → HaveDone x s tables (map named_of list) (deeds_in list) → HaveDone x s tables (map as_table (map table_of list)) (flat_map (table_deeds plan_of) (map table_of list))
rows_opened x s tables list done = subst (λ (named : List Table). HaveDone x s tables named (deeds_in list)) (tables_as list) done

pub data_loaded : (d d' : OpeningData) (s : ℕ) (e : Server) → d ≡ d' → s ≡ loading_session → IsMadeOf (opening_of d) s e → IsLoaded (opening_of d') e
data_loaded d d' s e same first made = subst (λ (of : OpeningData). IsLoaded (opening_of of) e) same (is_loaded (opening_of d) e (subst (λ (t : ℕ). IsMadeOf (opening_of d) t e) first made))

-- The commit.

committed_all : (ds : List Deed) → committed loading_session 0 (open_edits ds) ≡ edits_by 0 (Committed 0) ds
committed_all [] = refl
committed_all (d ∷ ds) = ap (λ (es : List (Edit Deed)). record { clock = 0; owner = Committed 0; deed = d } ∷ es) (committed_all ds)

-- then all sessions are idle
all_idle : (s : ℕ) → with_session_at loading_session idle_session loading_sessions s ≡ idle_session
all_idle s = by (s == loading_session)
  where
    by : (b : Bool) → (if b then idle_session else (if b then session_begun else idle_session)) ≡ idle_session
    by true = refl
    by false = refl

module _ (o : Opening) (old new : Server) (loaded : IsLoaded o old) (becomes : Becomes loading_session [] (committed loading_session (clock_of old)) (λ session. idle_session) old new) where
  abbrev later : Transactions
  later = later_at (xacts_of new)

  abbrev done : Has new (committed loading_session (clock_of old) (open_edits (deeds_of o))) (shared_of (database_of o)) (with_session_at loading_session idle_session loading_sessions)
  done = becomes.has (open_edits (deeds_of o)) (shared_of (database_of o)) loading_sessions loaded.has

  edits_are : committed loading_session (clock_of old) (open_edits (deeds_of o)) ≡ (database_of o).edits
  edits_are = ap (λ (clock : ℕ). committed loading_session clock (open_edits (deeds_of o))) loaded.time ∙ committed_all (deeds_of o)

  idle_now : (s : ℕ) → 1 ≤ s → s ≤ 16 → HasSession (with_xacts new later) s idle_session
  idle_now s low high =
      let has : HasSession new s idle_session = subst (HasSession new s) (all_idle s) (done.sessions s low high) in
      record { levels = levels_later (xacts_of new) s ∙ has.levels; failed = has.failed; descriptors = has.descriptors; cursors = has.cursors; leveled = has.leveled }

  none_named : AreNone new.variables.items
  none_named = subst AreNone (sym (ap (λ variables. variables.items) becomes.variables)) loaded.variables

  stands_later : StandsFor (with_xacts new later) (start_from o).state
  stands_later = record {
    time = ap (λ (n : ℕ). n + 1) (becomes.time ∙ loaded.time);
    has = record {
      edits = stand_ticked (xacts_of new) later new.store.pages (database_of o).edits (record { is = refl }) (subst (StandFor (xacts_of new) new.store.pages) edits_are done.edits);
      rows = for_ticked new.tables (xacts_of new) later (database_of o).edits (record { is = refl }) (subst (tables.StandFor (xacts_of new) new.tables) edits_are done.rows);
      counter = done.counter;
      tables = done.tables;
      sessions = idle_now;
    };
    variables = record { each = λ s own low high is. record { named = none_named.each (s - 1) own is } };
    well = well_opened o loaded.fit;
    fit = fit_opened o loaded.fit;
  }

  pub start_stands : (x : Transactions) → x ≡ later → StandsFor (with_xacts new x) (start_from o).state
  start_stands x is = subst (λ (y : Transactions). StandsFor (with_xacts new y) (start_from o).state) (sym is) stands_later
