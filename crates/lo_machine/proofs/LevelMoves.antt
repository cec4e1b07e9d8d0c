-- A move of a session's levels: some of its descriptors and cursors end or move, the transactions turn, and its block is failed or
-- not.
use Rattle.std.proofs.Common.{◌≡◌, ◌≢◌, ◌≤◌, ◌<◌, ℕ, ◌+◌, ◌-◌, Bool, true, false, ◌⊎◌, inl, inr, List, [], length, ◌++◌, Option, Some, ap, sym, subst, ◌∙◌, arith, length-set, get_or-set_same, get_or-set_other}
use Rattle.std.specs.Prelude.{◌==◌, All, IsPermutation, slice_get, slice_set, slice_index_or}
use Rattle.std.proofs.lemmas.Bool.{cases_eq}
use Rattle.std.proofs.lemmas.Bool.Decides.{nat_tests}
use Rattle.std.proofs.lemmas.List.Sorted.{IsPermutation-trans, IsPermutation-append_comm}
use Rattle.std.proofs.lemmas.Option.{same_Some, slice_get_within}
use Rattle.xact_core.specs.declared.snapshot.Snapshot.{Snapshot}
use Rattle.xact_core.specs.Kept.{kept_views, HoldsOthers, HoldsWholeViews}
use Rattle.xact_core.specs.Transactions.{Transactions, HasLevels, levels_of}
use Rattle.xact_core.proofs.ListPlaces.{set_here, set_other}
use Rattle.row_versions.proofs.Benching.{whole_same}
use Rattle.lo_pages.specs.Standing.{GoWith, StandFor}
use Rattle.lo_pages.proofs.Standing.{go_held, stand_held}
use Rattle.lo_calls.specs.declared.descs.Descs.{Descs}
use Rattle.lo_calls.specs.declared.session.LoSession.{LoSession}
use Rattle.lo_calls.specs.declared.store.LoStore.{LoStore}
use Rattle.lo_calls.specs.Descriptors.{descriptors_of, Ends}
use Rattle.lo_calls.proofs.Closing.{holds_both}
use Rattle.lo_model.specs.Database.{Table}
use Rattle.lo_model.specs.Descriptor.{Cursor}
use Rattle.lo_model.specs.Edit.{Deed, Edit}
use Rattle.lo_model.specs.Session.{Session}
use Rattle.row_tables.specs.declared.tables.Tables.{Tables}
use Rattle.row_tables.specs.Cursors as cursors
use Rattle.row_tables.specs.Standing as tables
use Rattle.row_tables.specs.World.{SameRows}
use Rattle.row_tables.proofs.Laws.{with_held}
use Rattle.row_tables.proofs.Resting.{for_held, for_same, goes_same}
use Rattle.lo_machine.specs.declared.server.Server.{Server}
use Rattle.lo_machine.specs.Server.{xacts_of, clock_of, names_in, all_holds, IsLeveled, IsNamed, IsPlaced, IsServer, HasRows, HasSession, HasSessions, Becomes}
use Rattle.lo_machine.specs.Later.{all_later, all_later_cursors, with_session_at}
use Rattle.lo_machine.specs.Well.{IsFirst}
use Rattle.lo_machine.proofs.SessionPlaces.{holds_exchanged, placed_exchanged, own_open, placed_open}

-- what the transactions are once the session's descriptors and cursors ended, and what they turn into
pub record Turned (s : ℕ) (names : List (Option (List ℕ))) (mid new : Transactions) : Type 0 where
  pub levels : HasLevels s names mid new
  pub clock : new.clock ≡ mid.clock
  pub held : new.held ≡ mid.held
  pub undos : new.undos ≤ mid.undos + 1
  pub views : length (kept_views new) ≤ length (kept_views mid) + 2
  pub first : IsFirst (levels_of mid s) → IsFirst names

-- what becomes of the session
pub record IsAfter (names names' : List (Option (List ℕ))) (flag flag' : Bool) (own own' : Descs) (cs cs' : List Cursor) (after : Session → Session) : Type 0 where
  pub levels : (session : Session) → names ≡ session.transaction.levels → names' ≡ (after session).transaction.levels
  pub failed : (session : Session) → flag ≡ session.transaction.failed → flag' ≡ (after session).transaction.failed
  pub descriptors : (session : Session) → descriptors_of own ≡ all_later session.descriptors → descriptors_of own' ≡ all_later (after session).descriptors
  pub cursors : (session : Session) → All IsLeveled session.cursors → cs ≡ all_later_cursors session.cursors → cs' ≡ all_later_cursors (after session).cursors
  pub leveled : (session : Session) → All IsLeveled session.cursors → All IsLeveled (after session).cursors

-- the session's entry and the tables, before a move and after it, and whether its block is failed
pub record Moves (s : ℕ) (flag' : Bool) (old new : Server) : Type 0 where
  pub own : LoSession
  pub own' : LoSession
  pub stood : slice_get old.sessions.items (s - 1) ≡ Some own
  pub sessions : new.sessions.items ≡ slice_set old.sessions.items (s - 1) own'
  pub number : own'.s ≡ own.s
  pub failed : new.failed.items ≡ slice_set old.failed.items (s - 1) flag'
  pub store : new.store ≡ old.store
  pub rows : SameRows old.tables new.tables
  pub others : (t : ℕ) → t ≢ s → cursors.cursors_of t (tables.cursors_in new.tables) ≡ cursors.cursors_of t (tables.cursors_in old.tables)
  pub named : All (IsNamed (tables.tables_in old.tables)) (cursors.cursors_of s (tables.cursors_in new.tables))
  pub variables : new.variables ≡ old.variables

-- First descriptors end, and then cursors.
pub record Closes (old : Server) (own own' : Descs) (tables' : Tables) (mid : Transactions) : Type 0 where
  pub between : Transactions
  pub descriptors : Ends (xacts_of old) between own own'
  pub cursors : cursors.Ends between mid (tables.cursors_in old.tables) (tables.cursors_in tables')

-- Their end leaves of the transactions all but what is held.
module _ (old : Server) (sound : IsServer old) (own own' : Descs) (tables' : Tables) (mid : Transactions) (closes : Closes old own own' tables' mid) where
  pub mid_others : HoldsOthers (xacts_of old) mid
  mid_others = holds_both (xacts_of old) closes.between mid closes.descriptors.others closes.cursors.others

  pub mid_levels : (t : ℕ) → levels_of mid t ≡ names_in old t
  mid_levels t = ap (λ (x : Transactions). levels_of x t) mid_others.rest

  pub mid_clock : mid.clock ≡ clock_of old
  mid_clock = ap (λ (x : Transactions). x.clock) mid_others.rest

  pub mid_undos : mid.undos ≡ (xacts_of old).undos
  mid_undos = ap (λ (x : Transactions). x.undos) mid_others.rest

  pub mid_views : length (kept_views mid) ≤ length (kept_views (xacts_of old))
  mid_views = omega (arith, closes.descriptors.views, closes.cursors.views)

  pub mid_whole : HoldsWholeViews mid
  mid_whole = closes.cursors.whole (closes.descriptors.whole sound.whole)

  pub mid_goes : GoWith mid old.store.pages
  mid_goes = go_held (xacts_of old) mid old.store.pages mid_others sound.goes

  pub mid_stands : (ys : List (Edit Deed)) → StandFor (xacts_of old) old.store.pages ys → StandFor mid old.store.pages ys
  mid_stands ys stands = stand_held (xacts_of old) mid old.store.pages ys mid_others stands

  pub mid_rows_go : HasRows old → tables.GoWith mid old.tables
  mid_rows_go goes = with_held old.tables (xacts_of old) mid mid_others goes

  pub mid_rows : (ys : List (Edit Deed)) → tables.StandFor (xacts_of old) old.tables ys → tables.StandFor mid old.tables ys
  mid_rows ys stands = for_held old.tables (xacts_of old) mid ys mid_others stands

module _ (s : ℕ) (names : List (Option (List ℕ))) (flag' : Bool) (old new : Server) (sound : IsServer old) (moves : Moves s flag' old new) (mid : Transactions) (closes : Closes old moves.own.descs moves.own'.descs new.tables mid) (turns : Turned s names mid (xacts_of new)) where
  low : 1 ≤ s
  low = turns.levels.low

  same_names : (t : ℕ) → levels_of mid t ≡ names_in old t
  same_names = mid_levels old sound moves.own.descs moves.own'.descs new.tables mid closes

  within : s - 1 < length old.sessions.items
  within = slice_get_within old.sessions.items (s - 1) moves.own moves.stood

  own_placed : IsPlaced (s - 1) moves.own'
  own_placed =
      let number : s - 1 + 1 ≡ s = omega (arith, low) in
      placed_open s closes.between moves.own' low (moves.number ∙ (sound.placed (s - 1) moves.own moves.stood).number ∙ number) (closes.descriptors.remain s (own_open s old moves.own low sound moves.stood))

  names_are : (t : ℕ) → (t ≡ s) ⊎ (t ≢ s) → IsFirst (names_in new t)
  names_are t (inl same) = subst (λ (n : ℕ). IsFirst (names_in new n)) (sym same) (subst IsFirst (sym turns.levels.own) (turns.first (subst IsFirst (sym (same_names s)) (sound.first s))))
  names_are t (inr other) = subst IsFirst (sym (turns.levels.others t other ∙ same_names t)) (sound.first t)

  named_at : (t : ℕ) → (t ≡ s) ⊎ (t ≢ s) → All (IsNamed (tables.tables_in old.tables)) (cursors.cursors_of t (tables.cursors_in new.tables))
  named_at t (inl same) = subst (λ (n : ℕ). All (IsNamed (tables.tables_in old.tables)) (cursors.cursors_of n (tables.cursors_in new.tables))) (sym same) moves.named
  named_at t (inr other) = subst (All (IsNamed (tables.tables_in old.tables))) (sym (moves.others t other)) (sound.named t)

  none_at : (t : ℕ) → (1 ≤ t → 16 < t) → (t ≡ s) ⊎ (t ≢ s) → cursors.cursors_of t (tables.cursors_in new.tables) ≡ []
  none_at t beyond (inl same) = let above = beyond (omega (arith, low, same)) in absurd (omega (arith, above, same, turns.levels.high))
  none_at t beyond (inr other) = moves.others t other ∙ sound.numbered t beyond

  -- the views that are held

  abbrev before : List Snapshot
  before = cursors.holds_of (tables.cursors_in old.tables)

  abbrev after' : List Snapshot
  after' = cursors.holds_of (tables.cursors_in new.tables)

  abbrev descs' : List Snapshot
  descs' = all_holds (slice_set old.sessions.items (s - 1) moves.own')

  held_mid : IsPermutation mid.held (descs' ++ after')
  held_mid =
      let first = holds_exchanged (xacts_of old).held closes.between.held old.sessions.items (s - 1) moves.own moves.own' before moves.stood closes.descriptors.holds sound.held in
      let turned = IsPermutation-trans closes.between.held (descs' ++ before) (before ++ descs') first (IsPermutation-append_comm descs' before) in
      IsPermutation-trans mid.held (after' ++ descs') (descs' ++ after') (closes.cursors.holds.rest descs' turned) (IsPermutation-append_comm after' descs')

  -- a cursor's hold is its session's own
  own_holds : cursors.AreOpen closes.between (tables.cursors_in old.tables)
  own_holds = record {
    own = sound.own;
    held = record {
      rest = descs';
      all = IsPermutation-trans closes.between.held (descs' ++ before) (before ++ descs') (holds_exchanged (xacts_of old).held closes.between.held old.sessions.items (s - 1) moves.own moves.own' before moves.stood closes.descriptors.holds sound.held) (IsPermutation-append_comm descs' before);
    };
  }

  pub moved_sound : GoWith (xacts_of new) old.store.pages → new.undos ≡ (xacts_of new).undos → IsServer new
  moved_sound goes undos = record {
    goes = subst (λ (store : LoStore). GoWith (xacts_of new) store.pages) (sym moves.store) goes;
    whole = whole_same mid (xacts_of new) turns.held (mid_whole old sound moves.own.descs moves.own'.descs new.tables mid closes);
    counter = rw moves.store sound.counter;
    undos = undos;
    flags = rw moves.failed (length-set old.failed.items (s - 1) flag' ∙ sound.flags);
    sixteen = rw moves.sessions (length-set old.sessions.items (s - 1) moves.own' ∙ sound.sixteen);
    sixteen_lists = rw moves.variables sound.sixteen_lists;
    sixteen_levels = ap length turns.levels.levels ∙ (length-set mid.levels (s - 1) names ∙ (ap (λ (x : Transactions). length x.levels) (mid_others old sound moves.own.descs moves.own'.descs new.tables mid closes).rest ∙ sound.sixteen_levels));
    placed = λ place session is. placed_exchanged old.sessions.items (s - 1) moves.own' within own_placed sound.placed place session (subst (λ (sessions : List LoSession). slice_get sessions place ≡ Some session) moves.sessions is);
    held = rw (turns.held, moves.sessions) held_mid;
    own = (closes.cursors.remain own_holds).own;
    numbered = λ t beyond. none_at t beyond (cases_eq t s);
    named = λ t. subst (λ (all : List Table). All (IsNamed all) (cursors.cursors_of t (tables.cursors_in new.tables))) (sym moves.rows.catalog) (named_at t (cases_eq t s));
    first = λ t. names_are t (cases_eq t s);
  }

  -- what the server has

  apart : (t : ℕ) → 1 ≤ t → t ≢ s → s - 1 ≢ t - 1
  apart t least other same = other (omega (arith, low, least, same))

  abbrev pub cs : List Cursor
  cs = cursors.cursors_of s (tables.cursors_in old.tables)

  abbrev pub cs' : List Cursor
  cs' = cursors.cursors_of s (tables.cursors_in new.tables)

  module _ (after : Session → Session) (is : IsAfter (names_in old s) names (slice_index_or old.failed.items (s - 1) false) flag' moves.own.descs moves.own'.descs cs cs' after) (sessions : ℕ → Session) (has : HasSessions old sessions) where
    own_has : HasSession new s (after (sessions s))
    own_has =
        let had = has s low turns.levels.high in
        record {
          levels = turns.levels.own ∙ is.levels (sessions s) had.levels;
          failed = rw moves.failed (get_or-set_same old.failed.items (s - 1) flag' false (omega (arith, low, turns.levels.high, sound.flags)) ∙ is.failed (sessions s) had.failed);
          descriptors = λ own here.
              let there = set_here old.sessions.items (s - 1) moves.own' within in
              let found = subst (λ (all : List LoSession). slice_get all (s - 1) ≡ Some own) moves.sessions here in
              ap (λ (session : LoSession). descriptors_of session.descs) (same_Some own moves.own' (sym found ∙ there)) ∙ is.descriptors (sessions s) (had.descriptors moves.own moves.stood);
          cursors = is.cursors (sessions s) had.leveled had.cursors;
          leveled = is.leveled (sessions s) had.leveled;
        }

    other_has : (t : ℕ) → 1 ≤ t → t ≤ 16 → t ≢ s → HasSession new t (sessions t)
    other_has t least most other =
        let had = has t least most in
        let far = apart t least other in
        record {
          levels = turns.levels.others t other ∙ same_names t ∙ had.levels;
          failed = rw moves.failed (get_or-set_other old.failed.items (s - 1) (t - 1) flag' false (λ same. far (sym same)) ∙ had.failed);
          descriptors = λ own here.
              let found = subst (λ (all : List LoSession). slice_get all (t - 1) ≡ Some own) moves.sessions here in
              had.descriptors own (sym (set_other old.sessions.items (s - 1) (t - 1) moves.own' far) ∙ found);
          cursors = moves.others t other ∙ had.cursors;
          leveled = had.leveled;
        }

    each_has : (t : ℕ) → 1 ≤ t → t ≤ 16 → (t ≡ s) ⊎ (t ≢ s) → HasSession new t (with_session_at s (after (sessions s)) sessions t)
    each_has t least most (inl same) =
        let test : (t == s) ≡ true = grind (arith, nat_tests, same) in
        rw test (subst (λ (n : ℕ). HasSession new n (after (sessions s))) (sym same) own_has)
    each_has t least most (inr other) =
        let test : (t == s) ≡ false = grind (arith, nat_tests, other) in
        rw test (other_has t least most other)

    sessions_has : HasSessions new (with_session_at s (after (sessions s)) sessions)
    sessions_has t least most = each_has t least most (cases_eq t s)

  -- what the turn makes of rows
  pub record TurnsRows (turned : List (Edit Deed) → List (Edit Deed)) : Type 0 where
    pub pages : (ys : List (Edit Deed)) → StandFor mid old.store.pages ys → StandFor (xacts_of new) old.store.pages (turned ys)
    pub rows : (ys : List (Edit Deed)) → tables.StandFor mid old.tables ys → tables.StandFor (xacts_of new) old.tables (turned ys)
    pub go : tables.GoWith mid old.tables → tables.GoWith (xacts_of new) old.tables

  pub moved_becomes : (turned : List (Edit Deed) → List (Edit Deed)) (after : Session → Session) → IsAfter (names_in old s) names (slice_index_or old.failed.items (s - 1) false) flag' moves.own.descs moves.own'.descs cs cs' after → TurnsRows turned → Becomes s names turned after old new
  moved_becomes turned after is turn = record {
    has = λ ys shared sessions has. record {
      edits = subst (λ (store : LoStore). StandFor (xacts_of new) store.pages (turned ys)) (sym moves.store) (turn.pages ys (mid_stands old sound moves.own.descs moves.own'.descs new.tables mid closes ys has.edits));
      rows = for_same (xacts_of new) old.tables new.tables moves.rows (turned ys) (turn.rows ys (mid_rows old sound moves.own.descs moves.own'.descs new.tables mid closes ys has.rows));
      counter = rw moves.store has.counter;
      tables = moves.rows.catalog ∙ has.tables;
      sessions = sessions_has after is sessions has.sessions;
    };
    sessions = λ sessions has. sessions_has after is sessions has;
    rows = λ goes. goes_same (xacts_of new) old.tables new.tables moves.rows (turn.go (mid_rows_go old sound moves.own.descs moves.own'.descs new.tables mid closes goes));
    names = turns.levels.own;
    time = turns.clock ∙ mid_clock old sound moves.own.descs moves.own'.descs new.tables mid closes;
    undos = let before' = mid_undos old sound moves.own.descs moves.own'.descs new.tables mid closes in omega (arith, before', turns.undos);
    views = let fewer = mid_views old sound moves.own.descs moves.own'.descs new.tables mid closes in omega (arith, fewer, turns.views);
    others = λ t least most other. turns.levels.others t other ∙ same_names t;
    store = moves.store;
    tables = moves.rows.catalog;
    variables = moves.variables;
  }
