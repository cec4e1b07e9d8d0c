-- Levels that end: merged into the one below, undone, or gone with their transaction.
use Rattle.std.proofs.Common.{◌≡◌, ◌≢◌, ◌≤◌, ◌<◌, ℕ, ◌+◌, ◌-◌, Bool, false, List, [], ◌++◌, length, take, Option, Some, refl, sym, subst, arith}
use Rattle.std.specs.Prelude.{All, map, nat_lt, slice_get, slice_set, slice_index_or}
use Rattle.std.proofs.lemmas.List.Elements.{All-map, All-filter}
use Rattle.std.proofs.lemmas.List.Sorted.{IsPermutation-trans, IsPermutation-append_comm}
use Rattle.std.proofs.lemmas.Option.{slice_get_read}
use Rattle.lo_calls.specs.declared.descs.Descs.{Descs}
use Rattle.lo_calls.specs.declared.session.LoSession.{LoSession}
use Rattle.lo_calls.specs.declared.store.LoStore.{LoStore}
use Rattle.lo_calls.specs.Descriptors.{descriptors_of, AreHeld, Ends}
use Rattle.lo_calls.proofs.Keeping.{with_descs}
use Rattle.lo_model.specs.Descriptor.{Cursor, cursor_released, cursors_below, descriptor_released, descriptors_below}
use Rattle.lo_model.specs.declared.owner.Owner.{Owner}
use Rattle.lo_model.specs.Edit.{Deed, Edit}
use Rattle.lo_model.specs.Levels.{released, undone, aborted, committed}
use Rattle.lo_model.specs.Session.{Session, idle_session, session_released, session_undone}
use Rattle.lo_pages.specs.declared.pages.Pages.{Pages}
use Rattle.lo_pages.specs.Standing.{GoWith, StandFor}
use Rattle.lo_pages.proofs.Standing.{go_released, go_undone, go_aborted, go_committed, stand_released, stand_undone, stand_aborted, stand_committed}
use Rattle.row_tables.specs.declared.tables.Tables.{Tables}
use Rattle.row_tables.specs.Cursors as cursors
use Rattle.row_tables.specs.Standing as tables
use Rattle.row_tables.specs.World.{SameRows}
use Rattle.row_tables.proofs.Laws.{with_released, with_undone, with_aborted, with_committed}
use Rattle.row_tables.proofs.Resting.{for_same, goes_same}
use Rattle.row_tables.proofs.Turning.{for_released, for_undone, for_aborted, for_committed}
use Rattle.row_versions.specs.Calls.{Releases, UndoesLevel, Commits, Aborts}
use Rattle.xact_core.specs.declared.snapshot.Snapshot.{Snapshot}
use Rattle.xact_core.specs.Ends.{Ends as Ended, release, undo, commit_at}
use Rattle.xact_core.specs.Kept.{HoldsWholeViews}
use Rattle.xact_core.specs.Transactions.{Transactions, levels_of}
use Rattle.lo_machine.specs.declared.server.Server.{Server}
use Rattle.lo_machine.specs.Server.{xacts_of, clock_of, names_in, all_holds, IsNamed, IsServer, Becomes, Loses}
use Rattle.lo_machine.proofs.LevelMoves.{Turned, IsAfter, Moves, Closes, TurnsRows, mid_others, mid_levels, mid_clock, mid_undos, mid_whole, mid_goes, moved_sound, moved_becomes}
use Rattle.lo_machine.proofs.LevelSteps.{turned_ended, after_released, after_undone, after_ended, lost_undone, rows_lost_undone, rows_go_undone}
use Rattle.lo_machine.proofs.SessionPlaces.{holds_exchanged, own_open}

below : (s place : ℕ) → place + 1 ≡ s → place ≡ s - 1
below s place at = omega (arith, at)

-- a session's entry at its place, where its number is one above it
pub stood_at : (s place : ℕ) (e : Server) (own : LoSession) → IsServer e → place + 1 ≡ s → place + 1 ≤ 16 → own ≡ slice_index_or e.sessions.items place own → slice_get e.sessions.items (s - 1) ≡ Some own
stood_at s place e own sound at within is =
    subst (λ (n : ℕ). slice_get e.sessions.items n ≡ Some own) (below s place at)
    (slice_get_read e.sessions.items 16 place own (sym sound.sixteen) (omega (arith, within)) is)

pub set_at : {X : Type 0} (s place : ℕ) (old new : List X) (x : X) → place + 1 ≡ s → new ≡ slice_set old place x → new ≡ slice_set old (s - 1) x
set_at s place old new x at is = subst (λ (n : ℕ). new ≡ slice_set old n x) (below s place at) is

pub held_at : (s place : ℕ) (e : Server) (own : LoSession) → IsServer e → place + 1 ≡ s → place + 1 ≤ 16 → own ≡ slice_index_or e.sessions.items place own → AreHeld (xacts_of e) own.descs
held_at s place e own sound at within is = (own_open s e own (omega (arith, at)) sound (stood_at s place e own sound at within is)).held

-- once its descriptors ended, the cursors' holds stand among those that are held
pub cursors_held : (s place : ℕ) (e : Server) (own : LoSession) (descs : Descs) (x : Transactions) → IsServer e → place + 1 ≡ s → place + 1 ≤ 16 → own ≡ slice_index_or e.sessions.items place own → Ends (xacts_of e) x own.descs descs → cursors.AreHeld x (tables.cursors_in e.tables)
cursors_held s place e own descs x sound at within is ends = record {
  rest = others;
  all = IsPermutation-trans x.held (others ++ mine) (mine ++ others) (holds_exchanged (xacts_of e).held x.held e.sessions.items (s - 1) own (with_descs own descs) mine (stood_at s place e own sound at within is) ends.holds sound.held) (IsPermutation-append_comm others mine);
}
  where
    mine : List Snapshot
    mine = cursors.holds_of (tables.cursors_in e.tables)

    others : List Snapshot
    others = all_holds (slice_set e.sessions.items (s - 1) (with_descs own descs))

-- the cursors of a session ended, or moved to other levels, and their tables are there still

pub record CursorsMove (s : ℕ) (old new : Tables) : Type 0 where
  pub rows : SameRows old new
  pub others : (t : ℕ) → t ≢ s → cursors.cursors_of t (tables.cursors_in new) ≡ cursors.cursors_of t (tables.cursors_in old)
  pub named : All (IsNamed (tables.tables_in old)) (cursors.cursors_of s (tables.cursors_in new))

-- it has other descriptors then, and the block is failed or not
abbrev pub moves_at : (s place place' : ℕ) (flag' : Bool) (old new : Server) (own : LoSession) (descs : Descs) → IsServer old → place + 1 ≡ s → place + 1 ≤ 16 → own ≡ slice_index_or old.sessions.items place own → place' + 1 ≡ s → new.sessions.items ≡ slice_set old.sessions.items place (with_descs own descs) → new.failed.items ≡ slice_set old.failed.items place' flag' → new.store ≡ old.store → new.variables ≡ old.variables → CursorsMove s old.tables new.tables → Moves s flag' old new
moves_at s place place' flag' old new own descs sound at within is at' sessions failed store variables move = record {
  own = own;
  own' = with_descs own descs;
  stood = stood_at s place old own sound at within is;
  sessions = set_at s place old.sessions.items new.sessions.items (with_descs own descs) at sessions;
  number = refl;
  failed = set_at s place' old.failed.items new.failed.items flag' at' failed;
  store = store;
  rows = move.rows;
  others = move.others;
  named = move.named;
  variables = variables;
}

module _ (s : ℕ) (flag' : Bool) (old new : Server) (sound : IsServer old) (moves : Moves s flag' old new) (mid : Transactions) (closes : Closes old moves.own.descs moves.own'.descs new.tables mid) where
  abbrev own : Descs
  own = moves.own.descs

  abbrev own' : Descs
  own' = moves.own'.descs

  abbrev before : List Cursor
  before = cursors.cursors_of s (tables.cursors_in old.tables)

  abbrev after : List Cursor
  after = cursors.cursors_of s (tables.cursors_in new.tables)

  abbrev flag : Bool
  flag = slice_index_or old.failed.items (s - 1) false

  abbrev names : (left : ℕ) → List (Option (List ℕ))
  names left = take left (names_in old s)

  abbrev pages : Pages
  pages = old.store.pages

  whole : HoldsWholeViews mid
  whole = mid_whole old sound own own' new.tables mid closes

  goes : GoWith mid pages
  goes = mid_goes old sound own own' new.tables mid closes

  there : (k : ℕ) → k ≤ length (names_in old s) → k ≤ length (levels_of mid s)
  there k high = subst (λ (all : List (Option (List ℕ))). k ≤ length all) (sym (mid_levels old sound own own' new.tables mid closes s)) high

  module _ (turn : Owner → Option Owner) (left more : ℕ) (few : more ≤ 1) (by : Ended turn s left mid (xacts_of new)) (undos : (xacts_of new).undos ≡ mid.undos + more) where
    turns : Turned s (names left) mid (xacts_of new)
    turns = turned_ended turn s left (names_in old s) mid (xacts_of new) (mid_levels old sound own own' new.tables mid closes s) (omega (arith, few, undos)) by

    ended_sound : GoWith (xacts_of new) pages → new.undos ≡ old.undos + more → IsServer new
    ended_sound go count =
        let before' = mid_undos old sound own own' new.tables mid closes in
        moved_sound s (names left) flag' old new sound moves mid closes turns go (omega (arith, count, undos, before', sound.undos))

    ended_becomes : (turned : List (Edit Deed) → List (Edit Deed)) (then : Session → Session) → IsAfter (names_in old s) (names left) flag flag' own own' before after then → TurnsRows s (names left) flag' old new sound moves mid closes turns turned → Becomes s (names left) turned then old new
    ended_becomes turned then is turn' = moved_becomes s (names left) flag' old new sound moves mid closes turns turned then is turn'

  -- a level and all above it are merged
  module _ (k : ℕ) (low : 2 ≤ k) (high : k ≤ length (names_in old s)) (by : Ended (release s k) s (k - 1) mid (xacts_of new)) (undos : (xacts_of new).undos ≡ mid.undos) where
    releases : Releases s k mid (xacts_of new)
    releases = record { low = low; high = there k high; whole = whole; ends = by }

    pub merged_sound : new.undos ≡ old.undos → IsServer new
    merged_sound count = ended_sound (release s k) (k - 1) 0 (omega arith) by (omega (arith, undos)) (go_released s k mid (xacts_of new) pages releases goes) (omega (arith, count))

    pub merged_becomes : flag ≡ flag' → descriptors_of own' ≡ map (descriptor_released k) (descriptors_of own) → after ≡ map (cursor_released k) before → Becomes s (names (k - 1)) (released s k) (session_released k) old new
    merged_becomes same moved given = ended_becomes (release s k) (k - 1) 0 (omega arith) by (omega (arith, undos)) (released s k) (session_released k) (after_released k low (names_in old s) flag flag' own own' before after same moved given) (record {
      pages = λ ys stands. stand_released s k mid (xacts_of new) pages ys releases stands;
      rows = λ ys stands. for_released old.tables ys s k mid (xacts_of new) releases stands;
      go = λ goes'. with_released old.tables s k mid (xacts_of new) releases goes';
    })

  -- a level and all above it are undone
  module _ (k : ℕ) (low : 1 ≤ k) (high : k ≤ length (names_in old s)) (by : Ended (undo s k) s k mid (xacts_of new)) (undos : (xacts_of new).undos ≡ mid.undos + 1) where
    undoes : UndoesLevel s k mid (xacts_of new)
    undoes = record { low = low; high = there k high; whole = whole; ends = by }

    pub undone_sound : new.undos ≡ old.undos + 1 → IsServer new
    undone_sound count = ended_sound (undo s k) k 1 (omega arith) by undos (go_undone s k mid (xacts_of new) pages undoes goes) count

    pub undone_becomes : descriptors_of own' ≡ descriptors_below k (descriptors_of own) → after ≡ cursors_below k before → Becomes s (names k) (undone s k) (session_undone k flag') old new
    undone_becomes left kept = ended_becomes (undo s k) k 1 (omega arith) by undos (undone s k) (session_undone k flag') (after_undone k (names_in old s) flag flag' own own' before after left kept) (record {
      pages = λ ys stands. stand_undone s k mid (xacts_of new) pages ys undoes stands;
      rows = λ ys stands. for_undone old.tables ys s k mid (xacts_of new) undoes stands;
      go = λ goes'. with_undone old.tables s k mid (xacts_of new) undoes goes';
    })

    pub undone_loses : Loses s k old new
    undone_loses =
        let others = mid_others old sound own own' new.tables mid closes in
        record {
          pages = λ start ys top left stands. subst (λ (store : LoStore). StandFor (xacts_of new) store.pages (undone s k ys)) (sym moves.store) (lost_undone s k (xacts_of old) mid (xacts_of new) start pages ys others top undoes goes left stands);
          rows = λ start ys top left go stands. for_same (xacts_of new) old.tables new.tables moves.rows (undone s k ys) (rows_lost_undone s (xacts_of old) mid (xacts_of new) start old.tables others left go k ys top undoes stands);
          goes = λ start top left go went. goes_same (xacts_of new) old.tables new.tables moves.rows (rows_go_undone s (xacts_of old) mid (xacts_of new) start old.tables others left go k top undoes went);
        }

  -- the transaction is undone
  module _ (some : 0 < length (names_in old s)) (by : Ended (undo s 1) s 0 mid (xacts_of new)) (undos : (xacts_of new).undos ≡ mid.undos) where
    aborts : Aborts s mid (xacts_of new)
    aborts = record { some = there 1 some; whole = whole; ends = by }

    pub aborted_sound : new.undos ≡ old.undos → IsServer new
    aborted_sound count = ended_sound (undo s 1) 0 0 (omega arith) by (omega (arith, undos)) (go_aborted s mid (xacts_of new) pages aborts goes) (omega (arith, count))

    pub aborted_becomes : flag' ≡ false → descriptors_of own' ≡ [] → after ≡ cursors_below 1 before → Becomes s [] (aborted s) (λ session. idle_session) old new
    aborted_becomes same none no_cursors = ended_becomes (undo s 1) 0 0 (omega arith) by (omega (arith, undos)) (aborted s) (λ session. idle_session) (after_ended (names_in old s) flag flag' own own' before after same none no_cursors) (record {
      pages = λ ys stands. stand_aborted s mid (xacts_of new) pages ys aborts stands;
      rows = λ ys stands. for_aborted old.tables ys s mid (xacts_of new) aborts stands;
      go = λ goes'. with_aborted old.tables s mid (xacts_of new) aborts goes';
    })

  -- the transaction is committed
  module _ (some : 0 < length (names_in old s)) (by : Ended (commit_at s mid.clock) s 0 mid (xacts_of new)) (undos : (xacts_of new).undos ≡ mid.undos) where
    commits : Commits s mid (xacts_of new)
    commits = record { some = there 1 some; whole = whole; ends = by }

    pub committed_sound : new.undos ≡ old.undos → IsServer new
    committed_sound count = ended_sound (commit_at s mid.clock) 0 0 (omega arith) by (omega (arith, undos)) (go_committed s mid (xacts_of new) pages commits goes) (omega (arith, count))

    pub committed_becomes : flag' ≡ false → descriptors_of own' ≡ [] → after ≡ cursors_below 1 before → Becomes s [] (committed s (clock_of old)) (λ session. idle_session) old new
    committed_becomes same none no_cursors =
        let clock = mid_clock old sound own own' new.tables mid closes in
        ended_becomes (commit_at s mid.clock) 0 0 (omega arith) by (omega (arith, undos)) (committed s (clock_of old)) (λ session. idle_session) (after_ended (names_in old s) flag flag' own own' before after same none no_cursors) (record {
          pages = λ ys stands. subst (λ (c : ℕ). StandFor (xacts_of new) pages (committed s c ys)) clock (stand_committed s mid (xacts_of new) pages ys commits stands);
          rows = λ ys stands. subst (λ (c : ℕ). tables.StandFor (xacts_of new) old.tables (committed s c ys)) clock (for_committed old.tables ys s mid (xacts_of new) commits stands);
          go = λ goes'. with_committed old.tables s mid (xacts_of new) commits goes';
        })

-- What the calls of the tables leave of cursors, as moves have it.

module _ (s : ℕ) (e : Server) (sound : IsServer e) (tables' : Tables) (rows : SameRows e.tables tables') (others : (t : ℕ) → t ≢ s → cursors.cursors_of t (tables.cursors_in tables') ≡ cursors.cursors_of t (tables.cursors_in e.tables)) where
  abbrev there' : Cursor → Type 0
  there' c = IsNamed (tables.tables_in e.tables) c

  pub cursors_released : (k : ℕ) → cursors.cursors_of s (tables.cursors_in tables') ≡ map (cursor_released k) (cursors.cursors_of s (tables.cursors_in e.tables)) → CursorsMove s e.tables tables'
  cursors_released k own = record { rows = rows; others = others; named = subst (All there') (sym own) (All-map there' (cursor_released k) (cursors.cursors_of s (tables.cursors_in e.tables)) (sound.named s)) }

  pub cursors_undone : (k : ℕ) → cursors.cursors_of s (tables.cursors_in tables') ≡ cursors_below k (cursors.cursors_of s (tables.cursors_in e.tables)) → CursorsMove s e.tables tables'
  cursors_undone k own = record { rows = rows; others = others; named = subst (All there') (sym own) (All-filter (λ (c : Cursor). nat_lt c.level k) there' (cursors.cursors_of s (tables.cursors_in e.tables)) (sound.named s)) }
