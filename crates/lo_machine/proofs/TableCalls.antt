-- A request on tables is the call of the server's tables: what the call keeps of the server, and what it makes of what the server
-- has, in the words of its row. Large objects, descriptors and array variables are as they were.
use Rattle.std.proofs.Common.{◌≡◌, ◌≢◌, ◌≤◌, ◌<◌, ℕ, zero, suc, ◌+◌, Bool, true, false, not, List, [], ◌∷◌, ◌++◌, length, Option, Some, None, refl, ap, sym, subst, ◌∙◌, arith, inl, inr, append-nil}
use Rattle.std.specs.Prelude.{nat_le, All, IsPermutation, ◌==◌, ◌&&◌, Ok, Err}
use Rattle.std.specs.List.{find, range_with_len}
use Rattle.std.proofs.lemmas.Bool.{cases_eq}
use Rattle.std.proofs.lemmas.List.{get_or_past}
use Rattle.std.proofs.lemmas.Bool.Decides.{nat_tests}
use Rattle.std.proofs.lemmas.List.Sorted.{IsPermutation-trans, IsPermutation-append_comm}
use Rattle.lo_base.specs.declared.refusal.Denied.{Denied}
use Rattle.lo_base.specs.declared.refusal.Denied.TheVariants.{By, NoMemory}
use Rattle.lo_base.specs.declared.refusal.Refusal.{Refusal}
use Rattle.lo_base.specs.declared.reply.Reply.{Reply}
use Rattle.lo_model.specs.declared.owner.Owner.TheVariants.{Running}
use Rattle.lo_model.specs.declared.viewer.Viewer.TheVariants.{Whole}
use Rattle.lo_model.specs.Edit.{Deed, Edit, edits_by}
use Rattle.lo_model.specs.Session.{Session, lowest_open}
use Rattle.lo_model.specs.Transaction.{has_levels, is_open}
use Rattle.lo_pages.specs.declared.pages.Pages.{Pages}
use Rattle.lo_pages.specs.Calls.{IsMaker}
use Rattle.lo_pages.specs.Outcome as pages
use Rattle.lo_pages.specs.Standing.{StandFor}
use Rattle.lo_pages.proofs.Standing.{go_held, stand_held}
use Rattle.lo_pages.proofs.Steps.{left_none}
use Rattle.row_tables.specs.declared.tables.Tables.{Tables}
use Rattle.row_tables.specs.Cursors.{HoldsOwn, HoldsRest, cursors_of, own_cursors, holds_of as cursor_holds}
use Rattle.row_tables.specs.Row as tables
use Rattle.row_tables.specs.Standing.{cursors_in, tables_in}
use Rattle.row_tables.specs.Standing as standing
use Rattle.row_tables.proofs.Granting.{same_holds, same_named, same_rest}
use Rattle.row_tables.proofs.StoringRows.{leaves_none}
use Rattle.row_tables.specs.Terms.{first_of}
use Rattle.row_tables.specs.World as calls
use Rattle.row_tables.specs.World.{World, world, here_of}
use Rattle.xact_core.specs.Kept.{HoldsOthers, HoldsWholeViews, current, kept_views}
use Rattle.xact_core.specs.Transactions.{Transactions, levels_of}
use Rattle.row_versions.specs.declared.Core.{Core}
use Rattle.lo_machine.specs.declared.server.Server.{Server}
use Rattle.lo_machine.specs.CallRows.{Shared, session_by}
use Rattle.lo_machine.specs.Dispatch.{AnswersCall, CanCall, Denies, Finds, IsGranted, ReadsCall, Stays, here_in}
use Rattle.lo_machine.specs.Server.{xacts_of, clock_of, names_in, all_holds, HasSession, HasSessions, HasVariables, IsServer, IsLeveled, with_variables_at}
use Rattle.lo_machine.specs.Later.{all_later, all_later_cursors, with_session_at}
use Rattle.lo_machine.specs.Row.{Here, Row, tables_here}
use Rattle.lo_machine.specs.State.{Variable}
use Rattle.lo_machine.specs.Variables.{IsAs}
use Rattle.lo_machine.specs.Well.{IsFirst}
use Rattle.lo_machine.proofs.CallSteps.{same_variables}
use Rattle.lo_machine.proofs.NamedCursors.{all_named, own_named}

-- the first term of two crates

pub first_same : (terms : List (Option Refusal)) → first_of terms ≡ pages.first_of terms
first_same [] = refl
first_same (None ∷ terms) = first_same terms
first_same (Some r ∷ terms) = refl

-- what a call of the tables needs of its world
pub is_ready : (s : ℕ) (e : Server) → CanCall s e → calls.IsReady (world (xacts_of e) e.tables s)
is_ready s e can = record {
  whole = can.sound.whole;
  goes = can.rows;
  cursors = record {
    own = can.sound.own;
    held = record {
      rest = all_holds e.sessions.items;
      all = IsPermutation-trans (xacts_of e).held (all_holds e.sessions.items ++ cursor_holds (cursors_in e.tables)) (cursor_holds (cursors_in e.tables) ++ all_holds e.sessions.items) can.sound.held (IsPermutation-append_comm (all_holds e.sessions.items) (cursor_holds (cursors_in e.tables)));
    };
  };
  named = all_named (tables_in e.tables) (cursors_in e.tables).entries.items can.sound.named;
}

-- what a row of the tables reads: the present clock with the view of the clock above, and cursors of later clocks

abbrev pub later_here : Here → tables.Here
later_here here = record {
  clock = here.now;
  session = here.session;
  level = here.level;
  cursors = all_later_cursors here.cursors;
  view = (tables_here here).view;
  edits = here.edits;
  tables = here.tables;
  other = here.other;
}

-- the lowest other session with a transaction

other_same : (s : ℕ) (e : Server) (sessions : ℕ → Session) → HasSessions e sessions → calls.other_open (xacts_of e) s ≡ lowest_open s sessions
other_same s e sessions has = from 1 16 (omega arith) (omega arith)
  where
    from : (n count : ℕ) → 1 ≤ n → n + count ≤ 17 → find (λ t. not (t == s) && has_levels (levels_of (xacts_of e) t)) (range_with_len n count) ≡ find (λ t. not (t == s) && is_open (sessions t).transaction) (range_with_len n count)
    from n zero low high = refl
    from n (suc count) low high =
        let here : has_levels (levels_of (xacts_of e) n) ≡ is_open (sessions n).transaction = ap has_levels (has n low (omega (arith, high))).levels in
        rw (here, from (n + 1) count (omega arith) (omega (arith, high))) refl

pub reads_later : (s : ℕ) (e : Server) (ys : List (Edit Deed)) (shared : Shared) (sessions : ℕ → Session) (variables : ℕ → List Variable) → 1 ≤ s → s ≤ 16 → Finds s e ys shared sessions variables → here_of (world (xacts_of e) e.tables s) ys ≡ later_here (here_in s e ys shared sessions variables)
reads_later s e ys shared sessions variables low high finds =
    let cursors = (finds.has.sessions s low high).cursors in
    let other = other_same s e sessions finds.has.sessions in
    rw (cursors, finds.views (Whole s), finds.has.tables, other) refl

-- A row of a request and the row of its call: they refuse alike, and grant the same where descriptors, variables and the counter
-- stay. Edits of rows are none of pages.
pub record IsMatch (here : Here) (row : Row) (given : tables.Row) : Type 0 where
  pub refusals : pages.first_of row.refusals ≡ first_of given.refusals
  pub reply : row.granted.reply ≡ given.granted.reply
  pub deeds : row.granted.deeds ≡ given.granted.deeds
  pub tables : row.granted.tables ≡ given.granted.tables
  pub cursors : given.granted.cursors ≡ all_later_cursors row.granted.cursors
  pub leveled : 1 ≤ here.level → All IsLeveled here.cursors → All IsLeveled row.granted.cursors
  pub descriptors : row.granted.descriptors ≡ here.descriptors
  pub variables : row.granted.variables ≡ here.variables
  pub counter : row.granted.counter ≡ here.counter
  pub pages : (x : Transactions) (store : Pages) → IsMaker x here.session → first_of given.refusals ≡ None → StandFor x store here.edits → StandFor x store (here.edits ++ edits_by x.clock (Running here.session (length (levels_of x here.session))) given.granted.deeds)

-- rows that match, whatever the server had
abbrev pub Matches : (s : ℕ) → Server → (Here → Row) → (tables.Here → tables.Row) → Type 0
Matches s old row given = (ys : List (Edit Deed)) (shared : Shared) (sessions : ℕ → Session) (variables : ℕ → List Variable) → Finds s old ys shared sessions variables → IsMatch (here_in s old ys shared sessions variables) (row (here_in s old ys shared sessions variables)) (given (later_here (here_in s old ys shared sessions variables)))

-- the session of a call is one of the sixteen

pub low_of : (s : ℕ) (e : Server) → CanCall s e → 1 ≤ s
low_of zero e can = absurd (omega (arith, can.begun))
low_of (suc i) e can = omega arith

pub high_of : (s : ℕ) (e : Server) → CanCall s e → s ≤ 16
high_of zero e can = omega arith
high_of (suc i) e can = by_test (nat_le 16 i) refl
  where
    by_test : (test : Bool) → nat_le 16 i ≡ test → suc i ≤ 16
    by_test false is = let less : i < 16 = grind (arith, nat_tests, is) in omega (arith, less)
    by_test true is =
        let more : 16 ≤ i = grind (arith, nat_tests, is) in
        let past : length (xacts_of e).levels ≤ i = subst (λ (n : ℕ). n ≤ i) (sym can.sound.sixteen_levels) more in
        let none : names_in e (suc i) ≡ [] = get_or_past (xacts_of e).levels i [] past in
        let begun : 0 < length {A = Option (List ℕ)} [] = subst (λ (names : List (Option (List ℕ))). 0 < length names) none can.begun in
        absurd (omega (arith, begun))

-- the server with other transactions and tables
abbrev pub with_tables : Server → Core → Tables → Server
with_tables e core ts = record {
  alloc = e.alloc;
  core = core;
  store = e.store;
  tables = ts;
  sessions = e.sessions;
  variables = e.variables;
  failed = e.failed;
  undos = e.undos;
}

-- what a call leaves of its world, whatever it answers
pub record Carries (old new : World) : Type 0 where
  pub others : HoldsOthers old.xacts new.xacts
  pub whole : HoldsWholeViews new.xacts
  pub holds : HoldsRest old.xacts.held new.xacts.held old.tables.cursors new.tables.cursors
  pub own : All HoldsOwn new.tables.cursors.entries.items
  pub named : All (calls.HasTable new.tables) new.tables.cursors.entries.items
  pub others_cursors : (t : ℕ) → t ≢ old.session → cursors_of t new.tables.cursors ≡ cursors_of t old.tables.cursors

pub carries : (old new : World) → calls.Keeps old new → Carries old new
carries old new keeps = record { others = keeps.others; whole = keeps.ready.whole; holds = keeps.holds; own = keeps.ready.cursors.own; named = keeps.ready.named; others_cursors = keeps.cursors }

module _ (s : ℕ) (low : 1 ≤ s) (high : s ≤ 16) (old : Server) (can : CanCall s old) (core : Core) (ts : Tables) where
  abbrev x' : Transactions
  x' = core.xacts

  abbrev new : Server
  new = with_tables old core ts

  abbrev before : World
  before = world (xacts_of old) old.tables s

  abbrev after : World
  after = world x' ts s

  -- the server keeps what it keeps

  module _ (keeps : Carries before after) where
    names : (t : ℕ) → names_in new t ≡ names_in old t
    names t = ap (λ (x : Transactions). levels_of x t) keeps.others.rest

    held_after : IsPermutation x'.held (all_holds old.sessions.items ++ cursor_holds (cursors_in ts))
    held_after =
        let first = IsPermutation-trans (xacts_of old).held (all_holds old.sessions.items ++ cursor_holds (cursors_in old.tables)) (cursor_holds (cursors_in old.tables) ++ all_holds old.sessions.items) can.sound.held (IsPermutation-append_comm (all_holds old.sessions.items) (cursor_holds (cursors_in old.tables))) in
        IsPermutation-trans x'.held (cursor_holds (cursors_in ts) ++ all_holds old.sessions.items) (all_holds old.sessions.items ++ cursor_holds (cursors_in ts)) (keeps.holds.rest (all_holds old.sessions.items) first) (IsPermutation-append_comm (cursor_holds (cursors_in ts)) (all_holds old.sessions.items))

    pub table_sound : IsServer new
    table_sound = record {
      goes = go_held (xacts_of old) x' old.store.pages keeps.others can.sound.goes;
      whole = keeps.whole;
      counter = can.sound.counter;
      undos = can.sound.undos ∙ sym (ap (λ (x : Transactions). x.undos) keeps.others.rest);
      flags = can.sound.flags;
      sixteen = can.sound.sixteen;
      sixteen_lists = can.sound.sixteen_lists;
      sixteen_levels = ap (λ (x : Transactions). length x.levels) keeps.others.rest ∙ can.sound.sixteen_levels;
      placed = can.sound.placed;
      held = held_after;
      own = keeps.own;
      numbered = λ t out. keeps.others_cursors t (λ is. let far : 16 < t = out (omega (arith, is, low)) in omega (arith, is, high, far)) ∙ can.sound.numbered t out;
      named = λ t. own_named (tables_in ts) t (cursors_in ts).entries.items keeps.named;
      first = λ t. subst IsFirst (sym (names t)) (can.sound.first t);
    }

    -- what it has then

    module _ (ys : List (Edit Deed)) (shared : Shared) (sessions : ℕ → Session) (variables : ℕ → List Variable) (finds : Finds s old ys shared sessions variables) where
      abbrev inner : Here
      inner = here_in s old ys shared sessions variables

      module _ (row : Row) (given : tables.Here → tables.Row) (match : IsMatch inner row (given (later_here inner))) where
        abbrev outer : tables.Row
        outer = given (here_of before ys)

        abbrev same : tables.Row → Type 0
        same one = outer ≡ one

        is_later : outer ≡ given (later_here inner)
        is_later = ap given (reads_later s old ys shared sessions variables low high finds)

        maker : IsMaker x' s
        maker = record { number = low; some = subst (λ (all : List (Option (List ℕ))). 0 < length all) (sym (names s)) can.begun; whole = keeps.whole }

        clock_same : x'.clock ≡ clock_of old
        clock_same = ap (λ (x : Transactions). x.clock) keeps.others.rest

        abbrev made : List (Edit Deed)
        made = edits_by (clock_of old) (Running s (length (names_in old s))) row.granted.deeds

        own_session : HasSession old s (sessions s) → cursors_of s (cursors_in ts) ≡ (given (later_here inner)).granted.cursors → HasSession new s (session_by true row.granted (sessions s))
        own_session had cursors = record {
          levels = names s ∙ had.levels;
          failed = had.failed;
          descriptors = λ own is. had.descriptors own is ∙ sym (ap all_later match.descriptors);
          cursors = cursors ∙ match.cursors;
          leveled = match.leveled can.begun had.leveled;
        }

        other_session : (t : ℕ) → t ≢ s → HasSession old t (sessions t) → HasSession new t (sessions t)
        other_session t other had = record {
          levels = names t ∙ had.levels;
          failed = had.failed;
          descriptors = had.descriptors;
          cursors = keeps.others_cursors t other ∙ had.cursors;
          leveled = had.leveled;
        }

        sessions_after : cursors_of s (cursors_in ts) ≡ (given (later_here inner)).granted.cursors → HasSessions new (with_session_at s (session_by true row.granted (sessions s)) sessions)
        sessions_after cursors t low' high' = elim (cases_eq t s) [
          | inl here ↦
              let test : (t == s) ≡ true = grind (arith, nat_tests, here) in
              rw test (subst (λ (n : ℕ). HasSession new n (session_by true row.granted (sessions s))) (sym here) (own_session (finds.has.sessions s low high) cursors))
          | inr other ↦
              let test : (t == s) ≡ false = grind (arith, nat_tests, other) in
              rw test (other_session t other (finds.has.sessions t low' high'))
        ]

        pages_after : first_of (given (later_here inner)).refusals ≡ None → StandFor x' old.store.pages (ys ++ made)
        pages_after none =
            let stood = stand_held (xacts_of old) x' old.store.pages ys keeps.others finds.has.edits in
            let stand = match.pages x' old.store.pages maker none stood in
            let levels : length (levels_of x' s) ≡ length (names_in old s) = ap length (names s) in
            subst (λ (ds : List Deed). StandFor x' old.store.pages (ys ++ edits_by (clock_of old) (Running s (length (names_in old s))) ds)) (sym match.deeds)
            (subst (λ (n : ℕ). StandFor x' old.store.pages (ys ++ edits_by (clock_of old) (Running s n) (given (later_here inner)).granted.deeds)) levels
            (subst (λ (c : ℕ). StandFor x' old.store.pages (ys ++ edits_by c (Running s (length (levels_of x' s))) (given (later_here inner)).granted.deeds)) clock_same stand))

        granted_by : (reply : Reply) → calls.IsGranted (given (later_here inner)) before after reply ys → IsGranted s row old new reply ys sessions variables
        granted_by reply granted = record {
          unrefused = match.refusals ∙ granted.unrefused;
          answer = granted.answer ∙ sym match.reply;
          has = record {
            edits = pages_after granted.unrefused;
            rows = subst (λ (ds : List Deed). standing.StandFor x' ts (ys ++ edits_by (clock_of old) (Running s (length (names_in old s))) ds)) (sym match.deeds) granted.edits;
            counter = finds.has.counter ∙ sym match.counter;
            tables = granted.tables ∙ sym match.tables;
            sessions = sessions_after granted.cursors;
          };
          arrays = record { each = λ t own low' high' is. subst (IsAs own) (sym (same_variables' t)) (finds.arrays.each t own low' high' is) };
        }
          where
            same_variables' : (t : ℕ) → with_variables_at s row.granted.variables variables t ≡ variables t
            same_variables' t = ap (λ (own : List Variable). with_variables_at s own variables t) match.variables ∙ same_variables s variables t

  -- one that leaves transactions, tables and cursors as they were, beside versions of rows

  module _ (xacts : x' ≡ xacts_of old) (catalog : ts.catalog ≡ old.tables.catalog) (entries : ts.cursors.entries.items ≡ old.tables.cursors.entries.items) where
    pub carries_same : Carries before after
    carries_same =
        let ready = is_ready s old can in
        record {
          others = subst (HoldsOthers (xacts_of old)) (sym xacts) (same_holds (xacts_of old));
          whole = subst HoldsWholeViews (sym xacts) can.sound.whole;
          holds = subst (λ (x : Transactions). HoldsRest (xacts_of old).held x.held old.tables.cursors ts.cursors) (sym xacts) (same_rest (xacts_of old) old.tables.cursors ts.cursors entries);
          own = subst (All HoldsOwn) (sym entries) can.sound.own;
          named = same_named old.tables ts catalog entries ready.named;
          others_cursors = λ t other. ap (own_cursors t) entries;
        }

    views_same : length (kept_views x') ≤ length (kept_views (xacts_of old)) + 1
    views_same = let same : length (kept_views x') ≡ length (kept_views (xacts_of old)) = ap (λ (x : Transactions). length (kept_views x)) xacts in omega (arith, same)

    sessions_same : (sessions : ℕ → Session) → HasSessions old sessions → HasSessions new sessions
    sessions_same sessions had t low' high' = record {
      levels = ap (λ (x : Transactions). levels_of x t) xacts ∙ (had t low' high').levels;
      failed = (had t low' high').failed;
      descriptors = (had t low' high').descriptors;
      cursors = ap (own_cursors t) entries ∙ (had t low' high').cursors;
      leveled = (had t low' high').leveled;
    }

  variables_same : (variables : ℕ → List Variable) → HasVariables old variables → HasVariables new variables
  variables_same variables had = record { each = had.each }

  pub stays_as : x' ≡ xacts_of old → ts ≡ old.tables → Stays old new
  stays_as xacts same = record {
    has = λ ys shared sessions had. record {
      edits = subst (λ (x : Transactions). StandFor x old.store.pages ys) (sym xacts) had.edits;
      rows = subst (λ (x : Transactions). standing.StandFor x ts ys) (sym xacts) (subst (λ (t : Tables). standing.StandFor (xacts_of old) t ys) (sym same) had.rows);
      counter = had.counter;
      tables = ap tables_in same ∙ had.tables;
      sessions = sessions_same xacts (ap (λ (t : Tables). t.catalog) same) (ap (λ (t : Tables). t.cursors.entries.items) same) sessions had.sessions;
    };
    variables = variables_same;
    rows = subst (λ (x : Transactions). standing.GoWith x ts) (sym xacts) (subst (standing.GoWith (xacts_of old)) (sym same) can.rows);
  }

  module _ (row : Here → Row) (given : tables.Here → tables.Row) (matches : Matches s old row given) where
    later_given : (ys : List (Edit Deed)) (shared : Shared) (sessions : ℕ → Session) (variables : ℕ → List Variable) → Finds s old ys shared sessions variables → given (here_of before ys) ≡ given (later_here (here_in s old ys shared sessions variables))
    later_given ys shared sessions variables finds = ap given (reads_later s old ys shared sessions variables low high finds)

    pub table_ok : (reply : Reply) → calls.Grants given before after reply → calls.Keeps before after → AnswersCall s row old new (Ok reply)
    table_ok reply grants keeps = record {
      sound = table_sound (carries before after keeps);
      xacts = keeps.others;
      views = keeps.views;
      ok = record {
        granted = λ ys shared sessions variables finds. granted_by (carries before after keeps) ys shared sessions variables finds (row (here_in s old ys shared sessions variables)) given (matches ys shared sessions variables finds) reply
            (subst (λ (one : tables.Row). calls.IsGranted one before after reply ys) (later_given ys shared sessions variables finds) (grants.granted ys finds.has.rows));
        rows = keeps.ready.goes;
      };
      err = tt;
    }

    first_by : (r : Refusal) → calls.Refuses given before after r → (ys : List (Edit Deed)) (shared : Shared) (sessions : ℕ → Session) (variables : ℕ → List Variable) → Finds s old ys shared sessions variables → pages.first_of (row (here_in s old ys shared sessions variables)).refusals ≡ Some r
    first_by r refuses ys shared sessions variables finds =
        (matches ys shared sessions variables finds).refusals
        ∙ (ap (λ (one : tables.Row). first_of one.refusals) (sym (later_given ys shared sessions variables finds)) ∙ refuses.first ys finds.has.rows)

    table_denied : (denied : Denied) → calls.Denies given before after denied → Denies s row old new denied
    table_denied (By r) refuses = record { first = first_by r refuses; stays = stays_as (ap (λ (w : World). w.xacts) refuses.same) (ap (λ (w : World). w.tables) refuses.same) }
    table_denied NoMemory none = record {
      pages = left_none (xacts_of old) s old.store.pages;
      tables = none.left;
      go = none.stores;
      counter = refl;
      sessions = sessions_same none.xacts none.left.catalog none.left.cursors;
      variables = variables_same;
      xacts = none.xacts;
    }

    denied_xacts : (denied : Denied) → calls.Denies given before after denied → x' ≡ xacts_of old
    denied_xacts (By r) refuses = ap (λ (w : World). w.xacts) refuses.same
    denied_xacts NoMemory none = none.xacts

    denied_catalog : (denied : Denied) → calls.Denies given before after denied → ts.catalog ≡ old.tables.catalog
    denied_catalog (By r) refuses = ap (λ (w : World). w.tables.catalog) refuses.same
    denied_catalog NoMemory none = none.left.catalog

    denied_entries : (denied : Denied) → calls.Denies given before after denied → ts.cursors.entries.items ≡ old.tables.cursors.entries.items
    denied_entries (By r) refuses = ap (λ (w : World). w.tables.cursors.entries.items) refuses.same
    denied_entries NoMemory none = none.left.cursors

    pub table_err : (denied : Denied) → calls.Denies given before after denied → AnswersCall s row old new (Err denied)
    table_err denied denies =
        let carries = carries_same (denied_xacts denied denies) (denied_catalog denied denies) (denied_entries denied denies) in
        record {
          sound = table_sound carries;
          xacts = carries.others;
          views = views_same (denied_xacts denied denies) (denied_catalog denied denies) (denied_entries denied denies);
          ok = tt;
          err = table_denied denied denies;
        }

-- the answers of a call

module _ (s : ℕ) (old : Server) (can : CanCall s old) (core : Core) (ts : Tables) (row : Here → Row) (given : tables.Here → tables.Row) (matches : Matches s old row given) where
  pub call_ok : (reply : Reply) → calls.Grants given (world (xacts_of old) old.tables s) (world core.xacts ts s) reply → calls.Keeps (world (xacts_of old) old.tables s) (world core.xacts ts s) → AnswersCall s row old (with_tables old core ts) (Ok reply)
  call_ok = table_ok s (low_of s old can) (high_of s old can) old can core ts row given matches

  pub call_err : (denied : Denied) → calls.Denies given (world (xacts_of old) old.tables s) (world core.xacts ts s) denied → AnswersCall s row old (with_tables old core ts) (Err denied)
  call_err = table_err s (low_of s old can) (high_of s old can) old can core ts row given matches

  -- where it makes no edits

  pub call_reads : (reply : Reply) → calls.Grants given (world (xacts_of old) old.tables s) (world core.xacts ts s) reply → calls.Keeps (world (xacts_of old) old.tables s) (world core.xacts ts s) → ReadsCall s row old (with_tables old core ts) (Ok reply)
  call_reads reply grants keeps = record { answers = call_ok reply grants keeps; stays = tt }

  pub call_refuses : (r : Refusal) → calls.Refuses given (world (xacts_of old) old.tables s) (world core.xacts ts s) r → ReadsCall s row old (with_tables old core ts) (Err (By r))
  call_refuses r refuses = record {
    answers = call_err (By r) refuses;
    stays = stays_as s (low_of s old can) (high_of s old can) old can core ts (ap (λ (w : World). w.xacts) refuses.same) (ap (λ (w : World). w.tables) refuses.same);
  }

-- a call that leaves the server

abbrev pub Reading : tables.Here → tables.Row → Type 0
Reading here row = (row.granted.deeds ≡ []) × (row.granted.tables ≡ here.tables) × (row.granted.cursors ≡ here.cursors)

pub record IsReading (given : tables.Here → tables.Row) : Type 0 where
  pub leaves : (here : tables.Here) → Reading here (given here)

pub keeps_same : (w : World) → calls.IsReady w → calls.Keeps w w
keeps_same w ready = record { ready = ready; session = refl; cursors = λ t other. refl; others = same_holds w.xacts; holds = record { rest = λ others all. all }; views = omega arith }

module _ (s : ℕ) (old : Server) (can : CanCall s old) (row : Here → Row) (given : tables.Here → tables.Row) (matches : Matches s old row given) where
  abbrev here_now : World
  here_now = world (xacts_of old) old.tables s

  pub same_ok : (reply : Reply) → calls.Grants given here_now here_now reply → ReadsCall s row old (with_tables old old.core old.tables) (Ok reply)
  same_ok reply grants = record { answers = call_ok s old can old.core old.tables row given matches reply grants (keeps_same here_now (is_ready s old can)); stays = tt }

  pub same_err : (denied : Denied) → calls.Denies given here_now here_now denied → ReadsCall s row old (with_tables old old.core old.tables) (Err denied)
  same_err denied denies = record { answers = call_err s old can old.core old.tables row given matches denied denies; stays = stays_as s (low_of s old can) (high_of s old can) old can old.core old.tables refl refl }

  pub tells_ok : IsReading given → (reply : Reply) → calls.Tells given here_now (current (xacts_of old) s) reply → ReadsCall s row old (with_tables old old.core old.tables) (Ok reply)
  tells_ok reading reply tells = same_ok reply (record {
    granted = λ ys stand. record {
      unrefused = tells.unrefused ys stand;
      answer = tells.answer ys stand;
      edits = subst (λ (ds : List Deed). standing.StandFor (xacts_of old) old.tables (ys ++ edits_by (clock_of old) (Running s (length (names_in old s))) ds)) (sym (reading.leaves (here_of here_now ys)).0) (subst (standing.StandFor (xacts_of old) old.tables) (sym (append-nil ys)) stand);
      tables = sym (reading.leaves (here_of here_now ys)).1;
      cursors = sym (reading.leaves (here_of here_now ys)).2;
    };
  })

  pub tells_err : (denied : Denied) → calls.RefusesIn given here_now (current (xacts_of old) s) denied → ReadsCall s row old (with_tables old old.core old.tables) (Err denied)
  tells_err (By r) refuses = same_err (By r) (record { first = refuses; same = refl })
  tells_err NoMemory none = same_err NoMemory (record { left = leaves_none (xacts_of old) s old.tables; stores = can.rows.stores; xacts = refl })

  pub finds_none : ReadsCall s row old (with_tables old old.core old.tables) (Err NoMemory)
  finds_none = same_err NoMemory (record { left = leaves_none (xacts_of old) s old.tables; stores = can.rows.stores; xacts = refl })
