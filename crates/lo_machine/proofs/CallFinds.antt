-- What a call finds in a server that stands for a state: at the session's top level, or in a level that was opened for it.
use Rattle.std.proofs.Common.{◌≡◌, ◌≤◌, ℕ, ◌-◌, Bool, true, false, List, [], ◌∷◌, length, Option, Some, refl, ap, sym, subst, ◌∙◌, arith, inl, inr}
use Rattle.std.specs.Prelude.{All, cond, not, ◌==◌, ◌&&◌, slice_get}
use Rattle.std.proofs.lemmas.Bool.{cases_eq}
use Rattle.std.proofs.lemmas.Bool.Decides.{nat_tests}
use Rattle.std.specs.List.{find}
use Rattle.std.specs.declared.alloc.Global.{Global}
use Rattle.std.specs.declared.vec.Vec.{Vec}
use Rattle.lo_calls.specs.declared.store.LoStore.{LoStore}
use Rattle.lo_model.specs.Descriptor.{Cursor, Descriptor}
use Rattle.lo_model.specs.Edit.{Deed, Edit}
use Rattle.lo_model.specs.Levels.{undone}
use Rattle.lo_model.specs.Session.{Session, lowest_open, session_numbers}
use Rattle.lo_model.specs.Transaction.{is_open, top_level}
use Rattle.lo_pages.specs.Outcome as pages
use Rattle.lo_pages.specs.Standing.{StandFor}
use Rattle.row_tables.specs.Standing as tables
use Rattle.row_tables.specs.World as calls
use Rattle.xact_core.specs.Kept.{HoldsOthers}
use Rattle.xact_core.specs.Transactions.{Transactions, levels_of}
use Rattle.lo_machine.specs.declared.server.Server.{Server}
use Rattle.lo_machine.specs.declared.variables.Variables.{Variables}
use Rattle.lo_machine.specs.Alike.{SeesNone, ReadsNone}
use Rattle.lo_machine.specs.CallRows.{Shared, shared_of, here_at, here}
use Rattle.lo_machine.specs.Dispatch.{Finds, here_in, Stays, FindsNoMemory}
use Rattle.lo_machine.specs.Server.{xacts_of, clock_of, names_in, HasRows, HasSession, Has, HasVariables, with_variables_at, StandsFor, Becomes, Loses}
use Rattle.lo_machine.specs.Later.{with_session_at}
use Rattle.lo_machine.specs.Moves.{unturned, session_opened}
use Rattle.lo_machine.specs.State.{State, Variable, now, edits, session_of, variables_of}
use Rattle.lo_machine.specs.Variables.{IsAs}
use Rattle.lo_machine.specs.Well.{IsSession}
use Rattle.lo_machine.proofs.CallLevels.{at_level}
use Rattle.lo_machine.proofs.Readings.{past_later, kept_later, cursors_later}
use Rattle.lo_machine.proofs.WellEdits.{own_session}

-- whether another session has a transaction does not depend on this one

find_same : (p q : ℕ → Bool) → ((n : ℕ) → p n ≡ q n) → (ns : List ℕ) → find p ns ≡ find q ns
find_same p q same [] = refl
find_same p q same (n ∷ ns) = ap (λ (b : Bool). cond b (Some n) (find p ns)) (same n) ∙ ap (λ (rest : Option ℕ). cond (q n) (Some n) rest) (find_same p q same ns)

pub lowest_same : (s : ℕ) (session : Session) (sessions : ℕ → Session) → lowest_open s (with_session_at s session sessions) ≡ lowest_open s sessions
lowest_same s session sessions = find_same (λ t. not (t == s) && is_open (with_session_at s session sessions t).transaction) (λ t. not (t == s) && is_open (sessions t).transaction) same session_numbers
  where
    same : (t : ℕ) → (not (t == s) && is_open (with_session_at s session sessions t).transaction) ≡ (not (t == s) && is_open (sessions t).transaction)
    same t = by (t == s) refl
      where
        by : (b : Bool) → (t == s) ≡ b → (not (t == s) && is_open (with_session_at s session sessions t).transaction) ≡ (not (t == s) && is_open (sessions t).transaction)
        by true is = rw is refl
        by false is = rw is refl

-- an entry set, and set again
pub set_again : (s : ℕ) (first second : Session) (sessions : ℕ → Session) (t : ℕ) → with_session_at s second (with_session_at s first sessions) t ≡ with_session_at s second sessions t
set_again s first second sessions t = by (t == s) refl
  where
    by : (b : Bool) → (t == s) ≡ b → with_session_at s second (with_session_at s first sessions) t ≡ with_session_at s second sessions t
    by true is = rw is refl
    by false is = rw is refl

-- the same edits, the same that is shared, and the same sessions, one by one
pub has_same : (e : Server) (ys ys' : List (Edit Deed)) (shared shared' : Shared) (sessions sessions' : ℕ → Session) → ys ≡ ys' → shared ≡ shared' → ((t : ℕ) → sessions t ≡ sessions' t) → Has e ys shared sessions → Has e ys' shared' sessions'
has_same e ys ys' shared shared' sessions sessions' are equal same has = subst (λ (zs : List (Edit Deed)). Has e zs shared' sessions') are (subst (λ (one : Shared). Has e ys one sessions') equal record {
  edits = has.edits;
  rows = has.rows;
  counter = has.counter;
  tables = has.tables;
  sessions = λ t low high. subst (HasSession e t) (same t) (has.sessions t low high);
})

-- a server with the same variables
pub variables_kept : (old new : Server) (variables : ℕ → List Variable) → new.variables ≡ old.variables → HasVariables old variables → HasVariables new variables
variables_kept old new variables same has = record {
  each = λ s own low high is. has.each s own low high (ap (λ (lists : Vec Variables Global). slice_get lists.items (s - 1)) (sym same) ∙ is);
}

-- and one session's variables again

variables_again : (s : ℕ) (variables : ℕ → List Variable) (t : ℕ) → with_variables_at s (variables s) variables t ≡ variables t
variables_again s variables t = elim (cases_eq t s) [
  | inl is ↦
      let test : (t == s) ≡ true = grind (arith, nat_tests, is) in
      rw test (ap variables (sym is))
  | inr other ↦
      let test : (t == s) ≡ false = grind (arith, nat_tests, other) in
      rw test refl
]

pub same_variables : (e : Server) (s : ℕ) (variables : ℕ → List Variable) → HasVariables e variables → HasVariables e (with_variables_at s (variables s) variables)
same_variables e s variables has = record { each = λ t own low high is. subst (λ (vs : List Variable). IsAs own vs) (sym (variables_again s variables t)) (has.each t own low high is) }

-- what holds of transactions of which other views are held

pub clock_kept : (old new : Transactions) → HoldsOthers old new → new.clock ≡ old.clock
clock_kept old new holds = ap (λ (x : Transactions). x.clock) holds.rest

pub levels_kept : (old new : Transactions) → HoldsOthers old new → (s : ℕ) → levels_of new s ≡ levels_of old s
levels_kept old new holds s = ap (λ (x : Transactions). levels_of x s) holds.rest

-- a call that changed nothing
pub still_stands : (old new : Server) (st : State) → Stays old new → HoldsOthers (xacts_of old) (xacts_of new) → StandsFor old st → StandsFor new st
still_stands old new st stays holds stands = record {
  time = clock_kept (xacts_of old) (xacts_of new) holds ∙ stands.time;
  has = stays.has (edits st) (shared_of st.database) (session_of st) stands.has;
  variables = stays.variables (variables_of st) stands.variables;
  well = stands.well;
  fit = stands.fit;
}

-- What a call that found no memory left is lost with its level.
module _ (s level : ℕ) (e1 e2 e3 : Server) (is_level : level ≡ length (names_in e1 s)) (lacks : FindsNoMemory s e1 e2) (names : List (Option (List ℕ))) (after : Session → Session) (undoes : Becomes s names (undone s level) after e2 e3) (loses : Loses s level e2 e3) where
  level_still : level ≡ length (names_in e2 s)
  level_still = is_level ∙ ap (λ (x : Transactions). length (levels_of x s)) (sym lacks.xacts)

  pages_left : pages.LeavesOwn (xacts_of e2) s e1.store.pages e2.store.pages
  pages_left = subst (λ (x : Transactions). pages.LeavesOwn x s e1.store.pages e2.store.pages) (sym lacks.xacts) lacks.pages

  tables_left : calls.LeavesOwn (xacts_of e2) s e1.tables e2.tables
  tables_left = subst (λ (x : Transactions). calls.LeavesOwn x s e1.tables e2.tables) (sym lacks.xacts) lacks.tables

  pub lost_has : (ys : List (Edit Deed)) (shared : Shared) (sessions : ℕ → Session) → Has e1 ys shared sessions → Has e3 (undone s level ys) shared (with_session_at s (after (sessions s)) sessions)
  lost_has ys shared sessions has = record {
    edits = loses.pages e1.store.pages ys level_still pages_left (subst (λ (x : Transactions). StandFor x e1.store.pages ys) (sym lacks.xacts) has.edits);
    rows = loses.rows e1.tables ys level_still tables_left lacks.go (subst (λ (x : Transactions). tables.StandFor x e1.tables ys) (sym lacks.xacts) has.rows);
    counter = ap (λ (store : LoStore). store.counter) undoes.store ∙ (lacks.counter ∙ has.counter);
    tables = undoes.tables ∙ (lacks.tables.catalog ∙ has.tables);
    sessions = undoes.sessions sessions (lacks.sessions sessions has.sessions);
  }

  pub lost_rows : HasRows e1 → HasRows e3
  lost_rows rows = loses.goes e1.tables level_still tables_left lacks.go (subst (λ (x : Transactions). tables.GoWith x e1.tables) (sym lacks.xacts) rows)

  pub lost_variables : (variables : ℕ → List Variable) → HasVariables e1 variables → HasVariables e3 variables
  lost_variables variables has = variables_kept e2 e3 variables undoes.variables (lacks.variables variables has)

module _ (s : ℕ) (low : 1 ≤ s) (high : s ≤ 16) (e0 : Server) (st : State) (stands : StandsFor e0 st) where
  abbrev pub mine : Session
  mine = session_of st s

  pub well : IsSession (now st) (edits st) mine
  well = stands.well.well.each s

  quiet_now : SeesNone (edits st) (now st)
  quiet_now = past_later (now st) (session_of st) (edits st) stands.well.well.past

  quiet_kept : All (λ (d : Descriptor). ReadsNone (edits st) d.reading) mine.descriptors
  quiet_kept = kept_later (now st) (top_level mine.transaction) (edits st) mine.descriptors well.descriptors

  quiet_cursors : All (λ (c : Cursor). SeesNone (edits st) c.clock) mine.cursors
  quiet_cursors = cursors_later (now st) (top_level mine.transaction) (edits st) mine.cursors well.cursors

  -- at the top level, or outside a block

  pub top_same : length (names_in e0 s) ≡ top_level mine.transaction
  top_same = ap length (stands.has.sessions s low high).levels

  pub finds : Finds s e0 (edits st) (shared_of st.database) (session_of st) (variables_of st)
  finds = record {
    has = stands.has;
    arrays = stands.variables;
    views = subst (SeesNone (edits st)) (sym stands.time) quiet_now;
    kept = quiet_kept;
    cursors = quiet_cursors;
    flat = stands.well.flat;
  }

  pub here_same : here_in s e0 (edits st) (shared_of st.database) (session_of st) (variables_of st) ≡ here st s
  here_same =
      ap (λ (time : ℕ). here_at time s (length (names_in e0 s)) (lowest_open s (session_of st)) (edits st) (shared_of st.database) mine (variables_of st s)) stands.time
      ∙ ap (λ (level : ℕ). here_at (now st) s level (lowest_open s (session_of st)) (edits st) (shared_of st.database) mine (variables_of st s)) top_same

  -- in a level that was opened
  module _ (name : Option (List ℕ)) (left : List (Option (List ℕ))) (e1 : Server) (opens : Becomes s left unturned (session_opened name) e0 e1) where
    abbrev pub opened : Session
    opened = session_opened name mine

    abbrev pub sessions1 : ℕ → Session
    sessions1 = with_session_at s opened (session_of st)

    pub has_opened : Has e1 (edits st) (shared_of st.database) sessions1
    has_opened = opens.has (edits st) (shared_of st.database) (session_of st) stands.has

    pub time_opened : clock_of e1 ≡ now st
    time_opened = opens.time ∙ stands.time

    pub variables_opened : HasVariables e1 (variables_of st)
    variables_opened = variables_kept e0 e1 (variables_of st) opens.variables stands.variables

    pub finds_opened : Finds s e1 (edits st) (shared_of st.database) sessions1 (variables_of st)
    finds_opened = record {
      has = has_opened;
      arrays = variables_opened;
      views = subst (SeesNone (edits st)) (sym time_opened) quiet_now;
      kept = subst (λ (session : Session). All (λ (d : Descriptor). ReadsNone (edits st) d.reading) session.descriptors) (sym (own_session s opened (session_of st))) quiet_kept;
      cursors = subst (λ (session : Session). All (λ (c : Cursor). SeesNone (edits st) c.clock) session.cursors) (sym (own_session s opened (session_of st))) quiet_cursors;
      flat = stands.well.flat;
    }

    pub here_opened : here_in s e1 (edits st) (shared_of st.database) sessions1 (variables_of st) ≡ at_level (length (names_in e1 s)) (here st s)
    here_opened =
        ap (λ (time : ℕ). here_at time s (length (names_in e1 s)) (lowest_open s sessions1) (edits st) (shared_of st.database) (sessions1 s) (variables_of st s)) time_opened
        ∙ (ap (λ (other : Option ℕ). here_at (now st) s (length (names_in e1 s)) other (edits st) (shared_of st.database) (sessions1 s) (variables_of st s)) (lowest_same s opened (session_of st))
        ∙ ap (λ (session : Session). here_at (now st) s (length (names_in e1 s)) (lowest_open s (session_of st)) (edits st) (shared_of st.database) session (variables_of st s)) (own_session s opened (session_of st)))
