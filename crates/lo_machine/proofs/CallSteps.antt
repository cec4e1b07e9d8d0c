-- What a call of a session on large objects makes of what a server has, in the words of its row. Tables and variables are as
-- they were, and rows stand for the edits of objects, too.
use Rattle.std.proofs.Common.{◌≡◌, ◌≢◌, ◌≤◌, ℕ, ◌-◌, true, false, List, ◌++◌, length, Some, refl, ap, sym, subst, ◌∙◌, arith, inl, inr}
use Rattle.std.specs.Prelude.{◌==◌, All, slice_get}
use Rattle.std.proofs.lemmas.Bool.{cases_eq}
use Rattle.std.proofs.lemmas.Option.{same_Some}
use Rattle.std.proofs.lemmas.Bool.Decides.{nat_tests}
use Rattle.lo_base.specs.declared.refusal.Denied.{Denied}
use Rattle.lo_base.specs.declared.refusal.Denied.TheVariants.{By, NoMemory}
use Rattle.lo_base.specs.declared.refusal.Refusal.{Refusal}
use Rattle.lo_base.specs.declared.reply.Reply.{Reply}
use Rattle.lo_calls.specs.declared.session.LoSession.{LoSession}
use Rattle.lo_calls.specs.declared.store.LoStore.{LoStore}
use Rattle.lo_calls.specs.Descriptors.{descriptors_of}
use Rattle.lo_calls.specs.Row as objects
use Rattle.lo_calls.specs.World as lo_calls
use Rattle.lo_calls.specs.World.{World, world, here_of}
use Rattle.lo_model.specs.declared.owner.Owner.TheVariants.{Running}
use Rattle.lo_model.specs.Edit.{Deed, Edit, edits_by}
use Rattle.lo_model.specs.Session.{Session}
use Rattle.lo_pages.specs.Outcome.{LeavesOwn, first_of}
use Rattle.lo_pages.specs.Standing.{StandFor}
use Rattle.row_tables.specs.declared.tables.Tables.{Tables}
use Rattle.row_tables.specs.Cursors.{cursors_of}
use Rattle.row_tables.specs.Standing as tables
use Rattle.row_tables.specs.World as calls
use Rattle.row_tables.proofs.Laws.{with_held}
use Rattle.row_tables.proofs.Resting.{for_held}
use Rattle.row_tables.proofs.StoringRows.{leaves_none}
use Rattle.xact_core.specs.Transactions.{Transactions, levels_of}
use Rattle.lo_machine.specs.declared.server.Server.{Server}
use Rattle.lo_machine.specs.Alike.{IsSameRow}
use Rattle.lo_machine.specs.CallRows.{Shared, session_by}
use Rattle.lo_machine.specs.Dispatch.{Denies, Finds, Grants, IsGranted, Stays, here_in}
use Rattle.lo_machine.specs.Server.{xacts_of, clock_of, names_in, Has, HasRows, HasSession, HasSessions, HasVariables, IsLeveled, with_variables_at}
use Rattle.lo_machine.specs.Later.{all_later, all_later_cursors, with_session_at}
use Rattle.lo_machine.specs.Row.{objects_here, on_objects}
use Rattle.lo_machine.specs.State.{Variable}
use Rattle.lo_machine.specs.Variables.{IsAs}
use Rattle.lo_machine.proofs.CallsKept.{IsCall, own_number, same_names, stands_after, stands_beside}
use Rattle.lo_machine.proofs.ObjectDeeds.{rows_rest}
use Rattle.lo_machine.proofs.RowsAlike.{IsObjectsRow}

-- the same sessions, one by one
pub has_as : (e : Server) (ys : List (Edit Deed)) (shared : Shared) (sessions sessions' : ℕ → Session) → ((t : ℕ) → sessions t ≡ sessions' t) → Has e ys shared sessions → Has e ys shared sessions'
has_as e ys shared sessions sessions' same has = record {
  edits = has.edits;
  rows = has.rows;
  counter = has.counter;
  tables = has.tables;
  sessions = λ t low high. subst (HasSession e t) (same t) (has.sessions t low high);
}

-- one session's variables are those that they were
pub same_variables : (s : ℕ) (variables : ℕ → List Variable) (t : ℕ) → with_variables_at s (variables s) variables t ≡ variables t
same_variables s variables t = elim (cases_eq t s) [
  | inl same ↦ let test : (t == s) ≡ true = grind (arith, nat_tests, same) in rw test (ap variables (sym same))
  | inr other ↦ let test : (t == s) ≡ false = grind (arith, nat_tests, other) in rw test refl
]

module _ (s : ℕ) (old new : Server) (own own' : LoSession) (call : IsCall s old new own own') where
  abbrev before : World
  before = world (xacts_of old) old.store own

  abbrev after : World
  after = world (xacts_of new) new.store own'

  names : (t : ℕ) → names_in new t ≡ names_in old t
  names = same_names s old new own own' call

  number : own.s ≡ s
  number = own_number s old own call.low call.can.sound call.stood

  -- what the server has of the session then, and of others

  own_session : (session session' : Session) → HasSession old s session → session'.transaction ≡ session.transaction → session'.cursors ≡ session.cursors → descriptors_of own'.descs ≡ all_later session'.descriptors → HasSession new s session'
  own_session session session' had transaction cursors descriptors = record {
    levels = names s ∙ (had.levels ∙ sym (ap (λ (t : _). t.levels) transaction));
    failed = rw call.failed (had.failed ∙ sym (ap (λ (t : _). t.failed) transaction));
    descriptors = λ one is. ap (λ (session : LoSession). descriptors_of session.descs) (same_Some one own' (sym is ∙ stands_after s old new own own' call)) ∙ descriptors;
    cursors = ap (λ (ts : Tables). cursors_of s (tables.cursors_in ts)) call.tables ∙ (had.cursors ∙ sym (ap all_later_cursors cursors));
    leveled = subst (All IsLeveled) (sym cursors) had.leveled;
  }

  other_session : (t : ℕ) → 1 ≤ t → t ≢ s → (session : Session) → HasSession old t session → HasSession new t session
  other_session t low other session had = record {
    levels = names t ∙ had.levels;
    failed = rw call.failed had.failed;
    descriptors = λ one is. had.descriptors one (sym (stands_beside s old new own own' call t low other) ∙ is);
    cursors = ap (λ (ts : Tables). cursors_of t (tables.cursors_in ts)) call.tables ∙ had.cursors;
    leveled = had.leveled;
  }

  sessions_with : (sessions : ℕ → Session) (session' : Session) → HasSessions old sessions → session'.transaction ≡ (sessions s).transaction → session'.cursors ≡ (sessions s).cursors → descriptors_of own'.descs ≡ all_later session'.descriptors → HasSessions new (with_session_at s session' sessions)
  sessions_with sessions session' had transaction cursors descriptors t low high = elim (cases_eq t s) [
    | inl same ↦
        let test : (t == s) ≡ true = grind (arith, nat_tests, same) in
        rw test (subst (λ (n : ℕ). HasSession new n session') (sym same) (own_session (sessions s) session' (had s call.low call.high) transaction cursors descriptors))
    | inr other ↦
        let test : (t == s) ≡ false = grind (arith, nat_tests, other) in
        rw test (other_session t low other (sessions t) (had t low high))
  ]

  sessions_same : descriptors_of own'.descs ≡ descriptors_of own.descs → (sessions : ℕ → Session) → HasSessions old sessions → HasSessions new sessions
  sessions_same descriptors sessions had t low high = elim (cases_eq t s) [
    | inl same ↦
        let mine = had s call.low call.high in
        let theirs = own_session (sessions s) (sessions s) mine refl refl (descriptors ∙ mine.descriptors own call.stood) in
        subst (λ (n : ℕ). HasSession new n (sessions n)) (sym same) theirs
    | inr other ↦ other_session t low other (sessions t) (had t low high)
  ]

  -- tables and variables are as they were

  variables_same : (variables : ℕ → List Variable) → HasVariables old variables → HasVariables new variables
  variables_same variables had = record { each = λ t one low high is. had.each t one low high (ap (λ (lists : _). slice_get lists.items (t - 1)) (sym call.variables) ∙ is) }

  variables_with : (variables : ℕ → List Variable) → HasVariables old variables → HasVariables new (with_variables_at s (variables s) variables)
  variables_with variables had = record { each = λ t one low high is. subst (IsAs one) (sym (same_variables s variables t)) ((variables_same variables had).each t one low high is) }

  rows_go : HasRows new
  rows_go = subst (tables.GoWith (xacts_of new)) (sym call.tables) (with_held old.tables (xacts_of old) (xacts_of new) call.keeps.others call.can.rows)

  rows_stand : (ys : List (Edit Deed)) → tables.StandFor (xacts_of old) old.tables ys → tables.StandFor (xacts_of new) new.tables ys
  rows_stand ys stand = subst (λ (ts : Tables). tables.StandFor (xacts_of new) ts ys) (sym call.tables) (for_held old.tables (xacts_of old) (xacts_of new) ys call.keeps.others stand)

  -- nothing changed but room for descriptors
  pub stays_same : xacts_of new ≡ xacts_of old → new.store ≡ old.store → descriptors_of own'.descs ≡ descriptors_of own.descs → Stays old new
  stays_same xacts store descriptors = record {
    has = λ ys shared sessions had. record {
      edits = subst (λ (x : Transactions). StandFor x new.store.pages ys) (sym xacts) (subst (λ (store : LoStore). StandFor (xacts_of old) store.pages ys) (sym store) had.edits);
      rows = rows_stand ys had.rows;
      counter = ap (λ (store : LoStore). store.counter) store ∙ had.counter;
      tables = ap (λ (ts : Tables). tables.tables_in ts) call.tables ∙ had.tables;
      sessions = sessions_same descriptors sessions had.sessions;
    };
    variables = variables_same;
    rows = rows_go;
  }

  stays_refused : after ≡ before → Stays old new
  stays_refused same = stays_same (ap (λ (w : World). w.xacts) same) (ap (λ (w : World). w.store) same) (ap (λ (w : World). descriptors_of w.session.descs) same)

  module _ (row : objects.Here → objects.Row) (is : IsObjectsRow row) where
    module _ (ys : List (Edit Deed)) (shared : Shared) (sessions : ℕ → Session) (variables : ℕ → List Variable) (finds : Finds s old ys shared sessions variables) where
      abbrev inner : objects.Here
      inner = objects_here (here_in s old ys shared sessions variables)

      same_row : IsSameRow row (here_of before ys) inner
      same_row = is.alike (here_of before ys) inner record {
        now = refl;
        session = number;
        descriptors = (finds.has.sessions s call.low call.high).descriptors own call.stood;
        edits = refl;
        counter = finds.has.counter;
        views = finds.views;
        kept = finds.kept;
      }

      level_same : length (levels_of (xacts_of old) own.s) ≡ length (names_in old s)
      level_same = ap (λ (n : ℕ). length (levels_of (xacts_of old) n)) number

      abbrev made : List (Edit Deed)
      made = edits_by (clock_of old) (Running s (length (names_in old s))) (row inner).granted.deeds

      made_same : edits_by (clock_of old) (Running own.s (length (levels_of (xacts_of old) own.s))) (row (here_of before ys)).granted.deeds ≡ made
      made_same =
          ap (λ (n : ℕ). edits_by (clock_of old) (Running n (length (levels_of (xacts_of old) n))) (row (here_of before ys)).granted.deeds) number
          ∙ ap (edits_by (clock_of old) (Running s (length (names_in old s)))) same_row.deeds

      refused_first : (r : Refusal) → lo_calls.Refuses row before after r → first_of (row inner).refusals ≡ Some r
      refused_first r refuses = ap first_of (sym same_row.refusals) ∙ refuses.first ys finds.has.edits

      granted_by : (reply : Reply) → lo_calls.IsGranted (row (here_of before ys)) before after reply ys → IsGranted s (on_objects row (here_in s old ys shared sessions variables)) old new reply ys sessions variables
      granted_by reply granted = record {
        unrefused = ap first_of (sym same_row.refusals) ∙ granted.unrefused;
        answer = granted.answer ∙ same_row.reply;
        has = record {
          edits = subst (λ (es : List (Edit Deed)). StandFor (xacts_of new) new.store.pages (ys ++ es)) made_same granted.edits;
          rows = rows_rest (xacts_of new) new.tables (clock_of old) (Running s (length (names_in old s))) (row inner).granted.deeds ys (is.deeds inner) (rows_stand ys finds.has.rows);
          counter = granted.counter ∙ same_row.counter;
          tables = ap (λ (ts : Tables). tables.tables_in ts) call.tables ∙ finds.has.tables;
          sessions = sessions_with sessions (session_by true (on_objects row (here_in s old ys shared sessions variables)).granted (sessions s)) finds.has.sessions refl refl (granted.descriptors ∙ same_row.descriptors level_same);
        };
        arrays = variables_with variables finds.arrays;
      }

    pub grants : (reply : Reply) → lo_calls.Grants row before after reply → Grants s (on_objects row) old new reply
    grants reply granted = record {
      granted = λ ys shared sessions variables finds. granted_by ys shared sessions variables finds reply (granted.granted ys finds.has.edits);
      rows = rows_go;
    }

    pub denies : (denied : Denied) → lo_calls.Denies row before after denied → Denies s (on_objects row) old new denied
    denies (By r) refuses = record {
      first = λ ys shared sessions variables finds. refused_first ys shared sessions variables finds r refuses;
      stays = stays_refused refuses.same;
    }
    denies NoMemory none = record {
      pages = subst (λ (n : ℕ). LeavesOwn (xacts_of old) n old.store.pages new.store.pages) number none.pages;
      tables = subst (calls.LeavesOwn (xacts_of old) s old.tables) (sym call.tables) (leaves_none (xacts_of old) s old.tables);
      go = rows_go.stores;
      counter = none.counter;
      sessions = sessions_same none.session.descriptors;
      variables = variables_same;
      xacts = none.xacts;
    }

    -- a call that leaves the store leaves what the server had, where it is denied
    pub stays_denied : new.store ≡ old.store → (denied : Denied) → lo_calls.Denies row before after denied → Stays old new
    stays_denied store (By r) refuses = stays_refused refuses.same
    stays_denied store NoMemory none = stays_same none.xacts store none.session.descriptors
