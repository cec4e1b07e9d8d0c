-- The requests of transaction blocks, and `vacuum`: what a server did is what the row of the request says.
use Rattle.std.proofs.Common.{◌≡◌, ◌≤◌, ◌<◌, ℕ, pos, ◌-◌, Bool, true, false, List, [], ◌∷◌, ◌++◌, length, take, Option, Some, None, refl, ap, sym, subst, ◌∙◌, arith}
use Rattle.std.specs.Prelude.{All, IsPermutation, if◌then◌else◌, slice_index_or}
use Rattle.lo_base.specs.declared.refusal.Cause.{Cause}
use Rattle.lo_base.specs.declared.refusal.Cause.TheVariants.{NoBlock, InBlock, NoSavepoint}
use Rattle.lo_base.specs.declared.refusal.Refusal.{Refusal}
use Rattle.lo_base.specs.declared.reply.Reply.{Reply}
use Rattle.lo_base.specs.declared.reply.Reply.TheVariants.{Word, Refused}
use Rattle.lo_base.specs.declared.reply.Word.TheVariants as words
use Rattle.lo_base.specs.declared.request.Request.TheVariants.{Begin, Commit, Rollback, Savepoint, Release, RollbackTo, Vacuum}
use Rattle.lo_calls.specs.Terms.{when}
use Rattle.lo_model.specs.Database.{Table}
use Rattle.lo_model.specs.Edit.{Deed, Edit}
use Rattle.lo_model.specs.Levels.{released, undone, committed, aborted}
use Rattle.lo_model.specs.Session.{Session, idle_session, session_released, session_undone}
use Rattle.lo_model.specs.Transaction.{has_levels, is_open, newest}
use Rattle.lo_pages.specs.declared.pages.Pages.{Pages}
use Rattle.lo_pages.specs.Outcome.{first_of}
use Rattle.lo_pages.specs.Standing as pages
use Rattle.row_tables.specs.declared.tables.Tables.{Tables}
use Rattle.row_tables.specs.declared.cursors.Cursors.{Cursors}
use Rattle.row_tables.specs.Cursors.{HoldsOwn, cursors_of, holds_of}
use Rattle.row_tables.specs.Standing as tables
use Rattle.row_versions.specs.declared.base.Core.{Core}
use Rattle.lo_machine.specs.declared.server.Server.{Server}
use Rattle.lo_machine.specs.CallRows.{shared_of}
use Rattle.lo_machine.specs.Server.{xacts_of, clock_of, names_in, all_holds, IsNamed, IsServer, HasSession, Has, StandsFor, Leaves, Does, Becomes}
use Rattle.lo_machine.specs.Later.{with_session_at}
use Rattle.lo_machine.specs.Moves.{unturned, session_opened}
use Rattle.lo_machine.specs.State.{State, Outcome, now, edits, session_of, variables_of, answered, left_with, refused_in, refused}
use Rattle.lo_machine.specs.Step.{granted_or_refused, tried}
use Rattle.lo_machine.specs.Terms.{refusal, no_block}
use Rattle.lo_machine.specs.TransactionRows.{level_named, no_savepoint, level_or_0, begun, committed_in, rolled_back, released_to, undone_to}
use Rattle.lo_machine.specs.Transactions.{no_level}
use Rattle.lo_machine.proofs.CallFinds.{same_variables, variables_kept}
use Rattle.lo_machine.proofs.WellEdits.{session_again}
use Rattle.lo_machine.proofs.WellSessions.{idle}

some_open : (names : List (Option (List ℕ))) → 0 < length names → has_levels names ≡ true
some_open [] some = absurd (omega (arith, some))
some_open (name ∷ names) some = refl

no_names : (names : List (Option (List ℕ))) → length names ≡ 0 → names ≡ []
no_names [] none = refl
no_names (name ∷ names) none = absurd (omega (arith, none))

-- the same outcomes in other words
pub does_as : (old new : Server) (s : ℕ) (outcome outcome' : State → Outcome) (answer : Reply) → ((st : State) → StandsFor old st → outcome st ≡ outcome' st) → Does old new s outcome answer → Does old new s outcome' answer
does_as old new s outcome outcome' answer same does = record {
  reply = λ st stands. does.reply st stands ∙ ap (λ (done : Outcome). done.reply) (same st stands);
  leaves = λ st stands. subst (Leaves new st s) (same st stands) (does.leaves st stands);
  rows = does.rows;
  time = does.time;
}

pub does_at : (old new new' : Server) (s : ℕ) (outcome : State → Outcome) (answer : Reply) → new' ≡ new → Does old new s outcome answer → Does old new' s outcome answer
does_at old new new' s outcome answer is does = subst (λ (e : Server). Does old e s outcome answer) (sym is) does

-- nothing was done
pub nothing_does : (e : Server) (s : ℕ) (answer : Reply) → Does e e s (λ st. answered st s answer) answer
nothing_does e s answer = record {
  reply = λ st stands. refl;
  leaves = λ st stands. record {
    time = stands.time;
    has = record {
      edits = stands.has.edits;
      rows = stands.has.rows;
      counter = stands.has.counter;
      tables = stands.has.tables;
      sessions = λ t low high. subst (HasSession e t) (sym (session_again s (session_of st) t)) (stands.has.sessions t low high);
    };
    variables = same_variables e s (variables_of st) stands.variables;
  };
  rows = λ rows. rows;
  time = refl;
}

-- a level, or the transaction, began or ended
becomes_does : (s : ℕ) (left : List (Option (List ℕ))) (turned : List (Edit Deed) → List (Edit Deed)) (after : Session → Session) (old new : Server) (answer : Reply) → Becomes s left turned after old new → Does old new s (λ st. left_with st s answer (turned (edits st)) (after (session_of st s))) answer
becomes_does s left turned after old new answer becomes = record {
  reply = λ st stands. refl;
  leaves = λ st stands. record {
    time = becomes.time ∙ stands.time;
    has = becomes.has (edits st) (shared_of st.database) (session_of st) stands.has;
    variables = same_variables new s (variables_of st) (variables_kept old new (variables_of st) becomes.variables stands.variables);
  };
  rows = becomes.rows;
  time = becomes.time;
}

module _ (s : ℕ) (low : 1 ≤ s) (high : s ≤ 16) (old : Server) where
  -- a session's levels and failure in each state
  levels_are : (st : State) → StandsFor old st → names_in old s ≡ (session_of st s).transaction.levels
  levels_are st stands = (stands.has.sessions s low high).levels

  pub inside : 0 < length (names_in old s) → (st : State) → StandsFor old st → is_open (session_of st s).transaction ≡ true
  inside some st stands = ap has_levels (sym (levels_are st stands)) ∙ some_open (names_in old s) some

  pub outside : names_in old s ≡ [] → (st : State) → StandsFor old st → is_open (session_of st s).transaction ≡ false
  outside none st stands = ap has_levels (sym (levels_are st stands) ∙ none)

  pub failure_is : (failed : Bool) → failed ≡ slice_index_or old.failed.items (s - 1) false → (st : State) → StandsFor old st → (session_of st s).transaction.failed ≡ failed
  failure_is failed is st stands = sym (is ∙ (stands.has.sessions s low high).failed)

  module _ (new : Server) where
    -- begin

    pub begun_new : names_in old s ≡ [] → Becomes s (None ∷ []) unturned (session_opened None) old new → Does old new s (λ st. tried st s Begin) (Word words.Begin)
    begun_new none becomes = does_as old new s _ (λ st. tried st s Begin) (Word words.Begin) same (becomes_does s (None ∷ []) unturned (session_opened None) old new (Word words.Begin) becomes)
      where
        same : (st : State) → StandsFor old st → left_with st s (Word words.Begin) (unturned (edits st)) (session_opened None (session_of st s)) ≡ tried st s Begin
        same st stands =
            ap (λ (session : Session). left_with st s (Word words.Begin) (edits st) (session_opened None session)) (idle (now st) (edits st) (session_of st s) (stands.well.well.each s) (sym (levels_are st stands) ∙ none))
            ∙ ap (begun st s) (sym (outside none st stands))

    -- commit and rollback

    pub committed_failed : 0 < length (names_in old s) → true ≡ slice_index_or old.failed.items (s - 1) false → Becomes s [] (aborted s) (λ session. idle_session) old new → Does old new s (λ st. tried st s Commit) (Word words.Rollback)
    committed_failed some failed becomes = does_as old new s _ (λ st. tried st s Commit) (Word words.Rollback) same (becomes_does s [] (aborted s) (λ session. idle_session) old new (Word words.Rollback) becomes)
      where
        same : (st : State) → StandsFor old st → left_with st s (Word words.Rollback) (aborted s (edits st)) idle_session ≡ tried st s Commit
        same st stands = rw (inside some st stands, failure_is true failed st stands) refl

    pub committed_whole : 0 < length (names_in old s) → false ≡ slice_index_or old.failed.items (s - 1) false → Becomes s [] (committed s (clock_of old)) (λ session. idle_session) old new → Does old new s (λ st. tried st s Commit) (Word words.Commit)
    committed_whole some failed becomes = does_as old new s _ (λ st. tried st s Commit) (Word words.Commit) same (becomes_does s [] (committed s (clock_of old)) (λ session. idle_session) old new (Word words.Commit) becomes)
      where
        same : (st : State) → StandsFor old st → left_with st s (Word words.Commit) (committed s (clock_of old) (edits st)) idle_session ≡ tried st s Commit
        same st stands = rw (inside some st stands, failure_is false failed st stands, stands.time) refl

    pub rolled_back_does : 0 < length (names_in old s) → Becomes s [] (aborted s) (λ session. idle_session) old new → Does old new s (λ st. tried st s Rollback) (Word words.Rollback)
    rolled_back_does some becomes = does_as old new s _ (λ st. tried st s Rollback) (Word words.Rollback) same (becomes_does s [] (aborted s) (λ session. idle_session) old new (Word words.Rollback) becomes)
      where
        same : (st : State) → StandsFor old st → left_with st s (Word words.Rollback) (aborted s (edits st)) idle_session ≡ tried st s Rollback
        same st stands = rw (inside some st stands) refl

    -- savepoint

    pub saved_does : (name : List ℕ) → 0 < length (names_in old s) → Becomes s (names_in old s ++ Some name ∷ []) unturned (session_opened (Some name)) old new → Does old new s (λ st. tried st s (Savepoint name)) (Word words.Savepoint)
    saved_does name some becomes = does_as old new s _ (λ st. tried st s (Savepoint name)) (Word words.Savepoint) same (becomes_does s (names_in old s ++ Some name ∷ []) unturned (session_opened (Some name)) old new (Word words.Savepoint) becomes)
      where
        same : (st : State) → StandsFor old st → left_with st s (Word words.Savepoint) (unturned (edits st)) (session_opened (Some name) (session_of st s)) ≡ tried st s (Savepoint name)
        same st stands = rw (inside some st stands) refl

    -- release, and rollback to a savepoint: the newest level of the name

    level_found : (name : List ℕ) (k : ℕ) → Some k ≡ newest name (names_in old s) → (st : State) → StandsFor old st → level_named st s name ≡ Some k
    level_found name k found st stands = ap (newest name) (sym (levels_are st stands)) ∙ sym found

    level_granted : (name : List ℕ) (k : ℕ) → Some k ≡ newest name (names_in old s) → 0 < length (names_in old s) → (st : State) → StandsFor old st → first_of (no_block st s ∷ no_savepoint st s name ∷ []) ≡ None
    level_granted name k found some st stands = rw (inside some st stands, level_found name k found st stands) refl

    pub released_does : (name : List ℕ) (k : ℕ) → Some k ≡ newest name (names_in old s) → 2 ≤ k → k ≤ length (names_in old s) → Becomes s (take (k - 1) (names_in old s)) (released s k) (session_released k) old new → Does old new s (λ st. tried st s (Release name)) (Word words.Release)
    released_does name k found second within becomes = does_as old new s _ (λ st. tried st s (Release name)) (Word words.Release) same (becomes_does s (take (k - 1) (names_in old s)) (released s k) (session_released k) old new (Word words.Release) becomes)
      where
        same : (st : State) → StandsFor old st → left_with st s (Word words.Release) (released s k (edits st)) (session_released k (session_of st s)) ≡ tried st s (Release name)
        same st stands =
            ap (λ (level : Option ℕ). released_to st s (level_or_0 level)) (sym (level_found name k found st stands))
            ∙ ap (granted_or_refused st s (Release name)) (sym (level_granted name k found (omega (arith, second, within)) st stands))

    pub undone_does : (name : List ℕ) (k : ℕ) → Some k ≡ newest name (names_in old s) → 2 ≤ k → k ≤ length (names_in old s) → Becomes s (take k (names_in old s)) (undone s k) (session_undone k false) old new → Does old new s (λ st. tried st s (RollbackTo name)) (Word words.Rollback)
    undone_does name k found second within becomes = does_as old new s _ (λ st. tried st s (RollbackTo name)) (Word words.Rollback) same (becomes_does s (take k (names_in old s)) (undone s k) (session_undone k false) old new (Word words.Rollback) becomes)
      where
        same : (st : State) → StandsFor old st → left_with st s (Word words.Rollback) (undone s k (edits st)) (session_undone k false (session_of st s)) ≡ tried st s (RollbackTo name)
        same st stands =
            ap (λ (level : Option ℕ). undone_to st s (level_or_0 level)) (sym (level_found name k found st stands))
            ∙ ap (granted_or_refused st s (RollbackTo name)) (sym (level_granted name k found (omega (arith, second, within)) st stands))

    -- no level has the name
    level_refused : (name : List ℕ) → None ≡ newest name (names_in old s) → (st : State) → StandsFor old st → first_of (no_block st s ∷ no_savepoint st s name ∷ []) ≡ Some (no_level st s)
    level_refused name none st stands = by (is_open (session_of st s).transaction) refl
      where
        missing : level_named st s name ≡ None
        missing = ap (newest name) (sym (levels_are st stands)) ∙ sym none

        by : (b : Bool) → is_open (session_of st s).transaction ≡ b → first_of (no_block st s ∷ no_savepoint st s name ∷ []) ≡ Some (no_level st s)
        by true is = rw (is, missing) refl
        by false is = rw is refl

    pub unreleased_does : (name : List ℕ) (answer : Reply) → None ≡ newest name (names_in old s) → Does old new s (λ st. refused st s (no_level st s)) answer → Does old new s (λ st. tried st s (Release name)) answer
    unreleased_does name answer none does = does_as old new s _ (λ st. tried st s (Release name)) answer (λ st stands. ap (granted_or_refused st s (Release name)) (sym (level_refused name none st stands))) does

    pub not_undone_does : (name : List ℕ) (answer : Reply) → None ≡ newest name (names_in old s) → Does old new s (λ st. refused st s (no_level st s)) answer → Does old new s (λ st. tried st s (RollbackTo name)) answer
    not_undone_does name answer none does = does_as old new s _ (λ st. tried st s (RollbackTo name)) answer (λ st stands. ap (granted_or_refused st s (RollbackTo name)) (sym (level_refused name none st stands))) does

    pub no_level_does : (b : Bool) (cause : Cause) (answer : Reply) → (b ≡ true → 0 < length (names_in old s)) → (b ≡ false → names_in old s ≡ []) → cause ≡ (if b then NoSavepoint else NoBlock) → Does old new s (λ st. refused st s (refusal cause (pos 0))) answer → Does old new s (λ st. refused st s (no_level st s)) answer
    no_level_does true cause answer some none is does = does_as old new s _ (λ st. refused st s (no_level st s)) answer (λ st stands. rw (is, inside (some refl) st stands) refl) does
    no_level_does false cause answer some none is does = does_as old new s _ (λ st. refused st s (no_level st s)) answer (λ st stands. rw (is, outside (none refl) st stands) refl) does

    -- vacuum

    pub vacuum_refused : (answer : Reply) → 0 < length (names_in old s) → Does old new s (λ st. refused st s (refusal InBlock (pos 0))) answer → Does old new s (λ st. tried st s Vacuum) answer
    vacuum_refused answer some does = does_as old new s _ (λ st. tried st s Vacuum) answer same does
      where
        same : (st : State) → StandsFor old st → refused st s (refusal InBlock (pos 0)) ≡ tried st s Vacuum
        same st stands = ap (λ (b : Bool). granted_or_refused st s Vacuum (first_of (when b InBlock (pos 0) ∷ []))) (sym (inside some st stands))

    -- a refusal in a block

    pub refused_inside : (r : Refusal) (top : ℕ) → top ≡ length (names_in old s) → 0 < top → Becomes s (take top (names_in old s)) (undone s top) (session_undone top true) old new → Does old new s (λ st. refused st s r) (Refused r)
    refused_inside r top count some becomes = does_as old new s _ (λ st. refused st s r) (Refused r) same (becomes_does s (take top (names_in old s)) (undone s top) (session_undone top true) old new (Refused r) becomes)
      where
        same : (st : State) → StandsFor old st → left_with st s (Refused r) (undone s top (edits st)) (session_undone top true (session_of st s)) ≡ refused st s r
        same st stands =
            ap (λ (k : ℕ). left_with st s (Refused r) (undone s k (edits st)) (session_undone k true (session_of st s))) (count ∙ ap length (levels_are st stands))
            ∙ ap (λ (b : Bool). refused_in st s b r) (sym (inside (omega (arith, some, count)) st stands))

  -- where nothing is done

  pub begun_again : 0 < length (names_in old s) → Does old old s (λ st. tried st s Begin) (Word words.Begin)
  begun_again some = does_as old old s _ (λ st. tried st s Begin) (Word words.Begin) (λ st stands. ap (begun st s) (sym (inside some st stands))) (nothing_does old s (Word words.Begin))

  pub committed_outside : names_in old s ≡ [] → Does old old s (λ st. tried st s Commit) (Word words.Commit)
  committed_outside none = does_as old old s _ (λ st. tried st s Commit) (Word words.Commit) (λ st stands. ap (λ (b : Bool). committed_in st s b (session_of st s).transaction.failed) (sym (outside none st stands))) (nothing_does old s (Word words.Commit))

  pub rolled_back_none : names_in old s ≡ [] → Does old old s (λ st. tried st s Rollback) (Word words.Rollback)
  rolled_back_none none = does_as old old s _ (λ st. tried st s Rollback) (Word words.Rollback) (λ st stands. ap (rolled_back st s) (sym (outside none st stands))) (nothing_does old s (Word words.Rollback))

  pub refused_outside : (r : Refusal) (top : ℕ) → top ≡ length (names_in old s) → top ≡ 0 → Does old old s (λ st. refused st s r) (Refused r)
  refused_outside r top count none = does_as old old s _ (λ st. refused st s r) (Refused r) (λ st stands. ap (λ (b : Bool). refused_in st s b r) (sym (outside (no_names (names_in old s) (omega (arith, count, none))) st stands))) (nothing_does old s (Refused r))

-- A vacuum: pages and rows stand for what they stood for, and all else stays.

abbrev pub vacuumed : Server → Core → Pages → Tables → Server
vacuumed e core ps ts = record e { core = core; store = record e.store { pages = ps }; tables = ts }

module _ (e : Server) (core : Core) (same : core ≡ e.core) (ps : Pages) (ts : Tables) (catalog : tables.tables_in ts ≡ tables.tables_in e.tables) (cursors : tables.cursors_in ts ≡ tables.cursors_in e.tables) where
  pub vacuumed_sound : IsServer e → pages.GoWith (xacts_of e) ps → IsServer (vacuumed e core ps ts)
  vacuumed_sound sound goes' = subst (λ (one : Core). IsServer (vacuumed e one ps ts)) (sym same) record {
    goes = goes';
    whole = sound.whole;
    counter = sound.counter;
    undos = sound.undos;
    flags = sound.flags;
    sixteen = sound.sixteen;
    sixteen_lists = sound.sixteen_lists;
    sixteen_levels = sound.sixteen_levels;
    placed = sound.placed;
    held = subst (λ (all : Cursors). IsPermutation (xacts_of e).held (all_holds e.sessions.items ++ holds_of all)) (sym cursors) sound.held;
    own = subst (λ (all : Cursors). All HoldsOwn all.entries.items) (sym cursors) sound.own;
    numbered = subst (λ (all : Cursors). (t : ℕ) → (1 ≤ t → 16 < t) → cursors_of t all ≡ []) (sym cursors) sound.numbered;
    named = subst (λ (all : Cursors). (t : ℕ) → All (IsNamed (tables.tables_in ts)) (cursors_of t all)) (sym cursors) (subst (λ (there : List Table). (t : ℕ) → All (IsNamed there) (cursors_of t (tables.cursors_in e.tables))) (sym catalog) sound.named);
    first = sound.first;
  }

  module _ (pages_stand : (ys : List (Edit Deed)) → pages.StandFor (xacts_of e) e.store.pages ys → pages.StandFor (xacts_of e) ps ys) (rows_go : tables.GoWith (xacts_of e) ts) (rows_stand : (ys : List (Edit Deed)) → tables.StandFor (xacts_of e) e.tables ys → tables.StandFor (xacts_of e) ts ys) (s : ℕ) (low : 1 ≤ s) (high : s ≤ 16) (none : names_in e s ≡ []) where
    has_vacuumed : (st : State) → Has e (edits st) (shared_of st.database) (session_of st) → Has (vacuumed e e.core ps ts) (edits st) (shared_of st.database) (with_session_at s (session_of st s) (session_of st))
    has_vacuumed st has = record {
      edits = pages_stand (edits st) has.edits;
      rows = rows_stand (edits st) has.rows;
      counter = has.counter;
      tables = catalog ∙ has.tables;
      sessions = λ t low' high'. subst (HasSession (vacuumed e e.core ps ts) t) (sym (session_again s (session_of st) t)) (still t (session_of st t) (has.sessions t low' high'));
    }
      where
        still : (t : ℕ) (session : Session) → HasSession e t session → HasSession (vacuumed e e.core ps ts) t session
        still t session own = record { levels = own.levels; failed = own.failed; descriptors = own.descriptors; cursors = ap (cursors_of t) cursors ∙ own.cursors; leveled = own.leveled }

    answers_vacuum : Does e (vacuumed e e.core ps ts) s (λ st. answered st s (Word words.Vacuum)) (Word words.Vacuum)
    answers_vacuum = record {
      reply = λ st stands. refl;
      leaves = λ st stands. record {
        time = stands.time;
        has = has_vacuumed st stands.has;
        variables = same_variables (vacuumed e e.core ps ts) s (variables_of st) (variables_kept e (vacuumed e e.core ps ts) (variables_of st) refl stands.variables);
      };
      rows = λ old. rows_go;
      time = refl;
    }

    pub vacuumed_does : Does e (vacuumed e core ps ts) s (λ st. tried st s Vacuum) (Word words.Vacuum)
    vacuumed_does =
        subst (λ (one : Core). Does e (vacuumed e one ps ts) s (λ st. tried st s Vacuum) (Word words.Vacuum)) (sym same)
        (does_as e (vacuumed e e.core ps ts) s (λ st. answered st s (Word words.Vacuum)) (λ st. tried st s Vacuum) (Word words.Vacuum) (λ st stands. ap (λ (b : Bool). granted_or_refused st s Vacuum (first_of (when b InBlock (pos 0) ∷ []))) (sym (outside s low high e none st stands))) answers_vacuum)
