-- States stay well through the requests that are served.
use Rattle.std.proofs.Common.{◌≡◌, ◌≤◌, ℕ, ℤ, pos, ◌+◌, ◌-◌, Bool, true, false, not, List, [], ◌∷◌, length, Option, Some, None, is_none, refl, ap, sym, subst, ◌∙◌, arith, length-append, length-take}
use Rattle.std.specs.Prelude.{All, ◌==◌, bytes_eq, if◌then◌else◌, is_some}
use Rattle.std.proofs.lemmas.Bool.{true≢false, false≢true}
use Rattle.std.proofs.lemmas.List.Elements.{All-nil, All-cons, All-append, All-filter, All-weaker}
use Rattle.lo_base.specs.declared.refusal.Cause.TheVariants.{NoBlock, NoSavepoint}
use Rattle.lo_base.specs.declared.refusal.Refusal.{Refusal}
use Rattle.lo_base.specs.declared.reply.Reply.{Reply}
use Rattle.lo_base.specs.declared.reply.Reply.TheVariants.{Word, Refused, Counted}
use Rattle.lo_base.specs.declared.reply.Word.TheVariants as words
use Rattle.lo_base.specs.declared.request.Request.{Request}
use Rattle.lo_base.specs.declared.request.Request.TheVariants.{Begin, Commit, Rollback, Savepoint, Release, RollbackTo, LoCreat, LoCreate, LoOpen, LoClose, LoRead, LoWrite, LoLseek, LoLseek64, LoTell, LoTell64, LoTruncate, LoTruncate64, LoUnlink, LoGet, LoPut, LoFromBytea, CreateTable, Insert, Update, Delete, Get, Ids, Slice, Declare, Fetch, Close, Rewrite, Vacuum, Step, Finish, Array, Load, Set, Elem, Show, Vacuumlo}
use Rattle.lo_calls.specs.DescriptorRows.{may_write, opened_by, open_row, close_row, read_row, write_row, seek_row, tell_row, truncate_row}
use Rattle.lo_calls.specs.ObjectRows.{create_row, unlink_row, get_row, put_row}
use Rattle.lo_calls.specs.Row as objects
use Rattle.lo_model.specs.declared.owner.Owner.{Owner}
use Rattle.lo_model.specs.declared.owner.Owner.TheVariants.{Running, Committed}
use Rattle.lo_model.specs.Descriptor.{Kept, Current, Descriptor, Cursor, moved_to}
use Rattle.lo_model.specs.Edit.{Deed, Edit, edits_by}
use Rattle.lo_model.specs.Levels.{released, undone, committed, aborted}
use Rattle.lo_model.specs.Session.{Session, idle_session, session_begun, session_saved, session_released, session_undone}
use Rattle.lo_model.specs.Transaction.{top_level, has_levels, is_open}
use Rattle.lo_pages.specs.Outcome.{first_of}
use Rattle.row_tables.specs.CursorRules as cursors
use Rattle.row_tables.specs.RewriteRules.{rewrite_row}
use Rattle.row_tables.specs.Row as tables
use Rattle.row_tables.specs.RowRules.{create_table_row, delete_row, ids_row, slice_row}
use Rattle.lo_machine.specs.ArrayRows.{array_line, elem_line, load_line, set_line, show_line}
use Rattle.lo_machine.specs.CallRows.{here, kept_open, called, call_granted, session_by}
use Rattle.lo_machine.specs.Later.{with_session_at}
use Rattle.lo_machine.specs.Row.{Granted, objects_here, on_objects, on_tables, tables_here}
use Rattle.lo_machine.specs.Served.{IsRanged, is_plain}
use Rattle.lo_machine.specs.Spelled.{IsSpelled}
use Rattle.lo_machine.specs.State.{State, Outcome, now, edits, session_of, with_player, state_with, answered, left_with, refused_in, refused, owner_in, and_made, view_of}
use Rattle.lo_machine.specs.Step.{refusals, granted, failed, refusal_of, granted_or_refused, told_sweep, state_after, outcome}
use Rattle.lo_machine.specs.TableRows.{declare_line, get_line, insert_line, update_line}
use Rattle.lo_machine.specs.TableRows as rows
use Rattle.lo_machine.specs.Terms.{no_block}
use Rattle.lo_machine.specs.TransactionRows.{level_named, no_savepoint, level_or_0, begun, rolled_back, committed_in, released_to, undone_to}
use Rattle.lo_machine.specs.Well.{IsOwner, IsPast, IsQuietAt, IsQuiet, IsDescriptor, IsCursor, IsSession, AreHeld, AreWell, IsWell}
use Rattle.lo_machine.specs.FlatRows.{AreFlatRows}
use Rattle.lo_machine.specs.Well.{AreNamed}
use Rattle.lo_machine.proofs.FlatStates.{IsKept, outcome_kept}
use Rattle.lo_machine.proofs.NewestLevel.{newest_bounds}
use Rattle.lo_machine.proofs.Unmet.{first_none, unmet}
use Rattle.lo_machine.proofs.WellEdits.{StayQuiet, own_session, each_session, past_kept, past_released, past_committed, past_undone, past_made, quiet_same, quiet_released, quiet_committed, quiet_undone, quiet_made, quiet_now, all_described_later, all_cursors_later, session_later}
use Rattle.lo_machine.proofs.WellRows.{close_leaves, unlink_leaves, tell_leaves, truncate_leaves, open_leaves, read_leaves, write_leaves, seek_leaves}
use Rattle.lo_machine.proofs.WellSessions.{open_top, none_open, idle_well, begun_well, saved_well, released_well, undone_well}
use Rattle.orphan_sweep.specs.declared.act.SweepAct.{SweepAct}
use Rattle.orphan_sweep.specs.declared.act.SweepAct.TheVariants as acts
use Rattle.lo_machine.specs.SweepRows.{act_granted, act_of, scan_reply, report_in}
use Rattle.lo_model.specs.Listing.{oids_in}
use Rattle.lo_machine.proofs.ToldSweeps.{IsSame, request_same}
use Rattle.lo_model.specs.Database.{Database}

-- what an outcome leaves is well, before the clock moves on
abbrev pub IsGood : State → (session : ℕ) → Outcome → Type 0
IsGood st s done = AreWell (now st + 1) done.database.edits (with_session_at s done.player.session (session_of st))

-- the same sessions, one by one
past_as : (n : ℕ) (sessions sessions' : ℕ → Session) → ((t : ℕ) → sessions t ≡ sessions' t) → (e : Edit Deed) → IsPast n sessions e → IsPast n sessions' e
past_as n sessions sessions' same e is = record { made = is.made; owner = by e.owner is.owner }
  where
    by : (o : Owner) → IsOwner n sessions o → IsOwner n sessions' o
    by (Running t l) own = (own.0, subst (λ (session : Session). l ≤ top_level session.transaction) (same t) own.1)
    by (Committed c) own = own

well_as : (n : ℕ) (es : List (Edit Deed)) (sessions sessions' : ℕ → Session) → ((t : ℕ) → sessions t ≡ sessions' t) → AreWell n es sessions → AreWell n es sessions'
well_as n es sessions sessions' same well = record {
  past = All-weaker (IsPast n sessions) (IsPast n sessions') (past_as n sessions sessions' same) es well.past;
  each = λ t. subst (IsSession n es) (same t) (well.each t);
}

-- a session's entry in the state that an outcome leaves
pub player_as : (st : State) (s : ℕ) (done : Outcome) (t : ℕ) → with_session_at s done.player.session (session_of st) t ≡ (with_player s done.player st.players t).session
player_as st s done t = by (t == s)
  where
    by : (b : Bool) → (if b then done.player.session else (st.players t).session) ≡ (if b then done.player else st.players t).session
    by true = refl
    by false = refl

-- a session's variables in that state
held_as : (st : State) (s : ℕ) (done : Outcome) → IsWell st → AreHeld done.player.variables → (t : ℕ) → AreHeld (with_player s done.player st.players t).variables
held_as st s done well held t = by (t == s)
  where
    by : (b : Bool) → AreHeld (if b then done.player else st.players t).variables
    by true = held
    by false = well.held t

well_with : (st : State) (s : ℕ) (done : Outcome) → IsWell st → IsGood st s done → IsKept done → IsWell (state_with st s done)
well_with st s done well good kept = record {
  well = well_as (now st + 1) done.database.edits (with_session_at s done.player.session (session_of st)) (session_of (state_with st s done)) (player_as st s done) good;
  uncounted = well.uncounted;
  flat = kept.flat;
  named = kept.named;
  held = held_as st s done well kept.held;
}

module _ (st : State) (s : ℕ) (well : IsWell st) where
  abbrev n : ℕ
  n = now st

  abbrev es : List (Edit Deed)
  es = edits st

  abbrev sessions : ℕ → Session
  sessions = session_of st

  abbrev mine : Session
  mine = session_of st s

  abbrev names : List (Option (List ℕ))
  names = mine.transaction.levels

  own : IsSession n es mine
  own = well.well.each s

  -- what leaves the session's own entry well, and other sessions as they are
  left_good : (es' : List (Edit Deed)) (session : Session) → StayQuiet n es es' → All (IsPast (n + 1) (with_session_at s session sessions)) es' → IsSession (n + 1) es' session → AreWell (n + 1) es' (with_session_at s session sessions)
  left_good es' session stay past is = record {
    past = past;
    each = each_session (IsSession (n + 1) es') s session sessions is (λ t other. session_later n es es' stay (sessions t) (well.well.each t));
  }

  answered_good : (reply : Reply) → IsGood st s (answered st s reply)
  answered_good reply = left_good es mine (quiet_same n es) (past_kept n s sessions mine es (omega arith) well.well.past) (session_later n es es (quiet_same n es) mine own)

  begun_good : (inside : Bool) → is_open mine.transaction ≡ inside → IsGood st s (begun st s inside)
  begun_good true is = answered_good (Word words.Begin)
  begun_good false is =
      let none : length names ≡ 0 = ap length (none_open names is) in
      left_good es session_begun (quiet_same n es) (past_kept n s sessions session_begun es (omega (arith, none)) well.well.past) (begun_well (n + 1) es)

  aborted_good : (reply : Reply) → IsGood st s (left_with st s reply (aborted s es) idle_session)
  aborted_good reply = left_good (aborted s es) idle_session (quiet_undone n s 1 es) (past_undone n s sessions idle_session 1 es (omega arith) well.well.past) (idle_well (n + 1) (aborted s es))

  committed_good : (reply : Reply) → IsGood st s (left_with st s reply (committed s n es) idle_session)
  committed_good reply = left_good (committed s n es) idle_session (quiet_committed n s es) (past_committed n s sessions idle_session es well.well.past) (idle_well (n + 1) (committed s n es))

  rolled_back_good : (inside : Bool) → IsGood st s (rolled_back st s inside)
  rolled_back_good false = answered_good (Word words.Rollback)
  rolled_back_good true = aborted_good (Word words.Rollback)

  committed_in_good : (inside failed : Bool) → IsGood st s (committed_in st s inside failed)
  committed_in_good false failed = answered_good (Word words.Commit)
  committed_in_good true true = rolled_back_good true
  committed_in_good true false = committed_good (Word words.Commit)

  saved_good : (reply : Reply) (name : List ℕ) → 1 ≤ length names → IsGood st s (left_with st s reply es (session_saved name mine))
  saved_good reply name some = left_good es (session_saved name mine) (quiet_same n es) (past_kept n s sessions (session_saved name mine) es (omega (arith, length-append names (Some name ∷ []))) well.well.past) (saved_well n es es (quiet_same n es) mine own name some)

  released_good : (reply : Reply) (k : ℕ) → 2 ≤ k → k ≤ length names → IsGood st s (left_with st s reply (released s k es) (session_released k mine))
  released_good reply k low high =
      left_good (released s k es) (session_released k mine) (quiet_released n s k es)
      (past_released n s sessions (session_released k mine) k es low (omega (arith, length-take (k - 1) names, high)) well.well.past)
      (released_well n es (released s k es) (quiet_released n s k es) mine own k low high)

  undone_good : (reply : Reply) (k : ℕ) (failed : Bool) → 1 ≤ k → k ≤ length names → IsGood st s (left_with st s reply (undone s k es) (session_undone k failed mine))
  undone_good reply k failed low high =
      left_good (undone s k es) (session_undone k failed mine) (quiet_undone n s k es)
      (past_undone n s sessions (session_undone k failed mine) k es (omega (arith, length-take k names, high)) well.well.past)
      (undone_well n es (undone s k es) (quiet_undone n s k es) mine own k failed low high)

  refused_good : (refusal : Refusal) → IsGood st s (refused st s refusal)
  refused_good refusal = by (is_open mine.transaction) refl
    where
      by : (inside : Bool) → is_open mine.transaction ≡ inside → IsGood st s (refused_in st s inside refusal)
      by false is = answered_good (Refused refusal)
      by true is = undone_good (Refused refusal) (top_level mine.transaction) true (open_top names is) (omega arith)

  -- A call: what it made, and the descriptors that it leaves.

  abbrev made : List Deed → List (Edit Deed)
  made deeds = and_made st s deeds

  made_quiet : (deeds : List Deed) → StayQuiet n es (made deeds)
  made_quiet deeds = quiet_made n s names es deeds

  abbrev described : (deeds : List Deed) → Descriptor → Type 0
  described deeds d = IsDescriptor (n + 1) (made deeds) (top_level mine.transaction) d

  abbrev declared : (deeds : List Deed) → Cursor → Type 0
  declared deeds c = IsCursor (n + 1) (made deeds) (top_level mine.transaction) c

  called_good : (granted : Granted) → (All (described granted.deeds) mine.descriptors → All (described granted.deeds) granted.descriptors) → (All (declared granted.deeds) mine.cursors → All (declared granted.deeds) granted.cursors) → IsGood st s (called st s granted)
  called_good granted' leaves leaves_cursors = left_good (made granted'.deeds) session (made_quiet granted'.deeds) past is
    where
      session : Session
      session = session_by (is_open mine.transaction) granted' mine

      past : All (IsPast (n + 1) (with_session_at s session sessions)) (made granted'.deeds)
      past =
          All-append (IsPast (n + 1) (with_session_at s session sessions)) es (edits_by n (owner_in n s names) granted'.deeds)
          (past_kept n s sessions session es (omega arith) well.well.past)
          (past_made n s (with_session_at s session sessions) names granted'.deeds (ap (λ (one : Session). one.transaction.levels) (sym (own_session s session sessions))))

      before : All (described granted'.deeds) mine.descriptors
      before = all_described_later n es (made granted'.deeds) (length names) (length names) (made_quiet granted'.deeds) (omega arith) mine.descriptors own.descriptors

      cursors_before : All (declared granted'.deeds) mine.cursors
      cursors_before = all_cursors_later n es (made granted'.deeds) (length names) (length names) (made_quiet granted'.deeds) (omega arith) mine.cursors own.cursors

      left_described : (inside : Bool) → All (described granted'.deeds) (kept_open inside mine.descriptors granted'.descriptors)
      left_described false = before
      left_described true = leaves before

      left_declared : (inside : Bool) → All (declared granted'.deeds) (kept_open inside mine.cursors granted'.cursors)
      left_declared false = cursors_before
      left_declared true = leaves_cursors cursors_before

      is : IsSession (n + 1) (made granted'.deeds) session
      is = record {
        first = own.first;
        descriptors = left_described (is_open mine.transaction);
        none = λ empty. ap (λ (levels : List (Option (List ℕ))). kept_open (has_levels levels) mine.descriptors granted'.descriptors) empty ∙ own.none empty;
        unfailed = own.unfailed;
        cursors = left_declared (is_open mine.transaction);
        no_cursors = λ empty. ap (λ (levels : List (Option (List ℕ))). kept_open (has_levels levels) mine.cursors granted'.cursors) empty ∙ own.no_cursors empty;
      }

  -- a call on large objects, which leaves cursors
  on_objects_good : (row : objects.Here → objects.Row) → (All (described (row (objects_here (here st s))).granted.deeds) mine.descriptors → All (described (row (objects_here (here st s))).granted.deeds) (row (objects_here (here st s))).granted.descriptors) → IsGood st s (call_granted st s (on_objects row))
  on_objects_good row leaves = called_good (on_objects row (here st s)).granted leaves (λ all. all)

  abbrev objects_now : objects.Here
  objects_now = objects_here (here st s)

  -- a descriptor at another position, and one that is opened
  moves : (deeds : List Deed) (d : Descriptor) (number position : ℕ) → IsDescriptor (n + 1) (made deeds) (top_level mine.transaction) d → IsDescriptor (n + 1) (made deeds) (top_level mine.transaction) (moved_to number position d)
  moves deeds d number position is = by (d.number == number)
    where
      by : (b : Bool) → IsDescriptor (n + 1) (made deeds) (top_level mine.transaction) (if b then record { number = d.number; oid = d.oid; position = position; level = d.level; reading = d.reading } else d)
      by true = record { level = is.level; quiet = is.quiet }
      by false = is

  opens : (o : ℕ) (mode : ℤ) → IsDescriptor (n + 1) (made []) (top_level mine.transaction) (opened_by objects_now o mode)
  opens o mode = record { level = omega arith; quiet = by (may_write mode) }
    where
      by : (b : Bool) → IsQuiet (n + 1) (made []) (if b then Current else Kept n)
      by true = tt
      by false = (omega arith, All-append (IsQuietAt n) es [] (quiet_now n sessions es well.well.past) (All-nil (IsQuietAt n)))

  -- a call on tables, which leaves descriptors, and cursors as they are
  on_rows_good : (row : tables.Here → tables.Row) → (row (tables_here (here st s))).granted.cursors ≡ mine.cursors → IsGood st s (call_granted st s (on_tables row))
  on_rows_good row same = called_good (on_tables row (here st s)).granted (λ all. all) (λ all. subst (All (declared (row (tables_here (here st s))).granted.deeds)) (sym same) all)

  -- a cursor that is declared, and those that are left where one is closed

  declares : (name t : List ℕ) (i : ℤ) → declared [] (rows.declared (here st s) name t i)
  declares name t i = record { level = omega arith; quiet = (omega arith, All-append (IsQuietAt n) es [] (quiet_now n sessions es well.well.past) (All-nil (IsQuietAt n))) }

  declare_good : (name t : List ℕ) (i : ℤ) → IsGood st s (call_granted st s (declare_line name t i))
  declare_good name t i =
      let new : Cursor = rows.declared (here st s) name t i in
      called_good (declare_line name t i (here st s)).granted (λ all. all) (λ all. All-append (declared []) mine.cursors (new ∷ []) all (All-cons (declared []) new [] (declares name t i) (All-nil (declared []))))

  close_good : (name : List ℕ) → IsGood st s (call_granted st s (on_tables (cursors.close_row name)))
  close_good name = called_good (on_tables (cursors.close_row name) (here st s)).granted (λ all. all) (λ all. All-filter (λ (c : Cursor). not (bytes_eq c.name name)) (declared []) mine.cursors all)

  -- No term of a refusal holds.

  inside : (rest : List (Option Refusal)) → first_of (no_block st s ∷ rest) ≡ None → 1 ≤ length names
  inside rest none = open_top names (by (is_open mine.transaction) refl)
    where
      by : (b : Bool) → is_open mine.transaction ≡ b → is_open mine.transaction ≡ true
      by true is = is
      by false is = absurd (true≢false (ap not (sym is) ∙ unmet (not (is_open mine.transaction)) NoBlock (pos 0) (first_none (no_block st s) rest none).0))

  named : (P : Option ℕ → Type 0) (name : List ℕ) → first_of (no_block st s ∷ no_savepoint st s name ∷ []) ≡ None → ((k : ℕ) → 2 ≤ k → k ≤ length names → P (Some k)) → P (level_named st s name)
  named P name none each = by (level_named st s name) refl
    where
      there : is_none (level_named st s name) ≡ false
      there = unmet (is_none (level_named st s name)) NoSavepoint (pos 0) (first_none (no_savepoint st s name) [] (first_none (no_block st s) (no_savepoint st s name ∷ []) none).1).0

      by : (found : Option ℕ) → level_named st s name ≡ found → P found
      by None is = absurd (true≢false (ap is_none (sym is) ∙ there))
      by (Some k) is = let bounds = newest_bounds name names k own.first is in each k bounds.0 bounds.1

  -- an act of a clean-up
  act_good : (act : SweepAct) → IsGood st s (act_granted st s act)
  act_good (acts.Scan table column) = answered_good (scan_reply st s table column)
  act_good acts.Begin = begun_good (is_open mine.transaction) refl
  act_good (acts.Unlink o) = on_objects_good (unlink_row o) (λ all. unlink_leaves (described (unlink_row o objects_now).granted.deeds) objects_now all o)
  act_good acts.Commit = committed_in_good (is_open mine.transaction) mine.transaction.failed
  act_good acts.Rollback = rolled_back_good (is_open mine.transaction)
  act_good acts.Report = answered_good (report_in (st.players s).sweep)
  act_good acts.Idle = answered_good (Word words.Idle)

  all_good : (r : Request) → first_of (refusals st s r) ≡ None → IsGood st s (granted st s r)
  all_good Begin none = begun_good (is_open mine.transaction) refl
  all_good Commit none = committed_in_good (is_open mine.transaction) mine.transaction.failed
  all_good Rollback none = rolled_back_good (is_open mine.transaction)
  all_good (Savepoint name) none = saved_good (Word words.Savepoint) name (inside [] none)
  all_good (Release name) none = named (λ found. IsGood st s (released_to st s (level_or_0 found))) name none (λ k low high. released_good (Word words.Release) k low high)
  all_good (RollbackTo name) none = named (λ found. IsGood st s (undone_to st s (level_or_0 found))) name none (λ k low high. undone_good (Word words.Rollback) k false (omega (arith, low)) high)
  all_good (LoCreat mode) none = on_objects_good (create_row 0 []) (λ all. all)
  all_good (LoCreate o) none = on_objects_good (create_row o []) (λ all. all)
  all_good (LoOpen o mode) none = on_objects_good (open_row o mode) (λ all. open_leaves (described []) objects_now all o mode (opens o mode))
  all_good (LoClose fd) none = on_objects_good (close_row fd) (λ all. close_leaves (described []) objects_now all fd)
  all_good (LoRead fd count) none = on_objects_good (read_row fd count) (λ all. read_leaves (described (read_row fd count objects_now).granted.deeds) objects_now all (moves (read_row fd count objects_now).granted.deeds) fd count)
  all_good (LoWrite fd bytes) none = on_objects_good (write_row fd bytes) (λ all. write_leaves (described (write_row fd bytes objects_now).granted.deeds) objects_now all (moves (write_row fd bytes objects_now).granted.deeds) fd bytes)
  all_good (LoLseek fd offset whence) none = on_objects_good (seek_row false fd offset whence) (λ all. seek_leaves (described (seek_row false fd offset whence objects_now).granted.deeds) objects_now all (moves (seek_row false fd offset whence objects_now).granted.deeds) false fd offset whence)
  all_good (LoLseek64 fd offset whence) none = on_objects_good (seek_row true fd offset whence) (λ all. seek_leaves (described (seek_row true fd offset whence objects_now).granted.deeds) objects_now all (moves (seek_row true fd offset whence objects_now).granted.deeds) true fd offset whence)
  all_good (LoTell fd) none = on_objects_good (tell_row false fd) (λ all. tell_leaves (described (tell_row false fd objects_now).granted.deeds) objects_now all false fd)
  all_good (LoTell64 fd) none = on_objects_good (tell_row true fd) (λ all. tell_leaves (described (tell_row true fd objects_now).granted.deeds) objects_now all true fd)
  all_good (LoTruncate fd size) none = on_objects_good (truncate_row fd size) (λ all. truncate_leaves (described (truncate_row fd size objects_now).granted.deeds) objects_now all fd size)
  all_good (LoTruncate64 fd size) none = on_objects_good (truncate_row fd size) (λ all. truncate_leaves (described (truncate_row fd size objects_now).granted.deeds) objects_now all fd size)
  all_good (LoUnlink o) none = on_objects_good (unlink_row o) (λ all. unlink_leaves (described (unlink_row o objects_now).granted.deeds) objects_now all o)
  all_good (LoGet o from count) none = on_objects_good (get_row o from count) (λ all. all)
  all_good (LoPut o at bytes) none = on_objects_good (put_row o at bytes) (λ all. all)
  all_good (LoFromBytea o bytes) none = on_objects_good (create_row o bytes) (λ all. all)
  all_good (CreateTable name columns) none = on_rows_good (create_table_row name columns) refl
  all_good (Insert t values) none = called_good (insert_line t values (here st s)).granted (λ all. all) (λ all. all)
  all_good (Update t i changes) none = called_good (update_line t i changes (here st s)).granted (λ all. all) (λ all. all)
  all_good (Delete t i) none = on_rows_good (delete_row t i) refl
  all_good (Get t i) none = called_good (get_line t i (here st s)).granted (λ all. all) (λ all. all)
  all_good (Ids t) none = on_rows_good (ids_row t) refl
  all_good (Slice t i column from count) none = on_rows_good (slice_row t i column from count) refl
  all_good (Declare name t i) none = declare_good name t i
  all_good (Fetch name column from count) none = on_rows_good (cursors.fetch_row name column from count) refl
  all_good (Close name) none = close_good name
  all_good (Rewrite t storages) none = on_rows_good (rewrite_row t storages) refl
  all_good (Array name text) none = called_good (array_line name text (here st s)).granted (λ all. all) (λ all. all)
  all_good (Load name t i column) none = called_good (load_line name t i column (here st s)).granted (λ all. all) (λ all. all)
  all_good (Set name sub value) none = called_good (set_line name sub value (here st s)).granted (λ all. all) (λ all. all)
  all_good (Elem name sub) none = called_good (elem_line name sub (here st s)).granted (λ all. all) (λ all. all)
  all_good (Show name) none = called_good (show_line name (here st s)).granted (λ all. all) (λ all. all)
  all_good Vacuum none = answered_good (Word words.Vacuum)
  all_good (Vacuumlo dry limit) none = answered_good (Counted words.Listed (length (oids_in (view_of st s))))
  all_good Step none = act_good (act_of st s)
  all_good Finish none = act_good (act_of st s)

  -- granted or refused
  outcome_good : (r : Request) → IsGood st s (granted_or_refused st s r (refusal_of st s r))
  outcome_good r = by (refusal_of st s r) refl
    where
      by : (refusal : Option Refusal) → refusal_of st s r ≡ refusal → IsGood st s (granted_or_refused st s r refusal)
      by None is = all_good r (first_none (failed st s r) (refusals st s r) is).1
      by (Some refusal) is = refused_good refusal

-- A clean-up alone is told of its act.
pub untold : (st : State) (s : ℕ) (r : Request) (refused : Bool) (done : Outcome) → is_plain r ≡ true → told_sweep st s r refused done ≡ done
untold st s Step refused done plain = absurd (false≢true plain)
untold st s Finish refused done plain = absurd (false≢true plain)
untold st s r refused done plain = refl

told_good : (st : State) (s : ℕ) (one done : Outcome) → IsSame one done → IsGood st s done → IsGood st s one
told_good st s one done same good = rw (same.database, same.session) good

told_kept : (one done : Outcome) → IsSame one done → IsKept done → IsKept one
told_kept one done same kept = record {
  flat = subst (λ (d : Database). AreFlatRows d.tables d.edits) (sym same.database) kept.flat;
  named = subst (λ (d : Database). AreNamed d.tables) (sym same.database) kept.named;
  held = subst AreHeld (sym same.variables) kept.held;
}

pub well_after : (st : State) (s : ℕ) (r : Request) → IsSpelled r → IsRanged r → IsWell st → IsWell (state_after st s r)
well_after st s r spelled ranged well =
    let done : Outcome = granted_or_refused st s r (refusal_of st s r) in
    let same : IsSame (outcome st s r) done = request_same st s r (is_some (refusal_of st s r)) done in
    well_with st s (outcome st s r) well (told_good st s (outcome st s r) done same (outcome_good st s well r)) (told_kept (outcome st s r) done same (outcome_kept st s well r spelled ranged))
