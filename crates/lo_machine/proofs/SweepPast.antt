-- In every moment of a run each edit is past, and each session's first level has no name, whatever is requested.
use Rattle.std.proofs.Common.{◌≡◌, ◌≤◌, refl, sym, ap, ◌∙◌, subst, ℕ, pos, zero, suc, ◌+◌, ◌-◌, Bool, true, false, not, List, [], ◌∷◌, ◌++◌, length, take, Option, Some, None, is_none, arith, length-append, length-take}
use Rattle.std.specs.Prelude.{All, is_some}
use Rattle.std.proofs.lemmas.Bool.{true≢false}
use Rattle.std.proofs.lemmas.List.Elements.{All-append, All-weaker}
use Rattle.lo_base.specs.declared.refusal.Cause.TheVariants.{NoBlock, NoSavepoint}
use Rattle.lo_base.specs.declared.refusal.Refusal.{Refusal}
use Rattle.lo_base.specs.declared.request.Request.{Request}
use Rattle.lo_base.specs.declared.request.Request.TheVariants.{Begin, Commit, Rollback, Savepoint, Release, RollbackTo, Vacuum, Vacuumlo, Step, Finish}
use Rattle.lo_model.specs.declared.owner.Owner.{Owner}
use Rattle.lo_model.specs.declared.owner.Owner.TheVariants.{Running, Committed}
use Rattle.lo_model.specs.Edit.{Deed, Edit, edits_by}
use Rattle.lo_model.specs.Opening.{Opening}
use Rattle.lo_model.specs.Session.{Session, idle_session, session_begun, session_saved, session_released, session_undone}
use Rattle.lo_model.specs.Transaction.{top_level, is_open}
use Rattle.lo_pages.specs.Outcome.{first_of}
use Rattle.orphan_sweep.specs.declared.act.SweepAct.{SweepAct}
use Rattle.orphan_sweep.specs.declared.act.SweepAct.TheVariants as acts
use Rattle.lo_calls.specs.ObjectRows.{unlink_row}
use Rattle.lo_machine.specs.CallRow.{call_row}
use Rattle.lo_machine.specs.CallRows.{called, row_at}
use Rattle.lo_machine.specs.Later.{with_session_at}
use Rattle.lo_machine.specs.Row.{Granted, on_objects}
use Rattle.lo_machine.specs.Run.{Moment, next_line, moment_after, end_from, start_from}
use Rattle.lo_machine.specs.State.{State, Outcome, now, edits, session_of, owner_in, refused, refused_in}
use Rattle.lo_machine.specs.Step.{failed, refusals, granted, refusal_of, granted_or_refused, outcome, state_after}
use Rattle.lo_machine.specs.SweepRows.{act_of, act_granted}
use Rattle.lo_machine.specs.Terms.{no_block}
use Rattle.lo_machine.specs.TransactionRows.{level_named, no_savepoint, level_or_0, begun, rolled_back, committed_in, released_to, undone_to}
use Rattle.lo_machine.specs.Well.{IsOwner, IsPast, IsFirst}
use Rattle.lo_machine.proofs.NewestLevel.{newest_bounds}
use Rattle.lo_machine.proofs.SweepEdits.{told_database, told_line_session}
use Rattle.lo_machine.proofs.Unmet.{first_none, unmet}
use Rattle.lo_machine.proofs.WellEdits.{own_session, each_session, past_kept, past_released, past_committed, past_undone, past_made}
use Rattle.lo_machine.proofs.WellSessions.{open_top, none_open}
use Rattle.lo_machine.proofs.WellStates.{player_as}

pub record ArePast (st : State) : Type 0 where
  pub past : All (IsPast (now st) (session_of st)) (edits st)
  pub first : (t : ℕ) → IsFirst (session_of st t).transaction.levels

first_taken : (n : ℕ) (levels : List (Option (List ℕ))) → IsFirst levels → IsFirst (take n levels)
first_taken zero levels is = tt
first_taken (suc n) [] is = tt
first_taken (suc n) (level ∷ levels) is = is

first_more : (levels : List (Option (List ℕ))) (level : Option (List ℕ)) → 1 ≤ length levels → IsFirst levels → IsFirst (levels ++ level ∷ [])
first_more [] level some is = absurd (omega arith)
first_more (first ∷ levels) level some is = is

past_as : (n : ℕ) (sessions sessions' : ℕ → Session) → ((t : ℕ) → sessions t ≡ sessions' t) → (e : Edit Deed) → IsPast n sessions e → IsPast n sessions' e
past_as n sessions sessions' same e is = record { made = is.made; owner = by e.owner is.owner }
  where
    by : (o : Owner) → IsOwner n sessions o → IsOwner n sessions' o
    by (Running t l) own = (own.0, subst (λ (session : Session). l ≤ top_level session.transaction) (same t) own.1)
    by (Committed c) own = own

module _ (st : State) (s : ℕ) (are : ArePast st) where
  abbrev n : ℕ
  n = now st

  abbrev es : List (Edit Deed)
  es = edits st

  abbrev sessions : ℕ → Session
  sessions = session_of st

  abbrev mine : Session
  mine = session_of st s

  abbrev names : List (Option (List ℕ))
  names = mine.transaction.levels

  record Stays (done : Outcome) : Type 0 where
    past : All (IsPast (n + 1) (with_session_at s done.player.session sessions)) done.database.edits
    first : IsFirst done.player.session.transaction.levels

  kept : All (IsPast (n + 1) (with_session_at s mine sessions)) es
  kept = past_kept n s sessions mine es (omega arith) are.past

  begun_stays : (inside : Bool) → is_open mine.transaction ≡ inside → Stays (begun st s inside)
  begun_stays true is = record { past = kept; first = are.first s }
  begun_stays false is =
      let none : length names ≡ 0 = ap length (none_open names is) in
      record { past = past_kept n s sessions session_begun es (omega (arith, none)) are.past; first = refl }

  rolled_back_stays : (inside : Bool) → Stays (rolled_back st s inside)
  rolled_back_stays false = record { past = kept; first = are.first s }
  rolled_back_stays true = record { past = past_undone n s sessions idle_session 1 es (omega arith) are.past; first = tt }

  committed_stays : (inside failed' : Bool) → Stays (committed_in st s inside failed')
  committed_stays false failed' = record { past = kept; first = are.first s }
  committed_stays true true = rolled_back_stays true
  committed_stays true false = record { past = past_committed n s sessions idle_session es are.past; first = tt }

  undone_stays : (k : ℕ) → k ≤ length names → Stays (undone_to st s k)
  undone_stays k high = record {
    past = past_undone n s sessions (session_undone k false mine) k es (omega (arith, length-take k names, high)) are.past;
    first = first_taken k names (are.first s);
  }

  released_stays : (k : ℕ) → 2 ≤ k → k ≤ length names → Stays (released_to st s k)
  released_stays k low high = record {
    past = past_released n s sessions (session_released k mine) k es low (omega (arith, length-take (k - 1) names, high)) are.past;
    first = first_taken (k - 1) names (are.first s);
  }

  refused_stays : (r : Refusal) → Stays (refused st s r)
  refused_stays r = by (is_open mine.transaction)
    where
      by : (inside : Bool) → Stays (refused_in st s inside r)
      by false = record { past = kept; first = are.first s }
      by true = record {
        past = past_undone n s sessions (session_undone (top_level mine.transaction) true mine) (top_level mine.transaction) es (omega (arith, length-take (top_level mine.transaction) names)) are.past;
        first = first_taken (top_level mine.transaction) names (are.first s);
      }

  called_stays : (by : Granted) → Stays (called st s by)
  called_stays by = record {
    past = All-append (IsPast (n + 1) (with_session_at s after sessions)) es (edits_by n (owner_in n s names) by.deeds)
        (past_kept n s sessions after es (omega arith) are.past)
        (past_made n s (with_session_at s after sessions) names by.deeds (ap (λ (one : Session). one.transaction.levels) (sym (own_session s after sessions))));
    first = are.first s;
  }
    where
      after : Session
      after = (called st s by).player.session

  act_stays : (act : SweepAct) → Stays (act_granted st s act)
  act_stays (acts.Scan table column) = record { past = kept; first = are.first s }
  act_stays acts.Begin = begun_stays (is_open mine.transaction) refl
  act_stays (acts.Unlink o) = called_stays (row_at st s (on_objects (unlink_row o))).granted
  act_stays acts.Commit = committed_stays (is_open mine.transaction) mine.transaction.failed
  act_stays acts.Rollback = rolled_back_stays (is_open mine.transaction)
  act_stays acts.Report = record { past = kept; first = are.first s }
  act_stays acts.Idle = record { past = kept; first = are.first s }

  inside : (rest : List (Option Refusal)) → first_of (no_block st s ∷ rest) ≡ None → 1 ≤ length names
  inside rest none = open_top names (by (is_open mine.transaction) refl)
    where
      by : (b : Bool) → is_open mine.transaction ≡ b → is_open mine.transaction ≡ true
      by true is = is
      by false is = absurd (true≢false (ap not (sym is) ∙ unmet (not (is_open mine.transaction)) NoBlock (pos 0) (first_none (no_block st s) rest none).0))

  named : (P : Option ℕ → Type 0) (name : List ℕ) → first_of (no_block st s ∷ no_savepoint st s name ∷ []) ≡ None → ((k : ℕ) → 2 ≤ k → k ≤ length names → P (Some k)) → P (level_named st s name)
  named P name none each = by (level_named st s name) refl
    where
      there : is_none (level_named st s name) ≡ false
      there = unmet (is_none (level_named st s name)) NoSavepoint (pos 0) (first_none (no_savepoint st s name) [] (first_none (no_block st s) (no_savepoint st s name ∷ []) none).1).0

      by : (found : Option ℕ) → level_named st s name ≡ found → P found
      by None is = absurd (true≢false (ap is_none (sym is) ∙ there))
      by (Some k) is = let bounds = newest_bounds name names k (are.first s) is in each k bounds.0 bounds.1

  granted_stays : (r : Request) → first_of (refusals st s r) ≡ None → Stays (granted st s r)
  granted_stays Begin none = begun_stays (is_open mine.transaction) refl
  granted_stays Commit none = committed_stays (is_open mine.transaction) mine.transaction.failed
  granted_stays Rollback none = rolled_back_stays (is_open mine.transaction)
  granted_stays (Savepoint name) none = record {
    past = past_kept n s sessions (session_saved name mine) es (omega (arith, length-append names (Some name ∷ []))) are.past;
    first = first_more names (Some name) (inside [] none) (are.first s);
  }
  granted_stays (Release name) none = named (λ found. Stays (released_to st s (level_or_0 found))) name none (λ k low high. released_stays k low high)
  granted_stays (RollbackTo name) none = named (λ found. Stays (undone_to st s (level_or_0 found))) name none (λ k low high. undone_stays k high)
  granted_stays Vacuum none = record { past = kept; first = are.first s }
  granted_stays (Vacuumlo dry limit) none = record { past = kept; first = are.first s }
  granted_stays Step none = act_stays (act_of st s)
  granted_stays Finish none = act_stays (act_of st s)
  granted_stays r none = called_stays (row_at st s (call_row r)).granted

  done_stays : (r : Request) → Stays (granted_or_refused st s r (refusal_of st s r))
  done_stays r = by (refusal_of st s r) refl
    where
      by : (refusal : Option Refusal) → refusal_of st s r ≡ refusal → Stays (granted_or_refused st s r refusal)
      by None is = granted_stays r (first_none (failed st s r) (refusals st s r) is).1
      by (Some refusal) is = refused_stays refusal

  pub past_after : (r : Request) → ArePast (state_after st s r)
  past_after r = record {
    past =
        All-weaker (IsPast (n + 1) (with_session_at s (outcome st s r).player.session sessions)) (IsPast (n + 1) (session_of (state_after st s r)))
        (past_as (n + 1) (with_session_at s (outcome st s r).player.session sessions) (session_of (state_after st s r)) (player_as st s (outcome st s r)))
        (outcome st s r).database.edits
        (subst (λ session. All (IsPast (n + 1) (with_session_at s session sessions)) (outcome st s r).database.edits) (sym session)
        (subst (λ database. All (IsPast (n + 1) (with_session_at s whole.player.session sessions)) database.edits) (sym database) (done_stays r).past));
    first = λ t. subst (λ (p : Session). IsFirst p.transaction.levels) (player_as st s (outcome st s r) t)
        (each_session (λ (p : Session). IsFirst p.transaction.levels) s (outcome st s r).player.session sessions
        (subst (λ (p : Session). IsFirst p.transaction.levels) (sym session) (done_stays r).first) (λ u other. are.first u) t);
  }
    where
      whole : Outcome
      whole = granted_or_refused st s r (refusal_of st s r)

      database : (outcome st s r).database ≡ whole.database
      database = told_database st s r (is_some (refusal_of st s r)) whole

      session : (outcome st s r).player.session ≡ whole.player.session
      session = told_line_session st s r (is_some (refusal_of st s r)) whole

pub past_advance : (m : Moment) (s : ℕ) (line : Option Request) → ArePast m.state → ArePast (moment_after m s line).state
past_advance m s None are = are
past_advance m s (Some r) are = past_after m.state s are r

pub past_from : (programs : List (List Request)) (m : Moment) (schedule : List ℕ) → ArePast m.state → ArePast (end_from programs m schedule).state
past_from programs m [] are = are
past_from programs m (s ∷ schedule) are =
    past_from programs (moment_after m s (next_line programs m s)) schedule (past_advance m s (next_line programs m s) are)

pub past_opened : (opening : Opening) → ArePast (start_from opening).state
past_opened opening = record {
  past = past_made 0 0 (session_of (start_from opening).state) [] _ refl;
  first = λ t. tt;
}
