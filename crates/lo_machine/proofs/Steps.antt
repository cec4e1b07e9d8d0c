-- A request that is served: a failed block refuses it, or it is tried; and the clock moves on.
use Rattle.std.proofs.Common.{◌≡◌, ◌≤◌, ℕ, zero, suc, pos, ◌+◌, ◌-◌, Bool, true, false, not, ◌∷◌, Option, None, refl, ap, sym, subst, ◌∙◌}
use Rattle.std.specs.Prelude.{◌&&◌, ◌==◌, if◌then◌else◌, is_some, slice_index_or, Ok}
use Rattle.std.proofs.lemmas.Bool.{true≢false, false≢true}
use Rattle.lo_base.specs.declared.refusal.Cause.TheVariants.{Failed}
use Rattle.lo_base.specs.declared.refusal.Refusal.{Refusal}
use Rattle.lo_base.specs.declared.reply.Reply.{Reply}
use Rattle.lo_base.specs.declared.request.Request.{Request}
use Rattle.lo_base.specs.declared.request.Request.TheVariants.{Commit, Rollback, RollbackTo, Step, Finish}
use Rattle.lo_calls.specs.Terms.{when}
use Rattle.lo_model.specs.Session.{Session}
use Rattle.lo_pages.specs.Outcome.{first_of}
use Rattle.lo_pages.proofs.Standing.{go_ticked, stand_ticked}
use Rattle.row_tables.proofs.Laws.{with_ticked}
use Rattle.row_tables.proofs.Resting.{for_ticked}
use Rattle.xact_core.specs.Transactions.{Transactions, levels_of}
use Rattle.lo_machine.specs.declared.server.Server.{Server}
use Rattle.lo_machine.specs.Server.{xacts_of, HasRows, IsServer, HasSession, with_variables_at, StandsFor, Serves, Leaves, Does}
use Rattle.lo_machine.specs.Fitting.{HasKeptRanges, IsFit}
use Rattle.lo_machine.specs.Served.{IsRanged, IsPlain, is_plain}
use Rattle.lo_machine.specs.State.{State, Outcome, session_of, variables_of, refused, with_player, state_with}
use Rattle.lo_machine.specs.Step.{refusals, may_go_on, failed, refusal_of, granted_or_refused, tried, outcome}
use Rattle.lo_machine.specs.Terms.{refusal}
use Rattle.lo_machine.specs.Transactions.{may_recover}
use Rattle.lo_machine.specs.Variables.{IsAs}
use Rattle.lo_machine.specs.Well.{IsFirst, IsWell}
use Rattle.lo_machine.proofs.BlockRequests.{does_as, failure_is}
use Rattle.lo_machine.proofs.FitStates.{fit_after}
use Rattle.lo_machine.proofs.WellStates.{player_as, untold, well_after}

recovers : (st : State) (s : ℕ) (r : Request) → may_recover r ≡ true → may_go_on st s r ≡ true
recovers st s Commit is = refl
recovers st s Rollback is = refl
recovers st s (RollbackTo name) is = refl
recovers st s r is = absurd (false≢true is)

stops : (st : State) (s : ℕ) (r : Request) → is_plain r ≡ true → may_recover r ≡ false → may_go_on st s r ≡ false
stops st s Commit served is = absurd (true≢false is)
stops st s Rollback served is = absurd (true≢false is)
stops st s (RollbackTo name) served is = absurd (true≢false is)
stops st s Step served is = absurd (false≢true served)
stops st s Finish served is = absurd (false≢true served)
stops st s r served is = refl

both_false : (b : Bool) → (b && false) ≡ false
both_false true = refl
both_false false = refl

-- a request that a failed block lets through is tried
goes_on : (st : State) (s : ℕ) (r : Request) → ((session_of st s).transaction.failed ≡ true → may_recover r ≡ true) → failed st s r ≡ None
goes_on st s r may = by (session_of st s).transaction.failed refl
  where
    by : (b : Bool) → (session_of st s).transaction.failed ≡ b → failed st s r ≡ None
    by true is = ap (λ (b : Bool). when b Failed (pos 0)) (ap (λ (b : Bool). (session_of st s).transaction.failed && not b) (recovers st s r (may is)) ∙ both_false (session_of st s).transaction.failed)
    by false is = rw is refl

is_tried : (st : State) (s : ℕ) (r : Request) → is_plain r ≡ true → failed st s r ≡ None → tried st s r ≡ outcome st s r
is_tried st s r served none =
    ap (λ (term : Option Refusal). granted_or_refused st s r (first_of (term ∷ refusals st s r))) (sym none)
    ∙ sym (untold st s r (is_some (refusal_of st s r)) (granted_or_refused st s r (refusal_of st s r)) served)

is_refused : (st : State) (s : ℕ) (r : Request) → is_plain r ≡ true → (session_of st s).transaction.failed ≡ true → may_recover r ≡ false → refused st s (refusal Failed (pos 0)) ≡ outcome st s r
is_refused st s r served fails may_not =
    ap (λ (term : Option Refusal). granted_or_refused st s r (first_of (term ∷ refusals st s r))) (sym holds)
    ∙ sym (untold st s r (is_some (refusal_of st s r)) (granted_or_refused st s r (refusal_of st s r)) served)
  where
    holds : failed st s r ≡ when true Failed (pos 0)
    holds = rw (fails, stops st s r served may_not) refl

module _ (s : ℕ) (low : 1 ≤ s) (high : s ≤ 16) (old new : Server) (r : Request) (served : is_plain r ≡ true) (fails : Bool) (failure : fails ≡ slice_index_or old.failed.items (s - 1) false) (answer : Reply) where
  pub tried_does : (fails ≡ true → may_recover r ≡ true) → Does old new s (λ st. tried st s r) answer → Does old new s (λ st. outcome st s r) answer
  tried_does may does = does_as old new s (λ st. tried st s r) (λ st. outcome st s r) answer (λ st stands. is_tried st s r served (goes_on st s r (λ is. may (sym (failure_is s low high old fails failure st stands) ∙ is)))) does

  pub failed_does : fails ≡ true → may_recover r ≡ false → Does old new s (λ st. refused st s (refusal Failed (pos 0))) answer → Does old new s (λ st. outcome st s r) answer
  failed_does is may_not does = does_as old new s (λ st. refused st s (refusal Failed (pos 0))) (λ st. outcome st s r) answer (λ st stands. is_refused st s r served (failure_is s low high old fails failure st stands ∙ is) may_not) does

-- The clock moves on.

abbrev pub later_at : Transactions → Transactions
later_at x = record x { clock = x.clock + 1 }

pub levels_later : (x : Transactions) (s : ℕ) → levels_of (later_at x) s ≡ levels_of x s
levels_later x zero = refl
levels_later x (suc i) = refl

abbrev pub with_xacts : Server → Transactions → Server
with_xacts e x = record e { core = record { xacts = x } }

pub ticked_sound : (e : Server) (x : Transactions) → x ≡ later_at (xacts_of e) → IsServer e → IsServer (with_xacts e x)
ticked_sound e x is sound = subst (λ (y : Transactions). IsServer (with_xacts e y)) (sym is) record {
  goes = go_ticked (xacts_of e) (later_at (xacts_of e)) e.store.pages (record { is = refl }) sound.goes;
  whole = record { whole = sound.whole.whole };
  counter = sound.counter;
  undos = sound.undos;
  flags = sound.flags;
  sixteen = sound.sixteen;
  sixteen_lists = sound.sixteen_lists;
  sixteen_levels = sound.sixteen_levels;
  placed = sound.placed;
  held = sound.held;
  own = sound.own;
  numbered = sound.numbered;
  named = sound.named;
  first = λ s. subst IsFirst (sym (levels_later (xacts_of e) s)) (sound.first s);
}

ticked_session : (e : Server) (s : ℕ) (session : Session) → HasSession e s session → HasSession (with_xacts e (later_at (xacts_of e))) s session
ticked_session e s session has = record { levels = levels_later (xacts_of e) s ∙ has.levels; failed = has.failed; descriptors = has.descriptors; cursors = has.cursors; leveled = has.leveled }

-- a session's variables in the state that an outcome leaves
variables_as : (st : State) (s : ℕ) (done : Outcome) (t : ℕ) → with_variables_at s done.player.variables (variables_of st) t ≡ (with_player s done.player st.players t).variables
variables_as st s done t = by (t == s)
  where
    by : (b : Bool) → (if b then done.player.variables else (st.players t).variables) ≡ (if b then done.player else st.players t).variables
    by true = refl
    by false = refl

pub ticked_rows : (e : Server) (x : Transactions) → x ≡ later_at (xacts_of e) → HasRows e → HasRows (with_xacts e x)
ticked_rows e x is goes = with_ticked e.tables (xacts_of e) x (record { is = is }) goes

pub ticked_stands : (e : Server) (st : State) (s : ℕ) (done : Outcome) → Leaves e st s done → IsWell (state_with st s done) → IsFit (state_with st s done) → StandsFor (with_xacts e (later_at (xacts_of e))) (state_with st s done)
ticked_stands e st s done leaves well fit = record {
  time = ap (λ (n : ℕ). n + 1) leaves.time;
  has = record {
    edits = stand_ticked (xacts_of e) (later_at (xacts_of e)) e.store.pages done.database.edits (record { is = refl }) leaves.has.edits;
    rows = for_ticked e.tables (xacts_of e) (later_at (xacts_of e)) done.database.edits (record { is = refl }) leaves.has.rows;
    counter = leaves.has.counter;
    tables = leaves.has.tables;
    sessions = λ t low high. ticked_session e t (with_player s done.player st.players t).session (subst (HasSession e t) (player_as st s done t) (leaves.has.sessions t low high));
  };
  variables = record { each = λ t own low high is. subst (IsAs own) (variables_as st s done t) (leaves.variables.each t own low high is) };
  well = well;
  fit = fit;
}
