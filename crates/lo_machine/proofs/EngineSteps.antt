-- What an engine does of a request, from what its server does and what becomes of the session's clean-up.
use Rattle.std.proofs.Common.{◌≡◌, ◌≤◌, ◌<◌, ℕ, ◌+◌, true, false, List, length, Option, Some, None, refl, ap, sym, subst, ◌∙◌}
use Rattle.std.specs.Prelude.{Ok, Err, Result, OnErr, Bool, ◌==◌, if◌then◌else◌}
use Rattle.lo_base.specs.declared.reply.Reply.{Reply}
use Rattle.lo_base.specs.declared.memory.NoMemory.{NoMemory}
use Rattle.lo_base.specs.declared.request.Request.{Request}
use Rattle.lo_base.specs.declared.request.Request.TheVariants.{Vacuumlo, Step, Finish}
use Rattle.lo_model.specs.Database.{Database}
use Rattle.lo_model.specs.Session.{Session}
use Rattle.orphan_sweep.specs.History.{History}
use Rattle.lo_machine.specs.declared.cleanup.Cleanup.{Cleanup}
use Rattle.lo_machine.specs.declared.engine.Engine.{Engine}
use Rattle.lo_machine.specs.declared.server.Server.{Server}
use Rattle.lo_machine.specs.Engine.{Does, HasSweeps, Leaves, Serves, StandsFor, Undone}
use Rattle.lo_machine.specs.Fitting.{HasKeptRanges, IsFit}
use Rattle.lo_machine.specs.Later.{with_session_at}
use Rattle.lo_machine.specs.CallRows.{shared_of}
use Rattle.lo_machine.specs.Server as server
use Rattle.lo_machine.specs.Served.{IsRanged, is_plain}
use Rattle.lo_machine.specs.Spelled.{IsSpelled}
use Rattle.lo_machine.specs.State.{State, Outcome, Player, Variable, answered, session_of, state_with, variables_of, with_player}
use Rattle.lo_machine.specs.Step.{outcome, reply_to, state_after}
use Rattle.lo_machine.specs.Sweeping.{IsFor, sweeps_of, with_sweep_at}
use Rattle.lo_machine.specs.Well.{IsWell}
use Rattle.lo_machine.proofs.ActOutcomes.{plain_sweep}
use Rattle.lo_machine.proofs.CleanupsKept.{sweeps_kept}
use Rattle.lo_machine.proofs.FitStates.{fit_after}
use Rattle.lo_machine.proofs.ToldSweeps.{IsSame}
use Rattle.lo_machine.proofs.WellStates.{well_after}

-- what leaves one outcome leaves another that is the same but for the clean-up
pub leaves_same : (e : Server) (st : State) (s : ℕ) (one other : Outcome) → IsSame one other → server.Leaves e st s other → server.Leaves e st s one
leaves_same e st s one other same leaves = record {
  time = leaves.time;
  has =
      subst (λ (session : Session). server.Has e one.database.edits (shared_of one.database) (with_session_at s session (session_of st))) (sym same.session)
      (subst (λ (d : Database). server.Has e d.edits (shared_of d) (with_session_at s other.player.session (session_of st))) (sym same.database) leaves.has);
  variables = subst (λ (own : List Variable). server.HasVariables e (server.with_variables_at s own (variables_of st))) (sym same.variables) leaves.variables;
}

-- a request that is none of a clean-up, which the server alone did
pub plain_does : (old : Engine) (new : Server) (s : ℕ) (r : Request) (reply : Reply) → is_plain r ≡ true → server.Does old.server new s (λ st. outcome st s r) reply →
    let e : Engine = record { server = new; cleanups = old.cleanups } in
    Does old e s (λ st. outcome st s r) reply
plain_does old new s r reply plain does = record {
  reply = λ st stands. does.reply st stands.server;
  leaves = λ st stands. record {
    server = does.leaves st stands.server;
    sweeps = sweeps_kept old.cleanups.items s (sweeps_of st) (outcome st s r).player.sweep (plain_sweep st s r plain) stands.sweeps;
  };
  rows = does.rows;
  time = does.time;
}

-- each session's clean-up in the state that an outcome leaves
sweep_as : (st : State) (s : ℕ) (done : Outcome) (t : ℕ) → with_sweep_at s done.player.sweep (sweeps_of st) t ≡ (with_player s done.player st.players t).sweep
sweep_as st s done t = by (t == s)
  where
    by : (b : Bool) → (if b then done.player.sweep else (st.players t).sweep) ≡ (if b then done.player else st.players t).sweep
    by true = refl
    by false = refl

pub sweeps_as : (cleanups : List Cleanup) (st : State) (s : ℕ) (done : Outcome) → HasSweeps cleanups (with_sweep_at s done.player.sweep (sweeps_of st)) → HasSweeps cleanups (sweeps_of (state_with st s done))
sweeps_as cleanups st s done has = record { each = λ t own low high is. subst (IsFor own) (sweep_as st s done t) (has.each t own low high is) }

-- A request was done, and the clock moved on.
module _ (old mid : Engine) (new : Server) (s : ℕ) (r : Request) (reply : Reply) (spelled : IsSpelled r) (ranged : IsRanged r) (kept : HasKeptRanges r) (does : Does old mid s (λ st. outcome st s r) reply) (ticks : (st : State) (t : ℕ) (done : Outcome) → server.Leaves mid.server st t done → IsWell (state_with st t done) → IsFit (state_with st t done) → server.StandsFor new (state_with st t done)) where
  abbrev after : Engine
  after = record { server = new; cleanups = mid.cleanups }

  pub stands_after : (st : State) → StandsFor old st → StandsFor after (state_after st s r)
  stands_after st stands =
      let leaves : Leaves mid st s (outcome st s r) = does.leaves st stands in
      record {
        server = ticks st s (outcome st s r) leaves.server (well_after st s r spelled ranged stands.server.well) (fit_after st s r spelled kept stands.server.well stands.server.fit);
        sweeps = sweeps_as mid.cleanups.items st s (outcome st s r) leaves.sweeps;
      }

  pub serves : server.clock_of new ≡ server.clock_of mid.server + 1 → Serves old after s r (Ok reply)
  serves time = record {
    ok = λ st stands. (does.reply st stands, stands_after st stands);
    time = time ∙ ap (λ (n : ℕ). n + 1) does.time;
    err = tt;
    stays = tt;
  }

-- a request that is none of a clean-up's three
pub plain_request : (r : Request) → ((dry : Bool) (limit : ℕ) → ¬ (r ≡ Vacuumlo dry limit)) → ¬ (r ≡ Step) → ¬ (r ≡ Finish) → is_plain r ≡ true
plain_request (Vacuumlo dry limit) first second third = absurd (first dry limit refl)
plain_request Step first second third = absurd (second refl)
plain_request Finish first second third = absurd (third refl)
plain_request r first second third = refl

-- nothing was done
pub undone_by : (old : Engine) (new : Server) (result : Result Reply NoMemory) → OnErr result (server.Undone old.server new) →
    let e : Engine = record { server = new; cleanups = old.cleanups } in
    OnErr result (Undone old e)
undone_by old new (Ok reply) none = tt
undone_by old new (Err e) none = record {
  stands = λ st stands. record { server = none.stands st stands.server; sweeps = stands.sweeps };
  rows = none.rows;
  time = none.time;
}
