-- What an engine keeps of a state, and what its calls make of it: that of its server, and each session's clean-up.
use Rattle.std.specs.Prelude.{◌≡◌, ◌≤◌, ℕ, ◌+◌, ◌-◌, List, length, slice_get, Option, Some, None, Result, IfOk, OnOk, OnErr}
use Rattle.lo_base.specs.declared.memory.NoMemory.{NoMemory}
use Rattle.lo_base.specs.declared.reply.Reply.{Reply}
use Rattle.lo_base.specs.declared.request.Request.{Request}
use Rattle.orphan_sweep.specs.declared.act.SweepAct.{SweepAct}
use Rattle.orphan_sweep.specs.declared.act.SweepAct.TheVariants.{Idle}
use Rattle.orphan_sweep.specs.History.{History}
use Rattle.orphan_sweep.specs.State.{next_of}
use Rattle.lo_machine.specs.declared.cleanup.Cleanup.{Cleanup}
use Rattle.lo_machine.specs.declared.engine.Engine.{Engine}
use Rattle.lo_machine.specs.Server as server
use Rattle.lo_machine.specs.State.{State, Outcome}
use Rattle.lo_machine.specs.Step.{reply_to, state_after}
use Rattle.lo_machine.specs.Sweeping.{IsFor, IsOver, sweeps_of, with_sweep_at}

abbrev pub clock_of : Engine → ℕ
clock_of e = server.clock_of e.server

-- each session has its clean-up, or one that is over
pub record HasSweeps (cleanups : List Cleanup) (sweeps : ℕ → Option History) : Type 0 where
  pub each : (s : ℕ) (own : Cleanup) → 1 ≤ s → s ≤ 16 → slice_get cleanups (s - 1) ≡ Some own → IsFor own (sweeps s)

-- the act that a session's clean-up has next
abbrev pub next_at : Option Cleanup → SweepAct
next_at None = Idle
next_at (Some own) = next_of own.sweep

abbrev pub next_in : Engine → (session : ℕ) → SweepAct
next_in e s = next_at (slice_get e.cleanups.items (s - 1))

-- Which states an engine stands for.
pub record StandsFor (e : Engine) (st : State) : Type 0 where
  pub server : server.StandsFor e.server st
  pub sweeps : HasSweeps e.cleanups.items (sweeps_of st)

pub record HasState (e : Engine) : Type 0 where
  pub state : State
  pub stands : StandsFor e state

-- sixteen clean-ups that are over
pub record AreOver (cleanups : List Cleanup) : Type 0 where
  pub sixteen : length cleanups ≡ 16
  pub each : (place : ℕ) (own : Cleanup) → slice_get cleanups place ≡ Some own → IsOver own

-- what an engine keeps through the parts of a request
pub record IsSound (e : Engine) : Type 0 where
  pub server : server.IsServer e.server
  pub sixteen : length e.cleanups.items ≡ 16

-- What an engine keeps through all requests: it stands for some state.
pub record IsEngine (e : Engine) : Type 0 where
  pub sound : IsSound e
  pub rows : server.HasRows e.server
  pub stands : HasState e

-- What a request does to an engine, from every state that it stood for: the reply is that of the step, and the engine then
-- stands for the next state. Where it finds no memory it stands for what it stood for.
pub record Serves (old new : Engine) (session : ℕ) (request : Request) (result : Result Reply NoMemory) : Type 0 where
  pub ok : IfOk result (λ reply. (st : State) → StandsFor old st → (reply ≡ reply_to st session request) × StandsFor new (state_after st session request))
  pub time : OnOk result (clock_of new ≡ clock_of old + 1)
  pub err : OnErr result ((st : State) → StandsFor old st → StandsFor new st)
  pub stays : OnErr result (clock_of new ≡ clock_of old)

-- What is within a step.

-- what an outcome leaves, before the clock moves on
pub record Leaves (e : Engine) (st : State) (session : ℕ) (done : Outcome) : Type 0 where
  pub server : server.Leaves e.server st session done
  pub sweeps : HasSweeps e.cleanups.items (with_sweep_at session done.player.sweep (sweeps_of st))

-- a reply and what was done are those of an outcome, from every state that the engine stood for
pub record Does (old new : Engine) (session : ℕ) (outcome : State → Outcome) (answer : Reply) : Type 0 where
  pub reply : (st : State) → StandsFor old st → answer ≡ (outcome st).reply
  pub leaves : (st : State) → StandsFor old st → Leaves new st session (outcome st)
  pub rows : server.HasRows old.server → server.HasRows new.server
  pub time : clock_of new ≡ clock_of old

-- nothing was done: the engine stands for the states that it stood for
pub record Undone (old new : Engine) : Type 0 where
  pub stands : (st : State) → StandsFor old st → StandsFor new st
  pub rows : server.HasRows old.server → server.HasRows new.server
  pub time : clock_of new ≡ clock_of old
