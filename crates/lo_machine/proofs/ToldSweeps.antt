-- A clean-up is told what became of its act: nothing else of the outcome changes.
use Rattle.std.proofs.Common.{◌≡◌, ℕ, Bool, true, false, Option, Some, None, refl}
use Rattle.lo_base.specs.declared.reply.Reply.{Reply}
use Rattle.lo_base.specs.declared.request.Request.{Request}
use Rattle.lo_base.specs.declared.request.Request.TheVariants.{Step, Finish}
use Rattle.lo_model.specs.Database.{Database}
use Rattle.lo_model.specs.Session.{Session}
use Rattle.orphan_sweep.specs.declared.act.SweepAct.{SweepAct}
use Rattle.orphan_sweep.specs.declared.act.SweepAct.TheVariants as acts
use Rattle.orphan_sweep.specs.declared.act.Told.{Told}
use Rattle.orphan_sweep.specs.History.{History}
use Rattle.lo_machine.specs.State.{State, Outcome, Player, Variable}
use Rattle.lo_machine.specs.Step.{told_sweep}
use Rattle.lo_machine.specs.SweepRows.{act_of, answer_to, told_of, with_answer}

-- the same but for the clean-up
pub record IsSame (one other : Outcome) : Type 0 where
  pub reply : one.reply ≡ other.reply
  pub database : one.database ≡ other.database
  pub session : one.player.session ≡ other.player.session
  pub variables : one.player.variables ≡ other.player.variables

itself : (done : Outcome) → IsSame done done
itself done = record { reply = refl; database = refl; session = refl; variables = refl }

with_session : (answer : Told) (sweep : Option History) (player : Player) → (with_answer answer sweep player).session ≡ player.session
with_session answer None player = refl
with_session answer (Some h) player = refl

with_variables : (answer : Told) (sweep : Option History) (player : Player) → (with_answer answer sweep player).variables ≡ player.variables
with_variables answer None player = refl
with_variables answer (Some h) player = refl

-- an act's outcome
pub told_same : (st : State) (s : ℕ) (act : SweepAct) (refused : Bool) (done : Outcome) → IsSame (told_of st s act refused done) done
told_same st s acts.Idle refused done = itself done
told_same st s act refused done = record {
  reply = refl;
  database = refl;
  session = with_session (answer_to st s act refused) (st.players s).sweep done.player;
  variables = with_variables (answer_to st s act refused) (st.players s).sweep done.player;
}

-- a request's outcome
pub request_same : (st : State) (s : ℕ) (r : Request) (refused : Bool) (done : Outcome) → IsSame (told_sweep st s r refused done) done
request_same st s Step refused done = told_same st s (act_of st s) refused done
request_same st s Finish refused done = told_same st s (act_of st s) refused done
request_same st s r refused done = itself done
