use Rattle.std.specs.Prelude.{◌≡◌, ℕ, ◌≤◌, List, [], ◌∷◌, ◌++◌, All, IsSome}
use Rattle.lo_base.specs.declared.reply.Reply.{Reply}
use Rattle.lo_base.specs.declared.request.Request.{Request}
use Rattle.lo_model.specs.Opening.{Opening}
use Rattle.lo_machine.specs.Run.{Moment, next_line, moment_after, replies_at, replies_from, end_from, schedule_of_line, start_from, IsPlayable}

-- What contracts see of a run: the opening and the programs that it was given, the schedule so far, and the replies, each
-- with its session.
pub record Play : Type 0 where
  pub opening : Opening
  pub programs : List (List Request)
  pub schedule : List ℕ
  pub replies : List (ℕ × Reply)

-- where a run stands
abbrev pub moment_of : Play → Moment
moment_of play = end_from play.programs (start_from play.opening) play.schedule

-- the session has a line left
abbrev pub HasLine : Play → (session : ℕ) → Type 0
HasLine play s = IsSome (next_line play.programs (moment_of play) s)

-- replaying the programs over the schedule, from the opening on, gives the replies
abbrev pub Replays : Play → Type 0
Replays play = play.replies ≡ replies_from play.programs (start_from play.opening) play.schedule

-- each advance so far was defined: it was one of a session that had a line left
pub record IsPlayed (play : Play) : Type 0 where
  pub sessions : All (λ session. 1 ≤ session) play.schedule
  pub playable : IsPlayable play.programs (start_from play.opening) play.schedule

-- one advance more: one entry of the schedule and one reply at the end, which is that of the session's next line where
-- the run stood; the opening, the programs and all earlier entries stay
pub record Advances (session : ℕ) (old new : Play) : Type 0 where
  pub opening : new.opening ≡ old.opening
  pub programs : new.programs ≡ old.programs
  pub schedule : new.schedule ≡ old.schedule ++ session ∷ []
  pub replies : new.replies ≡ old.replies ++ replies_at (moment_of old) session (next_line old.programs (moment_of old) session)
  pub moment : moment_of new ≡ moment_after (moment_of old) session (next_line old.programs (moment_of old) session)

-- a session's next line was done: the schedule has its advances more, which lead to where the run stands
pub record DoesLine (session : ℕ) (old new : Play) : Type 0 where
  pub opening : new.opening ≡ old.opening
  pub programs : new.programs ≡ old.programs
  pub schedule : new.schedule ≡ old.schedule ++ schedule_of_line old.programs (moment_of old) session
  pub moment : moment_of new ≡ end_from old.programs (moment_of old) (schedule_of_line old.programs (moment_of old) session)
