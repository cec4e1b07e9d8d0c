use Rattle.std.specs.Prelude.{◌≡◌, ℕ, ◌+◌, ◌<◌, ◌≤◌, length, slice_index}
use Rattle.lo_opening.specs.Meaning.{opening_of}
use Rattle.lo_machine.specs.declared.running.Running.TheInside.{Inside}
use Rattle.lo_machine.specs.Engine.{IsEngine, StandsFor}
use Rattle.lo_machine.specs.Program.{program_of}
use Rattle.lo_machine.specs.Replay.{Play, Replays, IsPlayed, moment_of}

abbrev pub play_of : Inside → Play
play_of r = record { opening = opening_of r.opening; programs = r.programs; schedule = r.schedule.items; replies = r.replies.items }

-- What every run keeps. Its state has had one advance for each entry of the schedule.
pub record IsReplay (r : Inside) : Type 0 where
  pub replays : Replays (play_of r)
  pub played : IsPlayed (play_of r)
  pub sound : IsEngine r.engine
  pub stands : StandsFor r.engine (moment_of (play_of r)).state
  pub time : (moment_of (play_of r)).state.advances ≡ length r.schedule.items
  pub sessions : length r.lines_done.items ≡ 16
  pub within : (place : ℕ) → place < 16 → slice_index r.lines_done.items place ≤ length (program_of r.programs (place + 1))
  pub lines_done : (place : ℕ) → place < 16 → slice_index r.lines_done.items place ≡ (moment_of (play_of r)).lines_done (place + 1)
