-- The law of clean-ups, of each clean-up of a run.
use Rattle.lo_machine.specs.Replay.{Play}
use Rattle.lo_machine.specs.SweepLaw.{IsSweepOf, KeepsSweepLaw, Sweeping}
use Rattle.lo_machine.proofs.SweepGroups.{commits_whole}
use Rattle.lo_machine.proofs.SweepAgain.{removes_in_run}
use Rattle.lo_machine.proofs.SweepReports.{keeps_history}
use Rattle.lo_machine.proofs.SweepRuns.{ends_at_run}
use Rattle.lo_machine.proofs.SweepStops.{reports_at_end}

pub keeps_law : (play : Play) (w : Sweeping) → IsSweepOf play w → KeepsSweepLaw play w
keeps_law play w is = record {
  ends = ends_at_run play w is;
  history = keeps_history w is.sweeping;
  reported = λ line. reports_at_end w line is.sweeping;
  whole = commits_whole w is.sweeping;
  removes = removes_in_run play w;
}
