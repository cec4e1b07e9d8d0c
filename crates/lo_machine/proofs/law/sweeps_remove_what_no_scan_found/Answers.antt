use Rattle.lo_machine.proofs.SweepAgain.{removes_in_run}
use Rattle.lo_machine.proofs.SweepGroups.{commits_whole}
use Rattle.lo_machine.proofs.SweepReports.{keeps_history}
use Rattle.lo_machine.proofs.SweepRuns.{comes_from, ends_at_run}
use Rattle.lo_machine.proofs.SweepStops.{reports_at_end}
use Rattle.lo_machine.proofs.SweepUnrefused.{alone_unstopped}
use Rattle.lo_machine.proofs.law.sweeps_remove_what_no_scan_found.Goals as goal

pub returns : goal.returns
returns c = record {
  begun = comes_from;
  runs = ends_at_run;
  told = keeps_history;
  reported = reports_at_end;
  whole = commits_whole;
  removes = removes_in_run;
  alone = alone_unstopped;
}
