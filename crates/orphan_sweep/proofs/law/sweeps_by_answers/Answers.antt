use Rattle.orphan_sweep.proofs.AskedActs.{keeps_answers, asks_by_plan, removes_the_rest, stops_at_a_refusal, only_scans}
use Rattle.orphan_sweep.proofs.Reports.{is_idle_after_report}
use Rattle.orphan_sweep.proofs.OneMoreAnswer.{state-told}
use Rattle.orphan_sweep.proofs.Rests.{is_the_rest, are_groups}
use Rattle.orphan_sweep.proofs.law.sweeps_by_answers.Goals as goal

pub returns : goal.returns
returns c = record {
  state = state-told;
  history = keeps_answers;
  plan = asks_by_plan;
  whole = removes_the_rest;
  refused = stops_at_a_refusal;
  dry = only_scans;
  idle = is_idle_after_report;
  rest = is_the_rest;
  cut = are_groups;
}
