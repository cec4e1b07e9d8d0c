use Rattle.toast_plan.proofs.PlanLaws.{length_outside, small_stay_holds, nulls_stay_holds, plain_stay_holds, longer_first_holds, longer_second_holds, first_needed_holds, second_needed_holds, first_enough_holds, second_enough_holds}
use Rattle.toast_plan.proofs.law.plan_laws.Goals as goal

pub returns : goal.returns
returns c = record {
  one_mark_each = length_outside;
  small_stay = small_stay_holds;
  nulls_stay = nulls_stay_holds;
  plain_stay = plain_stay_holds;
  longer_first = longer_first_holds;
  longer_main_first = longer_second_holds;
  first_needed = first_needed_holds;
  second_needed = second_needed_holds;
  first_enough = first_enough_holds;
  second_enough = second_enough_holds;
}
