use Rattle.std.proofs.Common.{◌≡◌, ℕ, ◌+◌, ◌<◌, ◌≤◌, ◌^◌, ◌++◌, length, take, drop, get_or}
use Rattle.lo_base.specs.declared.value.Value.{Value}
use Rattle.toast_plan.specs.Row.{count_outside, fields_of, row_form}
use Rattle.toast_plan.specs.Writing.{HasRange}
use Rattle.toast_plan.proofs.writing.put_fields.Given as goal

abbrev pub invariant-loop-place : goal.invariant-loop-place
invariant-loop-place l = record {
  front : take l.at l.out ++ row_form (fields_of l.table l.number (drop l.place l.values) (drop l.place l.outside)) ≡ row_form (fields_of l.table l.first l.values l.outside);
  rest : drop l.at l.out ≡ drop l.at l.initial.out;
  same : length l.out ≡ length l.initial.out;
  end : l.at + length (row_form (fields_of l.table l.number (drop l.place l.values) (drop l.place l.outside))) ≡ length (row_form (fields_of l.table l.first l.values l.outside));
  numbers : l.number + count_outside (drop l.place l.outside) ≤ 2 ^ 32;
  range : (k : ℕ) (d : Value) → k < l.place → HasRange (get_or l.values k d);
}
