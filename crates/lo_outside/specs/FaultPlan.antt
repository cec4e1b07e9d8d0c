-- Which calls of a double in memory fail.
use Rattle.std.specs.Prelude.{ℕ, ◌+◌, ◌-◌, ◌^◌, ◌==◌, ◌&&◌, nat_lt, min, Bool, List, [], if◌then◌else◌}
use Rattle.std.specs.List.{list_any}

-- the numbers of the calls that are to fail, counted from 1; how many calls were made since they were handed over; and
-- how many calls have failed in all
pub record Planned : Type 0 where
  pub numbers : List ℕ
  pub calls : ℕ
  pub faults : ℕ

-- no call is to fail and none was made
abbrev pub no_faults : Planned
no_faults = record { numbers = []; calls = 0; faults = 0 }

-- other numbers are handed over, and the calls are counted anew
abbrev pub handed_over : List ℕ → Planned → Planned
handed_over numbers plan = record { numbers = numbers; calls = 0; faults = plan.faults }

-- one more, in 64 bits that stand still at their last value
abbrev pub one_more : ℕ → ℕ
one_more n = min (n + 1) (2 ^ 64 - 1)

-- the next call's number was handed over. Calls past the last number of 64 bits have no number
abbrev pub is_due : Planned → Bool
is_due plan = nat_lt plan.calls (2 ^ 64 - 1) && list_any (λ n. n == plan.calls + 1) plan.numbers

-- after one more call, which failed or not
abbrev pub after_call : Bool → Planned → Planned
after_call failed plan =
    record {
      numbers = plan.numbers;
      calls = one_more plan.calls;
      faults = (if failed then one_more plan.faults else plan.faults);
    }
