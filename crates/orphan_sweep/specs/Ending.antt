use Rattle.std.specs.Prelude.{◌≡◌, ◌≤◌, ◌+◌, true, length}
use Rattle.orphan_sweep.specs.declared.act.Told.{Told}
use Rattle.orphan_sweep.specs.Plan.{is_answer_to}
use Rattle.orphan_sweep.specs.History.{History, and_told, acts_left, next_act}

-- an answer to the next act leaves fewer acts than before it, whether or not it is a refusal or finds more
abbrev pub LeavesFewer : History → Told → Type 0
LeavesFewer h answer =
    is_answer_to (next_act h) answer ≡ true → length (acts_left (and_told h answer)) + 1 ≤ length (acts_left h)
