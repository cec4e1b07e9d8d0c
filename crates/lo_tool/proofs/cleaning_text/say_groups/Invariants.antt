use Rattle.std.proofs.Common.{◌≡◌, ◌≤◌, ◌++◌, length}
use Rattle.std.specs.Prelude.{flat_map}
use Rattle.lo_tool.specs.CleanUpTexts.{group_lines}
use Rattle.lo_tool.proofs.CleanUpTold.{cut_by}
use Rattle.lo_tool.proofs.cleaning_text.say_groups.Given as goal

abbrev pub invariant-loop-left : goal.invariant-loop-left
invariant-loop-left l =
    (l.text ++ flat_map group_lines (cut_by l.most l.left) ≡ l.fn.text ++ flat_map group_lines (cut_by l.most l.rest))
    × (length l.left ≤ length l.rest)

abbrev pub decreases-loop-left : goal.decreases-loop-left
decreases-loop-left l = length l.left
