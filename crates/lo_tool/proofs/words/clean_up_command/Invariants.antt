use Rattle.std.proofs.Common.{◌≡◌, ◌≤◌, ◌-◌, Some, drop, length, map}
use Rattle.std.specs.Prelude.{string_bytes}
use Rattle.lo_tool.specs.Command.{clean_up_command, most_limit, plain_clean_up}
use Rattle.lo_tool.proofs.words.clean_up_command.Given as goal

abbrev pub invariant-loop-at : goal.invariant-loop-at
invariant-loop-at l =
    (clean_up_command (Some l.options) (drop l.at (map string_bytes l.arguments)) ≡ clean_up_command (Some plain_clean_up) (map string_bytes l.arguments))
    × ((l.options.limit ≤ most_limit) × (l.at ≤ length l.arguments))

abbrev pub decreases-loop-at : goal.decreases-loop-at
decreases-loop-at l = length l.arguments - l.at
