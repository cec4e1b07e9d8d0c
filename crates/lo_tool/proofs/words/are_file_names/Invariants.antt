use Rattle.std.proofs.Common.{◌≡◌, drop, map}
use Rattle.std.specs.Prelude.{string_bytes}
use Rattle.lo_tool.specs.Command.{are_file_names}
use Rattle.lo_tool.proofs.words.are_file_names.Given as goal

abbrev pub invariant-loop-word : goal.invariant-loop-word
invariant-loop-word l = are_file_names (map string_bytes (drop l.word-index l.words)) ≡ are_file_names (map string_bytes l.words)
