use Rattle.std.proofs.Common.{◌≡◌, ◌++◌, drop}
use Rattle.lo_script.specs.ReplyText.{lines_of}
use Rattle.lo_tool.proofs.playing.text_of.Given as goal

abbrev pub invariant-loop-s : goal.invariant-loop-s
invariant-loop-s l = l.text ++ lines_of (drop l.s-index l.replies) ≡ lines_of l.replies
