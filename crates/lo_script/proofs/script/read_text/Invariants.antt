-- What was read so far is the script of the lines before those that are left.
use Rattle.std.proofs.Common.{◌+◌, ◌≤◌, length}
use Rattle.lo_script.specs.Script.{script_with}
use Rattle.lo_script.proofs.FirstBadLines.{ReadUpTo}
use Rattle.lo_script.proofs.script.read_text.Given as goal

abbrev pub invariant-loop-rest : goal.invariant-loop-rest
invariant-loop-rest l = record {
  front : ReadUpTo l.marking l.bytes l.rest l.number (script_with l.programs l.order);
  counted : l.number + length l.rest ≤ length l.bytes;
}

abbrev pub decreases-loop-rest : goal.decreases-loop-rest
decreases-loop-rest l = length l.rest
