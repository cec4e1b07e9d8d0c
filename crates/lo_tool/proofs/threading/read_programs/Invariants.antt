use Rattle.std.proofs.Common.{map, take}
use Rattle.std.specs.Prelude.{string_bytes}
use Rattle.lo_tool.specs.Outside.{files_state}
use Rattle.lo_tool.specs.ThreadsWork.{HasRead}
use Rattle.lo_tool.proofs.threading.read_programs.Given as goal

abbrev pub invariant-loop-place : goal.invariant-loop-place
invariant-loop-place g l =
    HasRead (files_state g.F.Files l.fn.files) (files_state g.F.Files l.files) (take l.place (map string_bytes l.names)) l.programs
