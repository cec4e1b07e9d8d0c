use Rattle.std.proofs.Common.{◌≡◌, ◌++◌, drop}
use Rattle.std.specs.Prelude.{flat_map}
use Rattle.lo_tool.specs.Texts.{data_line}
use Rattle.lo_tool.proofs.text.objects_text.Given as goal

abbrev pub invariant-loop-object : goal.invariant-loop-object
invariant-loop-object l = l.text ++ flat_map data_line (drop l.object-index l.objects) ≡ flat_map data_line l.objects
