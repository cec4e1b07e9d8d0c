use Rattle.std.proofs.Common.{drop}
use Rattle.lo_script.specs.ReplyText.{spaced, cell_text}
use Rattle.lo_script.proofs.PrintedFronts.{Leaves}
use Rattle.lo_script.proofs.reply.append_cells.Given as goal

abbrev pub invariant-loop-cell : goal.invariant-loop-cell
invariant-loop-cell l =
    Leaves l.initial.out l.out (spaced cell_text l.cells) (spaced cell_text (drop l.cell-index l.cells))
