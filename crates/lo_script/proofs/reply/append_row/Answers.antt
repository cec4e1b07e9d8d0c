use Rattle.std.proofs.Common.{refl}
use Rattle.std.specs.Prelude.{codes}
use Rattle.std.proofs.lemmas.Result.{on_err_weaker}
use Rattle.lo_script.specs.ReplyText.{spaced, cell_text}
use Rattle.lo_script.proofs.PrintedFronts.{front_at_end}
use Rattle.lo_script.proofs.reply.append_row.Goals as goal

pub returns-clause-err : goal.returns-clause-err
returns-clause-err c =
    on_err_weaker c.append_cells.result
    (λ front. front_at_end c.args.out.now c.extend.new.self c.append_cells.new.out (codes "ROW") (spaced cell_text c.args.cells.now) _ front c.in_ok-extend.ensures.ok refl)
    c.append_cells.ensures.err
