use Rattle.std.proofs.Common.{refl}
use Rattle.std.specs.Prelude.{codes}
use Rattle.std.proofs.lemmas.Result.{on_err_weaker}
use Rattle.lo_script.specs.ReplyText.{cell_text}
use Rattle.lo_script.proofs.PrintedFronts.{front_at_end}
use Rattle.lo_script.proofs.reply.append_spaced_cell.Goals as goal

pub returns-clause-err : goal.returns-clause-err
returns-clause-err c =
    on_err_weaker c.append_cell.result
    (λ front. front_at_end c.args.out.now c.push.new.self c.append_cell.new.out (codes " ") (cell_text c.args.cell.now) _ front c.in_ok-push.ensures.ok refl)
    c.append_cell.ensures.err
