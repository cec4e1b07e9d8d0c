use Rattle.std.proofs.Common.{refl}
use Rattle.std.specs.Prelude.{codes}
use Rattle.std.specs.Fmt.{signed_decimal}
use Rattle.std.proofs.lemmas.Result.{on_err_weaker}
use Rattle.lo_script.specs.ReplyText.{spaced}
use Rattle.lo_script.proofs.PrintedFronts.{front_at_end}
use Rattle.lo_script.proofs.reply.append_ids.Goals as goal

pub returns-clause-err : goal.returns-clause-err
returns-clause-err c =
    on_err_weaker c.append_numbers.result
    (λ front. front_at_end c.args.out.now c.extend.new.self c.append_numbers.new.out (codes "IDS") (spaced signed_decimal c.args.ids.now) _ front c.in_ok-extend.ensures.ok refl)
    c.append_numbers.ensures.err
