use Rattle.std.proofs.Common.{refl}
use Rattle.std.specs.Prelude.{codes}
use Rattle.std.proofs.lemmas.Result.{on_err_weaker}
use Rattle.hex.specs.Hex.{encode_lower}
use Rattle.lo_script.proofs.PrintedFronts.{front_at_end}
use Rattle.lo_script.proofs.reply.append_bytes.Goals as goal

pub returns-clause-err : goal.returns-clause-err
returns-clause-err c =
    on_err_weaker c.append_hex.result
    (λ front. front_at_end c.args.out.now c.extend.new.self c.append_hex.new.out (codes "\\x") (encode_lower c.args.bytes.now) _ front c.in_ok-extend.ensures.ok refl)
    c.append_hex.ensures.err
