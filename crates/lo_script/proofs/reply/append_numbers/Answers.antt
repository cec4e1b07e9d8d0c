use Rattle.std.proofs.Common.{◌≡◌, get_or, pos, refl, rules, arith}
use Rattle.std.specs.Fmt.{signed_decimal}
use Rattle.std.proofs.lemmas.Result.{err_from_is_err_and}
use Rattle.lo_script.proofs.PrintedFronts.{stopped_at}
use Rattle.lo_script.proofs.reply.append_numbers.Goals as goal

pub returns-in_err-append_spaced-clause-err : goal.returns-in_err-append_spaced-clause-err
returns-in_err-append_spaced-clause-err c =
    let p = err_from_is_err_and c.from_residual.result c.from_residual.ensures.1 in
    let here = get_or c.args.numbers.now c.loop-n.n-index (pos 0) in
    let number : c.as_bytes.result.now ≡ signed_decimal here = search rules in
    rw p.1
    (stopped_at signed_decimal c.args.numbers.now c.loop-n.n-index here (pos 0) c.args.out.now c.loop-n.out c.append_spaced.new.out
    (search (rules, arith)) refl c.loop-n.invariant (rw number at c.in_err-append_spaced.ensures.err))
