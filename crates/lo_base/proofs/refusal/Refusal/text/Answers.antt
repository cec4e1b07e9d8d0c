-- What stands in `out` where the number or the ending found no memory: the pieces before it, which the text begins with.
use Rattle.std.proofs.Common.{◌≡◌, ◌++◌, refl, append_assoc, rules}
use Rattle.std.proofs.lemmas.Result.{err_from_is_err_and}
use Rattle.std.specs.Fmt.{signed_decimal}
use Rattle.lo_base.specs.Cause.{opening_of, ending_of}
use Rattle.lo_base.specs.Refusal.{numbered}
use Rattle.lo_base.proofs.Fronts.{front_appended}
use Rattle.lo_base.proofs.refusal.Refusal.text.Goals as goal

pub returns-in_err-extend-2-clause-err : goal.returns-in_err-extend-2-clause-err
returns-in_err-extend-2-clause-err c =
    let p = err_from_is_err_and c.from_residual-in_err-extend-2.result c.from_residual-in_err-extend-2.ensures.1 in
    let refusal = c.args.self.now in
    rw p.1
    (front_appended _ _ (opening_of refusal.cause) (numbered refusal.subject (ending_of refusal.cause)) _
    (rw (c.in_err-extend-2.ensures.err, c.in_ok-extend.ensures.ok, c.as_bytes.ensures.value, c.wording.ensures.opening))
    refl)

pub returns-in_err-extend-3-clause-err : goal.returns-in_err-extend-3-clause-err
returns-in_err-extend-3-clause-err c =
    let p = err_from_is_err_and c.from_residual-in_err-extend-3.result c.from_residual-in_err-extend-3.ensures.1 in
    let refusal = c.args.self.now in
    let digits : c.format.result.now ≡ signed_decimal c.args.self.now.subject = search rules in
    rw p.1
    (front_appended _ _ (opening_of refusal.cause ++ signed_decimal refusal.subject) c.in-Some.ending.now _
    (rw (c.in_err-extend-3.ensures.err, c.in_ok-extend-2.ensures.ok, c.in_ok-extend.ensures.ok, c.as_bytes-in-Some.ensures.value, digits, c.as_bytes.ensures.value, c.wording.ensures.opening) (append_assoc c.args.out.now (opening_of refusal.cause) (signed_decimal refusal.subject)))
    (rw (← c.wording.ensures.ending, c.in-Some.is, append_assoc)))
