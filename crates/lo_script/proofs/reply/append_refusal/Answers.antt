-- What stands in `out` where there was no memory: the pieces before, and a front of the text of the cause.
use Rattle.std.proofs.Common.{◌≡◌, ◌++◌, refl, append_assoc, rules}
use Rattle.std.specs.Prelude.{codes}
use Rattle.std.proofs.lemmas.Result.{err_from_is_err_and, on_err_weaker}
use Rattle.lo_base.specs.Cause.{code_of}
use Rattle.lo_base.specs.Code.{sqlstate_of}
use Rattle.lo_base.specs.Refusal.{text_of}
use Rattle.lo_base.proofs.Fronts.{front_appended}
use Rattle.lo_script.proofs.PrintedFronts.{front_at_end, two_appended}
use Rattle.lo_script.proofs.reply.append_refusal.Goals as goal

pub returns-in_err-extend-2-clause-err : goal.returns-in_err-extend-2-clause-err
returns-in_err-extend-2-clause-err c =
    let p = err_from_is_err_and c.from_residual-in_err-extend-2.result c.from_residual-in_err-extend-2.ensures.1 in
    rw (p.1, c.in_err-extend-2.ensures.err) (front_appended c.args.out.now c.extend.new.self (codes "ERROR ") _ _ c.in_ok-extend.ensures.ok refl)

pub returns-in_err-extend-3-clause-err : goal.returns-in_err-extend-3-clause-err
returns-in_err-extend-3-clause-err c =
    let p = err_from_is_err_and c.from_residual-in_err-extend-3.result c.from_residual-in_err-extend-3.ensures.1 in
    let sqlstate = sqlstate_of (code_of c.args.refusal.now.cause) in
    let code : c.as_bytes.result.now ≡ sqlstate = search rules in
    let coded : c.extend-2.new.self ≡ c.extend.new.self ++ sqlstate = rw (← code) c.in_ok-extend-2.ensures.ok in
    let pieces = two_appended c.args.out.now c.extend.new.self c.extend-2.new.self (codes "ERROR ") sqlstate c.in_ok-extend.ensures.ok coded in
    rw (p.1, c.in_err-extend-3.ensures.err)
    (front_appended c.args.out.now c.extend-2.new.self (codes "ERROR " ++ sqlstate) (codes ": " ++ text_of c.args.refusal.now) _ pieces
    (append_assoc (codes "ERROR " ++ sqlstate) (codes ": ") (text_of c.args.refusal.now)))

pub returns-clause-err : goal.returns-clause-err
returns-clause-err c =
    let sqlstate = sqlstate_of (code_of c.args.refusal.now.cause) in
    let code : c.as_bytes.result.now ≡ sqlstate = search rules in
    let coded : c.extend-2.new.self ≡ c.extend.new.self ++ sqlstate = rw (← code) c.in_ok-extend-2.ensures.ok in
    let two = two_appended c.args.out.now c.extend.new.self c.extend-2.new.self (codes "ERROR ") sqlstate c.in_ok-extend.ensures.ok coded in
    let three = two_appended c.args.out.now c.extend-2.new.self c.extend-3.new.self (codes "ERROR " ++ sqlstate) (codes ": ") two c.in_ok-extend-3.ensures.ok in
    on_err_weaker c.text.result
    (λ front. front_at_end c.args.out.now c.extend-3.new.self c.text.new.out (codes "ERROR " ++ sqlstate ++ codes ": ") (text_of c.args.refusal.now) _ front three refl)
    c.text.ensures.err
