use Rattle.std.proofs.Common.{◌++◌, ◌∙◌, refl}
use Rattle.std.specs.Prelude.{codes}
use Rattle.std.proofs.lemmas.Result.{err_from_is_err_and, on_err_weaker}
use Rattle.lo_base.proofs.Fronts.{front_appended}
use Rattle.lo_script.specs.Token.{mark_of}
use Rattle.lo_script.specs.ReplyText.{text_of}
use Rattle.lo_script.proofs.PrintedFronts.{front_after, two_appended}
use Rattle.lo_script.proofs.reply.reply_text.Goals as goal

pub returns-in_err-append_reply-clause-err : goal.returns-in_err-append_reply-clause-err
returns-in_err-append_reply-clause-err c =
    let p = err_from_is_err_and c.from_residual-in_err-append_reply.result c.from_residual-in_err-append_reply.ensures.1 in
    let mark = rw c.number.ensures.same at c.in_ok-extend.ensures.ok in
    rw p.1 (front_after c.args.out.now c.extend.new.self c.append_reply.new.out (mark_of c.args.s ++ codes " ") (text_of c.args.reply.now) (codes "\n") _ c.in_err-append_reply.ensures.err mark refl)

pub returns-clause-err : goal.returns-clause-err
returns-clause-err c =
    let mark = rw c.number.ensures.same at c.in_ok-extend.ensures.ok in
    let before = two_appended c.args.out.now c.extend.new.self c.append_reply.new.out (mark_of c.args.s ++ codes " ") (text_of c.args.reply.now) mark c.in_ok-append_reply.ensures.ok in
    on_err_weaker c.push.result
    (λ same. front_appended c.args.out.now c.push.new.self (mark_of c.args.s ++ codes " " ++ text_of c.args.reply.now) (codes "\n") _ (same ∙ before) refl)
    c.push.ensures.err
