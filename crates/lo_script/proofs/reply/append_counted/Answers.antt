use Rattle.std.proofs.Common.{◌≡◌, ◌++◌, refl, rules}
use Rattle.std.specs.Prelude.{codes}
use Rattle.std.specs.Fmt.{decimal}
use Rattle.std.proofs.lemmas.Result.{on_err_weaker}
use Rattle.lo_script.specs.ReplyText.{word_text}
use Rattle.lo_script.proofs.PrintedFronts.{front_at_end}
use Rattle.lo_script.proofs.reply.append_counted.Goals as goal

pub returns-clause-err : goal.returns-clause-err
returns-clause-err c =
    let word : c.as_bytes.result.now ≡ word_text c.args.what = search rules in
    let number : c.as_bytes-2.result.now ≡ decimal c.args.count = search rules in
    let first : c.extend.new.self ≡ c.args.out.now ++ word_text c.args.what = rw (← word) c.in_ok-extend.ensures.ok in
    on_err_weaker c.append_spaced.result
    (λ front. front_at_end c.args.out.now c.extend.new.self c.append_spaced.new.out (word_text c.args.what) (codes " " ++ decimal c.args.count) _ front first refl)
    (rw number at c.append_spaced.ensures.err)
