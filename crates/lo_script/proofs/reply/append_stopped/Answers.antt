use Rattle.std.proofs.Common.{◌≡◌, ◌++◌, refl, rules}
use Rattle.std.specs.Prelude.{codes}
use Rattle.std.specs.Fmt.{decimal}
use Rattle.std.proofs.lemmas.Result.{err_from_is_err_and, on_err_weaker}
use Rattle.lo_script.proofs.PrintedFronts.{front_after, front_at_end, two_appended}
use Rattle.lo_script.proofs.reply.append_stopped.Goals as goal

pub returns-in_err-append_spaced-clause-err : goal.returns-in_err-append_spaced-clause-err
returns-in_err-append_spaced-clause-err c =
    let p = err_from_is_err_and c.from_residual-in_err-append_spaced.result c.from_residual-in_err-append_spaced.ensures.1 in
    let number : c.as_bytes.result.now ≡ decimal c.args.oid = search rules in
    let front = rw number at c.in_err-append_spaced.ensures.err in
    rw p.1 (front_after c.args.out.now c.extend.new.self c.append_spaced.new.out (codes "STOPPED") (codes " " ++ decimal c.args.oid) (codes " " ++ decimal c.args.removed) _ front c.in_ok-extend.ensures.ok refl)

pub returns-clause-err : goal.returns-clause-err
returns-clause-err c =
    let number : c.as_bytes.result.now ≡ decimal c.args.oid = search rules in
    let count : c.as_bytes-2.result.now ≡ decimal c.args.removed = search rules in
    let before = two_appended c.args.out.now c.extend.new.self c.append_spaced.new.out (codes "STOPPED") (codes " " ++ decimal c.args.oid) c.in_ok-extend.ensures.ok (rw number at c.in_ok-append_spaced.ensures.ok) in
    on_err_weaker c.append_spaced-2.result
    (λ front. front_at_end c.args.out.now c.append_spaced.new.out c.append_spaced-2.new.out (codes "STOPPED" ++ codes " " ++ decimal c.args.oid) (codes " " ++ decimal c.args.removed) _ front before refl)
    (rw count at c.append_spaced-2.ensures.err)
