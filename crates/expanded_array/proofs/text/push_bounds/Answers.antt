use Rattle.std.proofs.Common.{◌++◌, ap, sym, subst, ◌∙◌}
use Rattle.std.specs.Int.{w32, cast_unsigned}
use Rattle.std.proofs.lemmas.Int.{to_z-of_z}
use Rattle.std.proofs.lemmas.Result.{on_ok_weaker, on_err_weaker}
use Rattle.lo_base.specs.Appended.{AddsFront}
use Rattle.expanded_array.specs.Text.{explicit_bounds}
use Rattle.expanded_array.proofs.Fronts.{bounds_whole}
use Rattle.expanded_array.proofs.text.push_bounds.Goals as goal

pub returns-clause-ok : goal.returns-clause-ok
returns-clause-ok c =
    let whole = ap (λ l. explicit_bounds l c.args.count) (to_z-of_z w32 c.args.lower c.ranges.lower) ∙ sym (bounds_whole c.args.lower c.args.count (λ e. c.if-lower-eq1.false (ap (cast_unsigned w32) e))) in
    on_ok_weaker c.push_explicit_bounds.result (λ e. e ∙ ap (λ xs. c.args.out.now ++ xs) whole) c.push_explicit_bounds.ensures.ok

pub returns-clause-err : goal.returns-clause-err
returns-clause-err c =
    let whole = ap (λ l. explicit_bounds l c.args.count) (to_z-of_z w32 c.args.lower c.ranges.lower) ∙ sym (bounds_whole c.args.lower c.args.count (λ e. c.if-lower-eq1.false (ap (cast_unsigned w32) e))) in
    on_err_weaker c.push_explicit_bounds.result (λ f. subst (λ t. AddsFront c.args.out.now c.push_explicit_bounds.new.out t) whole f) c.push_explicit_bounds.ensures.err
