use Rattle.std.proofs.Common.{rules, ◌≡◌, ◌<◌, ◌≤◌, ◌+◌, length, Some, List, arith, refl, sym, subst}
use Rattle.std.specs.Prelude.{slice_get}
use Rattle.std.proofs.lemmas.Option.{slice_get_read}
use Rattle.lo_base.specs.declared.value.Value.{Value}
use Rattle.lo_machine.specs.Literals.{DeniesValues}
use Rattle.lo_machine.proofs.RowJudged.{Judged, all_judged_so, drop_here, handed_on, judged_bad, judged_more}
use Rattle.lo_machine.proofs.literals.values_of.Goals as goal

pub returns-in_err-value-clause-err : goal.returns-in_err-value-clause-err
returns-in_err-value-clause-err c =
    let counted : length c.args.columns.now ≡ length c.args.literals.now = search rules in
    let within : c.loop-index.index < length c.args.columns.now = search rules in
    let column : slice_get c.args.columns.now c.loop-index.index ≡ Some c.index-columns-index.result = slice_get_read c.args.columns.now (length c.args.columns.now) c.loop-index.index c.index-columns-index.result refl within c.index-columns-index.is in
    let literal : slice_get c.args.literals.now c.loop-index.index ≡ Some c.index-literals-index.result = slice_get_read c.args.literals.now (length c.args.literals.now) c.loop-index.index c.index-literals-index.result refl (omega (arith, counted, within)) c.index-literals-index.is in
    handed_on (DeniesValues c.args.own.now c.args.columns.now c.args.literals.now) c.from_residual.result c.in_err-value.field-0.0 c.from_residual.ensures.1
    (judged_bad c.args.own.now c.args.columns.now c.args.literals.now c.loop-index.index c.loop-index.values c.loop-index.invariant c.index-columns-index.result c.index-literals-index.result
    (drop_here c.args.columns.now c.loop-index.index c.index-columns-index.result column)
    (drop_here c.args.literals.now c.loop-index.index c.index-literals-index.result literal)
    counted c.in_err-value.field-0.0 c.in_err-value.ensures.err)

pub loop-index-preserved : goal.loop-index-preserved
loop-index-preserved c =
    let counted : length c.args.columns.now ≡ length c.args.literals.now = search rules in
    let within : c.loop-index.index < length c.args.columns.now = search rules in
    let column : slice_get c.args.columns.now c.loop-index.index ≡ Some c.index-columns-index.result = slice_get_read c.args.columns.now (length c.args.columns.now) c.loop-index.index c.index-columns-index.result refl within c.index-columns-index.is in
    let literal : slice_get c.args.literals.now c.loop-index.index ≡ Some c.index-literals-index.result = slice_get_read c.args.literals.now (length c.args.literals.now) c.loop-index.index c.index-literals-index.result refl (omega (arith, counted, within)) c.index-literals-index.is in
    subst (λ (row : List Value). Judged c.args.own.now c.args.columns.now c.args.literals.now (c.loop-index.index + 1) row) (sym c.in_ok-push.ensures.ok)
    (judged_more c.args.own.now c.args.columns.now c.args.literals.now c.loop-index.index c.loop-index.values c.loop-index.invariant c.index-columns-index.result c.index-literals-index.result
    (drop_here c.args.columns.now c.loop-index.index c.index-columns-index.result column)
    (drop_here c.args.literals.now c.loop-index.index c.index-literals-index.result literal)
    c.requires.columns c.in_ok-value.value c.in_ok-value.ensures.ok)

pub returns-clause-ok : goal.returns-clause-ok
returns-clause-ok c =
    let counted : length c.args.columns.now ≡ length c.args.literals.now = search rules in
    let past : length c.args.columns.now ≤ c.loop-index.index = search rules in
    all_judged_so c.args.own.now c.args.columns.now c.args.literals.now c.loop-index.index c.loop-index.values c.requires.columns counted past c.loop-index.invariant
