use Rattle.std.proofs.Common.{◌≢◌, ◌+◌, All, drop, refl, arith}
use Rattle.std.specs.Prelude.{IsTrue, false}
use Rattle.std.proofs.lemmas.Bool.{false≢true}
use Rattle.lo_base.specs.declared.column.Column.{Column}
use Rattle.toast_plan.proofs.ColumnLaws.{goes_on, stops}
use Rattle.toast_plan.proofs.columns.are_distinct.Goals as goal

pub returns-then-not-has_no_column : goal.returns-then-not-has_no_column
returns-then-not-has_no_column c =
    let twice : All (λ (d : Column). d.name ≢ c.index-columns-place.result.name) (drop (c.loop-place.place + 1) c.args.columns.now) → IsTrue false = rw (c.split_at.ensures.back, c.items.ensures) at c.if-not-has_no_column.ensures.1 in
    ((λ h. absurd (false≢true h)), λ h. absurd (stops c.args.columns.now c.loop-place.place c.index-columns-place.result c.index-columns-place.is (omega arith) (λ others. false≢true (twice others)) c.loop-place.invariant h))

pub loop-place-preserved : goal.loop-place-preserved
loop-place-preserved c =
    let others : All (λ (d : Column). d.name ≢ c.index-columns-place.result.name) (drop (c.loop-place.place + 1) c.args.columns.now) = rw (c.split_at.ensures.back, c.items.ensures) at (c.if-not-has_no_column.ensures.0 refl) in
    goes_on c.args.columns.now c.loop-place.place c.index-columns-place.result c.index-columns-place.is (omega arith) others c.loop-place.invariant
