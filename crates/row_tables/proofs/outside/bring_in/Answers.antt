use Rattle.std.proofs.Common.{◌≡◌, ◌<◌, Bool, false, length, get_or, ap, arith}
use Rattle.std.proofs.lemmas.List.{get_or_default}
use Rattle.lo_base.specs.declared.value.Cell.TheVariants as cells
use Rattle.row_tables.proofs.Bringing.{bringing_some, bringing_none, bringing_past}
use Rattle.row_tables.proofs.outside.bring_in.Goals.{then-not-outside-place+in_ok-cell+in-Some+in-Inline-1, then-not-outside-place+in_ok-cell+in-Some+in-Text-1, then-not-outside-place+in_ok-cell+in-Some+in-Null-1, then-not-outside-place+in_ok-cell+in_default, else-not-outside-place}
use Rattle.row_tables.proofs.outside.bring_in.Goals as goal

pub loop-place-preserved : goal.loop-place-preserved
loop-place-preserved c =
    let less : c.loop-place.place < length c.args.row.now.items = omega (arith, c.loop-place-test.true, c.len-place-end.ensures) in
    let many : length c.args.outside.now ≡ length c.args.row.now.items = c.requires.lengths in
    let o : Bool = get_or c.args.outside.now c.loop-place.place false in
    let at : o ≡ get_or c.args.outside.now c.loop-place.place o = get_or_default c.args.outside.now c.loop-place.place false o (omega (arith, less, many)) in
    elim c.if-not-outside-place.branch [
      | then-not-outside-place+in_ok-cell+in-Some+in-Inline-1 w ↦ bringing_some c.args.core.now.xacts c.args.snap.now c.args.chunks.now c.args.outside.now c.args.row.now.items c.loop-place.row.items c.loop-place.place c.loop-place.invariant many less c.if-not-outside-place.row.items o w.index.result.now w.in-Some.cell w.in_ok-cell.field-0 at w.if-not-outside-place.true w.index.ensures w.in-Some.is w.in_ok-cell.ensures (ap (λ v. v.items) w.row-is)
      | then-not-outside-place+in_ok-cell+in-Some+in-Text-1 w ↦ bringing_some c.args.core.now.xacts c.args.snap.now c.args.chunks.now c.args.outside.now c.args.row.now.items c.loop-place.row.items c.loop-place.place c.loop-place.invariant many less c.if-not-outside-place.row.items o w.index.result.now w.in-Some.cell w.in_ok-cell.field-0 at w.if-not-outside-place.true w.index.ensures w.in-Some.is w.in_ok-cell.ensures (ap (λ v. v.items) w.row-is)
      | then-not-outside-place+in_ok-cell+in-Some+in-Null-1 w ↦ bringing_some c.args.core.now.xacts c.args.snap.now c.args.chunks.now c.args.outside.now c.args.row.now.items c.loop-place.row.items c.loop-place.place c.loop-place.invariant many less c.if-not-outside-place.row.items o w.index.result.now w.in-Some.cell w.in_ok-cell.field-0 at w.if-not-outside-place.true w.index.ensures w.in-Some.is w.in_ok-cell.ensures (ap (λ v. v.items) w.row-is)
      | then-not-outside-place+in_ok-cell+in_default w ↦ bringing_none c.args.core.now.xacts c.args.snap.now c.args.chunks.now c.args.outside.now c.args.row.now.items c.loop-place.row.items c.loop-place.place c.loop-place.invariant many less c.if-not-outside-place.row.items o w.index.result.now w.in_ok-cell.field-0 at w.if-not-outside-place.true w.index.ensures w.in_default.is w.in_ok-cell.ensures (ap (λ v. v.items) w.row-is)
      | else-not-outside-place w ↦ bringing_past c.args.core.now.xacts c.args.snap.now c.args.chunks.now c.args.outside.now c.args.row.now.items c.loop-place.row.items c.loop-place.place c.loop-place.invariant many less c.if-not-outside-place.row.items o (get_or c.loop-place.row.items c.loop-place.place cells.Null) at w.if-not-outside-place.false (get_or_default c.loop-place.row.items c.loop-place.place cells.Null (get_or c.loop-place.row.items c.loop-place.place cells.Null) (omega (arith, less, c.loop-place.invariant.room))) (ap (λ v. v.items) w.row-is)
    ]
