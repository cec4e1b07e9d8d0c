use Rattle.std.proofs.Common.{◌≡◌, ◌<◌, Bool, false, length, get_or, subst, ap, ◌∙◌, arith}
use Rattle.std.proofs.lemmas.List.{get_or_default}
use Rattle.toast_chunks.specs.Calls.{LeavesOwn}
use Rattle.toast_chunks.specs.Values.{GoWith, next_number}
use Rattle.row_tables.specs.Cells.{moved_out_of, settled}
use Rattle.row_tables.specs.Outside.{MovesAll, cell_or}
use Rattle.row_tables.proofs.Moving.{moving_fits, moving_some, moving_none}
use Rattle.row_tables.proofs.outside.move_out.Goals.{in-Some+in-Inline-1, in-Some+in-Text-1, in-Some+in-Null-1, in_default}
use Rattle.row_tables.proofs.outside.move_out.Goals as goal

pub moved_out-requires-clause-short : goal.moved_out-requires-clause-short
moved_out-requires-clause-short c = moving_fits c.args.core.now.xacts c.args.s c.args.outside.now c.args.row.now.items c.loop-place.row.items c.loop-place.place c.args.chunks.now c.loop-place.chunks c.loop-place.invariant.moving c.index.result.now (omega (arith, c.loop-place-test.true, c.len-place-end.ensures)) c.index.ensures c.requires.short

pub loop-place-preserved : goal.loop-place-preserved
loop-place-preserved c =
    let less : c.loop-place.place < length c.args.row.now.items = omega (arith, c.loop-place-test.true, c.len-place-end.ensures) in
    let many : length c.args.outside.now ≡ length c.args.row.now.items = c.requires.lengths in
    let o : Bool = get_or c.args.outside.now c.loop-place.place false in
    let at : o ≡ get_or c.args.outside.now c.loop-place.place o = get_or_default c.args.outside.now c.loop-place.place false o (omega (arith, less, many)) in
    let settles : cell_or c.in_ok-cell.field-0 c.index.result.now ≡ settled o c.index.result.now (next_number c.loop-place.chunks) = c.in_ok-cell.ensures.cell in
    let moves : MovesAll c.args.core.now.xacts c.args.s (moved_out_of o c.index.result.now (next_number c.loop-place.chunks)) c.loop-place.chunks c.moved_out.new.chunks = subst (λ k. MovesAll k.xacts c.args.s (moved_out_of o c.index.result.now (next_number c.loop-place.chunks)) c.loop-place.chunks c.moved_out.new.chunks) c.loop-place.invariant.core c.in_ok-cell.ensures.ok in
    let left : LeavesOwn c.args.core.now.xacts c.args.s c.loop-place.chunks c.moved_out.new.chunks = subst (λ k. LeavesOwn k.xacts c.args.s c.loop-place.chunks c.moved_out.new.chunks) c.loop-place.invariant.core c.in_ok-cell.ensures.left in
    let goes : GoWith c.args.core.now.xacts c.moved_out.new.chunks = subst (λ k. GoWith k.xacts c.moved_out.new.chunks) c.loop-place.invariant.core c.in_ok-cell.ensures.goes in
    record {
      core = c.in_ok-cell.ensures.core ∙ c.loop-place.invariant.core;
      moving = elim c.match-branch-2.branch [
        | in-Some+in-Inline-1 w ↦ moving_some c.args.core.now.xacts c.args.s c.args.outside.now c.args.row.now.items c.loop-place.row.items c.loop-place.place c.args.chunks.now c.loop-place.chunks c.moved_out.new.chunks c.loop-place.invariant.moving many less c.match-branch-2.row.items o c.index.result.now w.in-Some.cell c.in_ok-cell.field-0 at c.index.ensures w.in-Some.is settles moves left goes (ap (λ v. v.items) w.row-is)
        | in-Some+in-Text-1 w ↦ moving_some c.args.core.now.xacts c.args.s c.args.outside.now c.args.row.now.items c.loop-place.row.items c.loop-place.place c.args.chunks.now c.loop-place.chunks c.moved_out.new.chunks c.loop-place.invariant.moving many less c.match-branch-2.row.items o c.index.result.now w.in-Some.cell c.in_ok-cell.field-0 at c.index.ensures w.in-Some.is settles moves left goes (ap (λ v. v.items) w.row-is)
        | in-Some+in-Null-1 w ↦ moving_some c.args.core.now.xacts c.args.s c.args.outside.now c.args.row.now.items c.loop-place.row.items c.loop-place.place c.args.chunks.now c.loop-place.chunks c.moved_out.new.chunks c.loop-place.invariant.moving many less c.match-branch-2.row.items o c.index.result.now w.in-Some.cell c.in_ok-cell.field-0 at c.index.ensures w.in-Some.is settles moves left goes (ap (λ v. v.items) w.row-is)
        | in_default w ↦ moving_none c.args.core.now.xacts c.args.s c.args.outside.now c.args.row.now.items c.loop-place.row.items c.loop-place.place c.args.chunks.now c.loop-place.chunks c.moved_out.new.chunks c.loop-place.invariant.moving many less c.match-branch-2.row.items o c.index.result.now c.in_ok-cell.field-0 at c.index.ensures w.in_default.is settles moves left goes (ap (λ v. v.items) w.row-is)
      ];
    }
