use Rattle.std.proofs.Common.{◌<◌, ◌∙◌, sym, refl, ap, List, length, arith, take}
use Rattle.std.proofs.lemmas.List.Edits.{length-remove}
use Rattle.row_tables.specs.declared.cursors.Cursor.{Cursor}
use Rattle.row_tables.specs.declared.cursors.Cursors.{Cursors}
use Rattle.row_tables.specs.Cursors.{Ends, left_open}
use Rattle.row_tables.proofs.Ends.{hold_there, one_ends, ends_same, ends_both, left_without, front_without}
use Rattle.row_tables.proofs.cursors.Cursors.close.Goals as goal

pub loop-index-init : goal.loop-index-init
loop-index-init c = record {
  within = omega arith;
  front = refl;
  left = refl;
  held = c.requires.held;
  ends = ends_same c.args.xacts.now c.args.self.now;
}

pub let_go-requires : goal.let_go-requires
let_go-requires c =
    let within : c.loop-index.index < length c.loop-index.self.entries.items = omega arith in
    hold_there c.loop-index.xacts c.loop-index.self c.loop-index.index c.remove-closed.result within c.remove-closed.ensures.value c.loop-index.invariant.held

pub loop-index-preserved-then-closes : goal.loop-index-preserved-then-closes
loop-index-preserved-then-closes c =
    let within : c.loop-index.index < length c.loop-index.self.entries.items = omega arith in
    let left : Cursors = record { entries = c.remove-closed.new.self } in
    let ends : Ends c.loop-index.xacts c.let_go.new.self c.loop-index.self left = one_ends c.loop-index.xacts c.let_go.new.self c.loop-index.self left c.loop-index.index c.remove-closed.result within c.remove-closed.ensures.value c.remove-closed.ensures.items c.let_go.ensures.others c.let_go.ensures.order c.let_go.ensures.whole c.let_go.ensures.views in
    let shorter = ap (λ (entries : List Cursor). length entries) c.remove-closed.ensures.items in
    let front = ap (λ (entries : List Cursor). take c.loop-index.index entries) c.remove-closed.ensures.items ∙ front_without c.loop-index.self.entries.items c.loop-index.index within in
    record {
      within = omega (arith, shorter, length-remove c.loop-index.self.entries.items c.loop-index.index within);
      front = ap (left_open c.args.s c.args.closing.now) front ∙ c.loop-index.invariant.front ∙ sym front;
      left = ap (left_open c.args.s c.args.closing.now) c.remove-closed.ensures.items ∙ left_without c.args.s c.args.closing.now c.loop-index.self.entries.items c.loop-index.index c.index.result.now within c.index.ensures (sym c.if-closes.ensures) ∙ c.loop-index.invariant.left;
      held = record { rest = c.loop-index.invariant.held.rest; all = ends.holds.rest c.loop-index.invariant.held.rest c.loop-index.invariant.held.all };
      ends = ends_both c.args.xacts.now c.loop-index.xacts c.let_go.new.self c.args.self.now c.loop-index.self left c.loop-index.invariant.ends ends;
    }
