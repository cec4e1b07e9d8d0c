use Rattle.std.proofs.Common.{◌≡◌, ◌<◌, ℕ, List, [], Some, None, length, take, ap, sym, subst, ◌∙◌}
use Rattle.std.specs.Prelude.{is_some}
use Rattle.std.specs.Option.{option_copied}
use Rattle.std.proofs.lemmas.Bool.{false≢true}
use Rattle.std.proofs.lemmas.Option.{same_Some}
use Rattle.lo_base.specs.declared.value.Cell.{Cell}
use Rattle.xact_core.specs.declared.snapshot.Snapshot.{Snapshot}
use Rattle.xact_core.specs.Kept.{current}
use Rattle.row_versions.specs.Count.{Different}
use Rattle.row_versions.specs.Stack.{Each}
use Rattle.toast_chunks.specs.Calls.{IsFree}
use Rattle.toast_chunks.specs.Values.{next_number}
use Rattle.toast_plan.specs.Choice.{outside_of}
use Rattle.toast_plan.specs.Columns.{AreLengths}
use Rattle.row_tables.specs.Cells.{all_moved, all_settled, cell_lengths, dropped, whole_row}
use Rattle.row_tables.specs.Outside.{ChangesRow, FitsLength, HasOutside}
use Rattle.row_tables.specs.Standing.{cells_at}
use Rattle.row_tables.specs.Terms.{row_too_big}
use Rattle.row_tables.proofs.JudgingRows.{row_lengths}
use Rattle.row_tables.proofs.StoringAnew.{all_outside, gone_free, gone_given, gone_once, on_ok_more, whole_planned, whole_short}
use Rattle.row_tables.proofs.tables.Tables.store_anew.Goals as goal

pub plan_of-requires-clause-lengths : goal.plan_of-requires-clause-lengths
plan_of-requires-clause-lengths c =
    let found : cells_at c.args.core.now.xacts c.snapshot-snap.result c.args.self.now c.args.key ≡ Some c.in-Some.old.now = sym c.find.ensures ∙ ap option_copied c.in-Some.is in
    subst (λ (row : List Cell). AreLengths c.args.columns.now (cell_lengths row)) (sym c.items.ensures) (row_lengths c.args.core.now.xacts c.snapshot-snap.result c.args.self.now c.requires.goes.kept (c.snapshot-snap.ensures.kept c.requires.open) c.args.key c.in-Some.old.now found c.args.columns.now c.requires.kinds)

pub unreachable-requires-in_default-plan_of : goal.unreachable-requires-in_default-plan_of
unreachable-requires-in_default-plan_of c =
    let found : cells_at c.args.core.now.xacts (current c.args.core.now.xacts c.args.s) c.args.self.now c.args.key ≡ Some c.in-Some.old.now = subst (λ (v : Snapshot). cells_at c.args.core.now.xacts v c.args.self.now c.args.key ≡ Some c.in-Some.old.now) c.snapshot-snap.ensures.view (sym c.find.ensures ∙ ap option_copied c.in-Some.is) in
    let same : c.in-Some.old.now ≡ c.requires.there.row = same_Some c.in-Some.old.now c.requires.there.row (sym found ∙ c.requires.there.found) in
    let fits : row_too_big c.args.columns.now (cell_lengths c.items.result.now) ≡ None = ap (λ (row : List Cell). row_too_big c.args.columns.now (cell_lengths row)) (c.items.ensures ∙ same) ∙ c.requires.there.small in
    false≢true (ap is_some (sym fits ∙ c.in_default-plan_of.ensures.err))

pub put_row-requires-clause-plan : goal.put_row-requires-clause-plan
put_row-requires-clause-plan c =
    let x = c.args.core.now.xacts in
    let found : cells_at x (current x c.args.s) c.args.self.now c.args.key ≡ Some c.in-Some.old.now = subst (λ (v : Snapshot). cells_at x v c.args.self.now c.args.key ≡ Some c.in-Some.old.now) c.snapshot-snap.ensures.view (sym c.find.ensures ∙ ap option_copied c.in-Some.is) in
    let outside : HasOutside c.requires.goes.kept.told x c.snapshot-snap.result c.args.self.now.chunks c.items-2.result.now = subst (λ (row : List Cell). HasOutside c.requires.goes.kept.told x c.snapshot-snap.result c.args.self.now.chunks row) (sym c.items-2.ensures) (subst (λ (v : Snapshot). HasOutside c.requires.goes.kept.told x v c.args.self.now.chunks c.in-Some.old.now) (sym c.snapshot-snap.ensures.view) (all_outside x c.args.s c.requires.open c.args.self.now c.args.key c.requires.goes.kept c.in-Some.old.now found)) in
    let whole : c.in_ok-row.row.items ≡ whole_row c.requires.goes.kept.told c.in-Some.old.now = c.in_ok-row.ensures c.requires.goes.kept.told outside ∙ ap (whole_row c.requires.goes.kept.told) c.items-2.ensures in
    ap length (c.in-Ok.ensures.ok.outside ∙ ap (λ (row : List Cell). outside_of c.args.columns.now (cell_lengths row)) c.items.ensures) ∙ (whole_planned x c.args.s c.requires.open c.args.self.now c.args.key c.requires.goes.kept c.in-Some.old.now found c.args.columns.now c.requires.kinds ∙ ap length (sym whole))

pub put_row-requires-clause-short : goal.put_row-requires-clause-short
put_row-requires-clause-short c =
    let x = c.args.core.now.xacts in
    let found : cells_at x (current x c.args.s) c.args.self.now c.args.key ≡ Some c.in-Some.old.now = subst (λ (v : Snapshot). cells_at x v c.args.self.now c.args.key ≡ Some c.in-Some.old.now) c.snapshot-snap.ensures.view (sym c.find.ensures ∙ ap option_copied c.in-Some.is) in
    let outside : HasOutside c.requires.goes.kept.told x c.snapshot-snap.result c.args.self.now.chunks c.items-2.result.now = subst (λ (row : List Cell). HasOutside c.requires.goes.kept.told x c.snapshot-snap.result c.args.self.now.chunks row) (sym c.items-2.ensures) (subst (λ (v : Snapshot). HasOutside c.requires.goes.kept.told x v c.args.self.now.chunks c.in-Some.old.now) (sym c.snapshot-snap.ensures.view) (all_outside x c.args.s c.requires.open c.args.self.now c.args.key c.requires.goes.kept c.in-Some.old.now found)) in
    let whole : c.in_ok-row.row.items ≡ whole_row c.requires.goes.kept.told c.in-Some.old.now = c.in_ok-row.ensures c.requires.goes.kept.told outside ∙ ap (whole_row c.requires.goes.kept.told) c.items-2.ensures in
    subst (Each FitsLength) (sym whole) (whole_short x c.args.s c.requires.open c.args.self.now c.args.key c.requires.goes.kept c.in-Some.old.now found)

pub put_row-requires-clause-erasable : goal.put_row-requires-clause-erasable
put_row-requires-clause-erasable c =
    let x = c.args.core.now.xacts in
    let found : cells_at x (current x c.args.s) c.args.self.now c.args.key ≡ Some c.in-Some.old.now = subst (λ (v : Snapshot). cells_at x v c.args.self.now c.args.key ≡ Some c.in-Some.old.now) c.snapshot-snap.ensures.view (sym c.find.ensures ∙ ap option_copied c.in-Some.is) in
    subst (Each (IsFree x c.args.s c.args.self.now.chunks)) (sym (c.deref.ensures.value ∙ (c.in_ok-gone.ensures ∙ ap (λ row. dropped row []) c.items-3.ensures)))
    (gone_free x c.args.s c.requires.open c.args.self.now c.args.key c.requires.goes.kept c.in-Some.old.now found c.requires.there.free)

pub put_row-requires-clause-given : goal.put_row-requires-clause-given
put_row-requires-clause-given c =
    let x = c.args.core.now.xacts in
    let found : cells_at x (current x c.args.s) c.args.self.now c.args.key ≡ Some c.in-Some.old.now = subst (λ (v : Snapshot). cells_at x v c.args.self.now c.args.key ≡ Some c.in-Some.old.now) c.snapshot-snap.ensures.view (sym c.find.ensures ∙ ap option_copied c.in-Some.is) in
    subst (Each (λ (n : ℕ). n < next_number c.args.self.now.chunks)) (sym (c.deref.ensures.value ∙ (c.in_ok-gone.ensures ∙ ap (λ row. dropped row []) c.items-3.ensures)))
    (gone_given x c.args.s c.requires.open c.args.self.now c.args.key c.requires.goes.kept c.in-Some.old.now found)

pub put_row-requires-clause-once : goal.put_row-requires-clause-once
put_row-requires-clause-once c =
    let x = c.args.core.now.xacts in
    let found : cells_at x (current x c.args.s) c.args.self.now c.args.key ≡ Some c.in-Some.old.now = subst (λ (v : Snapshot). cells_at x v c.args.self.now c.args.key ≡ Some c.in-Some.old.now) c.snapshot-snap.ensures.view (sym c.find.ensures ∙ ap option_copied c.in-Some.is) in
    subst Different (sym (c.deref.ensures.value ∙ (c.in_ok-gone.ensures ∙ ap (λ row. dropped row []) c.items-3.ensures)))
    (gone_once x c.args.s c.requires.open c.args.self.now c.args.key c.requires.goes.kept c.in-Some.old.now found)

pub returns-clause-ok : goal.returns-clause-ok
returns-clause-ok c =
    let x = c.args.core.now.xacts in
    let tables = c.args.self.now in
    let found : cells_at x (current x c.args.s) tables c.args.key ≡ Some c.in-Some.old.now = subst (λ (v : Snapshot). cells_at x v tables c.args.key ≡ Some c.in-Some.old.now) c.snapshot-snap.ensures.view (sym c.find.ensures ∙ ap option_copied c.in-Some.is) in
    let os = take (length c.args.columns.now) c.in-Ok.plan.outside in
    let whole = c.in_ok-row.row.items in
    let gone = c.deref.ensures.value ∙ (c.in_ok-gone.ensures ∙ ap (λ row. dropped row []) c.items-3.ensures) in
    on_ok_more c.put_row.result c.put_row.ensures.ok (λ changes. record {
      row = c.in-Some.old.now;
      found = found;
      outside = os;
      planned = c.in-Ok.ensures.ok.outside ∙ ap (λ (row : List Cell). outside_of c.args.columns.now (cell_lengths row)) c.items.ensures;
      whole = whole;
      whole_is = λ kept. c.in_ok-row.ensures kept.told (subst (λ (row : List Cell). HasOutside kept.told x c.snapshot-snap.result tables.chunks row) (sym c.items-2.ensures) (subst (λ (v : Snapshot). HasOutside kept.told x v tables.chunks c.in-Some.old.now) (sym c.snapshot-snap.ensures.view) (all_outside x c.args.s c.requires.open tables c.args.key kept c.in-Some.old.now found))) ∙ ap (whole_row kept.told) c.items-2.ensures;
      changes = subst (λ (ns : List ℕ). ChangesRow x c.args.s c.args.key (all_moved os whole (next_number tables.chunks)) ns (Some (all_settled os whole (next_number tables.chunks))) tables c.put_row.new.self) gone changes;
    })
