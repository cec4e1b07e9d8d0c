use Rattle.std.proofs.lemmas.Int.{to_z-of_z}
use Rattle.std.proofs.Common.{◌≡◌, ℤ, w64, [], Some, None, ap, sym, subst, ◌∙◌}
use Rattle.std.specs.Option.{option_copied}
use Rattle.lo_base.specs.declared.refusal.Denied.TheVariants.{By}
use Rattle.row_versions.specs.Count.{Different}
use Rattle.row_versions.specs.Stack.{Each}
use Rattle.xact_core.specs.Kept.{current}
use Rattle.toast_chunks.specs.Calls.{IsFree}
use Rattle.row_tables.specs.Cells.{dropped}
use Rattle.row_tables.specs.Keys.{row_key}
use Rattle.row_tables.specs.RowRules.{delete_row}
use Rattle.row_tables.specs.Standing.{cells_at}
use Rattle.lo_base.specs.declared.refusal.Cause.TheVariants.{NoRow}
use Rattle.row_tables.specs.Terms.{refusal}
use Rattle.row_tables.specs.World.{Denies, world}
use Rattle.row_tables.proofs.Deleting.{can_erase, deletes, deletion_keeps, dropped_apart, refused_held, refused_missing}
use Rattle.row_tables.proofs.Owning.{changed_here, found_here, free_here, held_here}
use Rattle.row_tables.proofs.Exits.{failed_with}
use Rattle.row_tables.proofs.tables.Tables.delete.Goals as goal

pub returns-in_default-clause-err : goal.returns-in_default-clause-err
returns-in_default-clause-err c =
    let found : cells_at c.args.core.now.xacts (current c.args.core.now.xacts c.args.s) c.args.self.now (row_key c.in_ok-number.number c.args.id) ≡ None = found_here c.args.core.now.xacts (current c.args.core.now.xacts c.args.s) c.snapshot-snap.result c.args.self.now c.in_ok-number.number c.args.id None c.snapshot-snap.ensures.view c.ranges.id (sym c.find.ensures ∙ ap option_copied c.in_default.is) in
    subst (Denies (delete_row c.args.table.now c.args.id) (world c.args.core.now.xacts c.args.self.now c.args.s) (world c.args.core.now.xacts c.args.self.now c.args.s)) (sym (c.refused.ensures ∙ ap (λ (z : ℤ). By (refusal NoRow z)) (to_z-of_z w64 c.args.id c.ranges.id)))
    (refused_missing c.args.core.now.xacts c.args.self.now c.args.s c.requires.open c.args.table.now c.in_ok-number.number c.in_ok-number.ensures.ok c.args.id found)

pub returns-in_err-free-clause-err : goal.returns-in_err-free-clause-err
returns-in_err-free-clause-err c =
    let found : cells_at c.args.core.now.xacts (current c.args.core.now.xacts c.args.s) c.args.self.now (row_key c.in_ok-number.number c.args.id) ≡ Some c.in-Some.old.now = found_here c.args.core.now.xacts (current c.args.core.now.xacts c.args.s) c.snapshot-snap.result c.args.self.now c.in_ok-number.number c.args.id (Some c.in-Some.old.now) c.snapshot-snap.ensures.view c.ranges.id (sym c.find.ensures ∙ ap option_copied c.in-Some.is) in
    failed_with (Denies (delete_row c.args.table.now c.args.id) (world c.args.core.now.xacts c.args.self.now c.args.s) (world c.args.core.now.xacts c.args.self.now c.args.s)) c.from_residual-in_err-free.result (By c.in_err-free.field-0.0) c.from_residual-in_err-free.ensures.1
    (refused_held c.args.core.now.xacts c.args.self.now c.args.s c.requires.open c.args.table.now c.in_ok-number.number c.in_ok-number.ensures.ok c.args.id c.in-Some.old.now found c.in_err-free.field-0.0 (held_here c.args.core.now.xacts c.args.s c.args.self.now c.in_ok-number.number c.args.id c.in_err-free.field-0.0 c.ranges.id c.in_err-free.ensures.err))

pub erase_row-requires-clause-erasable : goal.erase_row-requires-clause-erasable
erase_row-requires-clause-erasable c =
    let found : cells_at c.args.core.now.xacts (current c.args.core.now.xacts c.args.s) c.args.self.now (row_key c.in_ok-number.number c.args.id) ≡ Some c.in-Some.old.now = found_here c.args.core.now.xacts (current c.args.core.now.xacts c.args.s) c.snapshot-snap.result c.args.self.now c.in_ok-number.number c.args.id (Some c.in-Some.old.now) c.snapshot-snap.ensures.view c.ranges.id (sym c.find.ensures ∙ ap option_copied c.in-Some.is) in
    subst (Each (IsFree c.args.core.now.xacts c.args.s c.args.self.now.chunks)) (sym (c.deref.ensures.value ∙ (c.in_ok-gone.ensures ∙ ap (λ row. dropped row []) c.items.ensures)))
    (can_erase c.args.core.now.xacts c.args.self.now c.args.s c.requires.open c.args.table.now c.in_ok-number.number c.in_ok-number.ensures.ok c.args.id c.requires.ready.goes.kept c.in-Some.old.now [] found (free_here c.args.core.now.xacts c.args.s c.args.self.now c.in_ok-number.number c.args.id None c.ranges.id c.in_ok-free.ensures.ok))

pub erase_row-requires-clause-once : goal.erase_row-requires-clause-once
erase_row-requires-clause-once c =
    let found : cells_at c.args.core.now.xacts (current c.args.core.now.xacts c.args.s) c.args.self.now (row_key c.in_ok-number.number c.args.id) ≡ Some c.in-Some.old.now = found_here c.args.core.now.xacts (current c.args.core.now.xacts c.args.s) c.snapshot-snap.result c.args.self.now c.in_ok-number.number c.args.id (Some c.in-Some.old.now) c.snapshot-snap.ensures.view c.ranges.id (sym c.find.ensures ∙ ap option_copied c.in-Some.is) in
    subst Different (sym (c.deref.ensures.value ∙ (c.in_ok-gone.ensures ∙ ap (λ row. dropped row []) c.items.ensures)))
    (dropped_apart c.args.core.now.xacts c.args.self.now c.args.s c.requires.open c.args.table.now c.in_ok-number.number c.in_ok-number.ensures.ok c.args.id c.requires.ready.goes.kept c.in-Some.old.now [] found)

pub returns-clause-ok : goal.returns-clause-ok
returns-clause-ok c =
    let found : cells_at c.args.core.now.xacts (current c.args.core.now.xacts c.args.s) c.args.self.now (row_key c.in_ok-number.number c.args.id) ≡ Some c.in-Some.old.now = found_here c.args.core.now.xacts (current c.args.core.now.xacts c.args.s) c.snapshot-snap.result c.args.self.now c.in_ok-number.number c.args.id (Some c.in-Some.old.now) c.snapshot-snap.ensures.view c.ranges.id (sym c.find.ensures ∙ ap option_copied c.in-Some.is) in
    let changes = changed_here c.args.core.now.xacts c.args.s c.in_ok-number.number c.args.id [] None c.args.self.now c.erase_row.new.self c.ranges.id (c.deref.ensures.value ∙ (c.in_ok-gone.ensures ∙ ap (λ row. dropped row []) c.items.ensures)) c.in_ok-erase_row.ensures.ok in
    deletes c.args.core.now.xacts c.args.self.now c.args.s c.requires.open c.args.table.now c.in_ok-number.number c.in_ok-number.ensures.ok c.args.id c.requires.ready c.in_ok-number.ensures.tables c.ranges.id c.in-Some.old.now found (free_here c.args.core.now.xacts c.args.s c.args.self.now c.in_ok-number.number c.args.id None c.ranges.id c.in_ok-free.ensures.ok) c.erase_row.new.self changes

pub returns-clause-keeps : goal.returns-clause-keeps
returns-clause-keeps c =
    let found : cells_at c.args.core.now.xacts (current c.args.core.now.xacts c.args.s) c.args.self.now (row_key c.in_ok-number.number c.args.id) ≡ Some c.in-Some.old.now = found_here c.args.core.now.xacts (current c.args.core.now.xacts c.args.s) c.snapshot-snap.result c.args.self.now c.in_ok-number.number c.args.id (Some c.in-Some.old.now) c.snapshot-snap.ensures.view c.ranges.id (sym c.find.ensures ∙ ap option_copied c.in-Some.is) in
    let changes = changed_here c.args.core.now.xacts c.args.s c.in_ok-number.number c.args.id [] None c.args.self.now c.erase_row.new.self c.ranges.id (c.deref.ensures.value ∙ (c.in_ok-gone.ensures ∙ ap (λ row. dropped row []) c.items.ensures)) c.in_ok-erase_row.ensures.ok in
    deletion_keeps c.args.core.now.xacts c.args.self.now c.args.s c.requires.open c.args.table.now c.in_ok-number.number c.in_ok-number.ensures.ok c.args.id c.requires.ready c.in_ok-number.ensures.tables c.ranges.id c.in-Some.old.now found (free_here c.args.core.now.xacts c.args.s c.args.self.now c.in_ok-number.number c.args.id None c.ranges.id c.in_ok-free.ensures.ok) c.erase_row.new.self changes c.erase_row.ensures.goes
