use Rattle.std.proofs.Common.{◌≡◌, Some, List, length, ap, sym, subst, ◌∙◌, take}
use Rattle.std.specs.Option.{option_copied}
use Rattle.lo_base.specs.declared.column.Column.{Column}
use Rattle.lo_base.specs.declared.refusal.Denied.TheVariants.{By}
use Rattle.lo_base.specs.declared.value.Cell.{Cell}
use Rattle.toast_plan.specs.Choice.{IsPlanFor}
use Rattle.toast_plan.specs.Columns.{IsTableColumns}
use Rattle.xact_core.specs.Kept.{current}
use Rattle.row_tables.specs.Cells.{all_brought, cell_lengths, changed_cells, dropped}
use Rattle.row_tables.specs.Drafts.{DeniesDraft, Held, IsTooBig, TooBig, row_columns}
use Rattle.row_tables.specs.Outside.{HasOutside}
use Rattle.row_tables.specs.Standing.{cells_at}
use Rattle.row_tables.proofs.Drafting.{all_there, changed_fit, old_same, planned_same}
use Rattle.row_tables.proofs.Exits.{failed_with}
use Rattle.row_tables.proofs.Judging.{short_enough}
use Rattle.row_tables.proofs.tables.Tables.draft.Goals as goal

pub changed_cells-requires : goal.changed_cells-requires
changed_cells-requires c =
    let found : cells_at c.args.core.now.xacts (current c.args.core.now.xacts c.args.s) c.args.self.now c.args.key.now ≡ Some c.in-Some.old.now = subst (λ v. cells_at c.args.core.now.xacts v c.args.self.now c.args.key.now ≡ Some c.in-Some.old.now) c.snapshot-snap.ensures.view (sym c.find.ensures ∙ ap option_copied c.in-Some.is) in
    let can : IsTableColumns (row_columns c.args.self.now c.args.key.now) = subst IsTableColumns c.columns-columns.ensures.columns c.columns-columns.ensures.can in
    ap (λ (row : List Cell). length row) c.items.ensures ∙ (old_same c.args.core.now.xacts c.args.s c.requires.open c.args.self.now c.args.key.now c.requires.goes.kept c.args.changes.now can c.requires.fit c.in-Some.old.now found ∙ ap (λ (cs : List Column). length cs) (sym c.columns-columns.ensures.columns))

pub plan_of-requires-clause-lengths : goal.plan_of-requires-clause-lengths
plan_of-requires-clause-lengths c =
    let found : cells_at c.args.core.now.xacts (current c.args.core.now.xacts c.args.s) c.args.self.now c.args.key.now ≡ Some c.in-Some.old.now = subst (λ v. cells_at c.args.core.now.xacts v c.args.self.now c.args.key.now ≡ Some c.in-Some.old.now) c.snapshot-snap.ensures.view (sym c.find.ensures ∙ ap option_copied c.in-Some.is) in
    let can : IsTableColumns (row_columns c.args.self.now c.args.key.now) = subst IsTableColumns c.columns-columns.ensures.columns c.columns-columns.ensures.can in
    let row : c.deref.result.now ≡ changed_cells c.args.changes.now (row_columns c.args.self.now c.args.key.now) c.in-Some.old.now = c.deref.ensures.value ∙ (c.in_ok-row.ensures ∙ (ap (λ (cs : List Column). changed_cells c.args.changes.now cs c.items.result.now) c.columns-columns.ensures.columns ∙ ap (changed_cells c.args.changes.now (row_columns c.args.self.now c.args.key.now)) c.items.ensures)) in
    rw (c.columns-columns.ensures.columns, row) (changed_fit c.args.core.now.xacts c.args.s c.requires.open c.args.self.now c.args.key.now c.requires.goes.kept c.args.changes.now can c.requires.fit c.in-Some.old.now found)

pub returns-in_err-plan-clause-err : goal.returns-in_err-plan-clause-err
returns-in_err-plan-clause-err c =
    let found : cells_at c.args.core.now.xacts (current c.args.core.now.xacts c.args.s) c.args.self.now c.args.key.now ≡ Some c.in-Some.old.now = subst (λ v. cells_at c.args.core.now.xacts v c.args.self.now c.args.key.now ≡ Some c.in-Some.old.now) c.snapshot-snap.ensures.view (sym c.find.ensures ∙ ap option_copied c.in-Some.is) in
    let row : c.deref.result.now ≡ changed_cells c.args.changes.now (row_columns c.args.self.now c.args.key.now) c.in-Some.old.now = c.deref.ensures.value ∙ (c.in_ok-row.ensures ∙ (ap (λ (cs : List Column). changed_cells c.args.changes.now cs c.items.result.now) c.columns-columns.ensures.columns ∙ ap (changed_cells c.args.changes.now (row_columns c.args.self.now c.args.key.now)) c.items.ensures)) in
    let big : IsTooBig (row_columns c.args.self.now c.args.key.now) (changed_cells c.args.changes.now (row_columns c.args.self.now c.args.key.now) c.in-Some.old.now) c.in_err-plan.field-0.0 = subst (λ (cells : List Cell). IsTooBig (row_columns c.args.self.now c.args.key.now) cells c.in_err-plan.field-0.0) row (subst (λ (cs : List Column). IsTooBig cs c.deref.result.now c.in_err-plan.field-0.0) c.columns-columns.ensures.columns c.in_err-plan.ensures.err) in
    failed_with (DeniesDraft c.args.core.now.xacts c.args.s c.args.self.now c.args.key.now c.args.changes.now) c.from_residual-in_err-plan.result (By c.in_err-plan.field-0.0) c.from_residual-in_err-plan.ensures.1
    (TooBig (record { old = c.in-Some.old.now; found = found; big = big }))

pub returns-in_err-free-clause-err : goal.returns-in_err-free-clause-err
returns-in_err-free-clause-err c =
    let found : cells_at c.args.core.now.xacts (current c.args.core.now.xacts c.args.s) c.args.self.now c.args.key.now ≡ Some c.in-Some.old.now = subst (λ v. cells_at c.args.core.now.xacts v c.args.self.now c.args.key.now ≡ Some c.in-Some.old.now) c.snapshot-snap.ensures.view (sym c.find.ensures ∙ ap option_copied c.in-Some.is) in
    let row : c.deref.result.now ≡ changed_cells c.args.changes.now (row_columns c.args.self.now c.args.key.now) c.in-Some.old.now = c.deref.ensures.value ∙ (c.in_ok-row.ensures ∙ (ap (λ (cs : List Column). changed_cells c.args.changes.now cs c.items.result.now) c.columns-columns.ensures.columns ∙ ap (changed_cells c.args.changes.now (row_columns c.args.self.now c.args.key.now)) c.items.ensures)) in
    let planned : IsPlanFor (row_columns c.args.self.now c.args.key.now) (cell_lengths (changed_cells c.args.changes.now (row_columns c.args.self.now c.args.key.now) c.in-Some.old.now)) c.in_ok-plan.plan = subst (λ (cells : List Cell). IsPlanFor (row_columns c.args.self.now c.args.key.now) (cell_lengths cells) c.in_ok-plan.plan) row (subst (λ (cs : List Column). IsPlanFor cs (cell_lengths c.deref.result.now) c.in_ok-plan.plan) c.columns-columns.ensures.columns c.in_ok-plan.ensures.ok) in
    failed_with (DeniesDraft c.args.core.now.xacts c.args.s c.args.self.now c.args.key.now c.args.changes.now) c.from_residual-in_err-free.result (By c.in_err-free.field-0.0) c.from_residual-in_err-free.ensures.1
    (Held (record { old = c.in-Some.old.now; found = found; short = short_enough (row_columns c.args.self.now c.args.key.now) (cell_lengths (changed_cells c.args.changes.now (row_columns c.args.self.now c.args.key.now) c.in-Some.old.now)) planned.fits }) c.in_err-free.ensures.err)

pub bring_in-requires-clause-lengths : goal.bring_in-requires-clause-lengths
bring_in-requires-clause-lengths c =
    let found : cells_at c.args.core.now.xacts (current c.args.core.now.xacts c.args.s) c.args.self.now c.args.key.now ≡ Some c.in-Some.old.now = subst (λ v. cells_at c.args.core.now.xacts v c.args.self.now c.args.key.now ≡ Some c.in-Some.old.now) c.snapshot-snap.ensures.view (sym c.find.ensures ∙ ap option_copied c.in-Some.is) in
    let can : IsTableColumns (row_columns c.args.self.now c.args.key.now) = subst IsTableColumns c.columns-columns.ensures.columns c.columns-columns.ensures.can in
    let row : c.in_ok-row.row.items ≡ changed_cells c.args.changes.now (row_columns c.args.self.now c.args.key.now) c.in-Some.old.now = c.in_ok-row.ensures ∙ (ap (λ (cs : List Column). changed_cells c.args.changes.now cs c.items.result.now) c.columns-columns.ensures.columns ∙ ap (changed_cells c.args.changes.now (row_columns c.args.self.now c.args.key.now)) c.items.ensures) in
    let planned : IsPlanFor (row_columns c.args.self.now c.args.key.now) (cell_lengths (changed_cells c.args.changes.now (row_columns c.args.self.now c.args.key.now) c.in-Some.old.now)) c.in_ok-plan.plan = subst (λ (cells : List Cell). IsPlanFor (row_columns c.args.self.now c.args.key.now) (cell_lengths cells) c.in_ok-plan.plan) (c.deref.ensures.value ∙ row) (subst (λ (cs : List Column). IsPlanFor cs (cell_lengths c.deref.result.now) c.in_ok-plan.plan) c.columns-columns.ensures.columns c.in_ok-plan.ensures.ok) in
    ap (λ (cs : List Column). length (take (length cs) c.in_ok-plan.plan.outside)) c.columns-columns.ensures.columns ∙ (planned_same c.args.core.now.xacts c.args.s c.requires.open c.args.self.now c.args.key.now c.requires.goes.kept c.args.changes.now can c.requires.fit c.in-Some.old.now found c.in_ok-plan.plan planned ∙ ap (λ (cells : List Cell). length cells) (sym row))

pub returns-clause-ok : goal.returns-clause-ok
returns-clause-ok c =
    let found : cells_at c.args.core.now.xacts (current c.args.core.now.xacts c.args.s) c.args.self.now c.args.key.now ≡ Some c.in-Some.old.now = subst (λ v. cells_at c.args.core.now.xacts v c.args.self.now c.args.key.now ≡ Some c.in-Some.old.now) c.snapshot-snap.ensures.view (sym c.find.ensures ∙ ap option_copied c.in-Some.is) in
    let can : IsTableColumns (row_columns c.args.self.now c.args.key.now) = subst IsTableColumns c.columns-columns.ensures.columns c.columns-columns.ensures.can in
    let row : c.in_ok-row.row.items ≡ changed_cells c.args.changes.now (row_columns c.args.self.now c.args.key.now) c.in-Some.old.now = c.in_ok-row.ensures ∙ (ap (λ (cs : List Column). changed_cells c.args.changes.now cs c.items.result.now) c.columns-columns.ensures.columns ∙ ap (changed_cells c.args.changes.now (row_columns c.args.self.now c.args.key.now)) c.items.ensures) in
    let planned : IsPlanFor (row_columns c.args.self.now c.args.key.now) (cell_lengths (changed_cells c.args.changes.now (row_columns c.args.self.now c.args.key.now) c.in-Some.old.now)) c.in_ok-plan.plan = subst (λ (cells : List Cell). IsPlanFor (row_columns c.args.self.now c.args.key.now) (cell_lengths cells) c.in_ok-plan.plan) (c.deref.ensures.value ∙ row) (subst (λ (cs : List Column). IsPlanFor cs (cell_lengths c.deref.result.now) c.in_ok-plan.plan) c.columns-columns.ensures.columns c.in_ok-plan.ensures.ok) in
    record {
      old = c.in-Some.old.now;
      found = found;
      free = c.in_ok-free.ensures.ok;
      planned = planned;
      row = λ kept.
          c.in_ok-bring_in.ensures kept.told (subst (λ v. HasOutside kept.told c.args.core.now.xacts v c.args.self.now.chunks c.in_ok-row.row.items) (sym c.snapshot-snap.ensures.view) (rw row (all_there c.args.core.now.xacts c.args.s c.requires.open c.args.self.now c.args.key.now kept c.args.changes.now can c.requires.fit c.in-Some.old.now found)))
          ∙ (ap (λ (cs : List Column). all_brought kept.told (take (length cs) c.in_ok-plan.plan.outside) c.in_ok-row.row.items) c.columns-columns.ensures.columns ∙ ap (all_brought kept.told (take (length (row_columns c.args.self.now c.args.key.now)) c.in_ok-plan.plan.outside)) row);
      gone = c.in_ok-gone.ensures ∙ (ap (λ (cells : List Cell). dropped cells c.deref-2.result.now) c.items-2.ensures ∙ ap (dropped c.in-Some.old.now) c.deref-2.ensures.value);
    }
