use Rattle.std.proofs.Common.{◌≡◌, ℤ, w64, FitsSigned, Bool, List, length, take, None, ap, sym, subst, ◌∙◌}
use Rattle.std.proofs.lemmas.Int.{to_z-of_z}
use Rattle.lo_base.specs.declared.column.Column.{Column}
use Rattle.lo_base.specs.declared.refusal.Cause.TheVariants.{RowExists}
use Rattle.lo_base.specs.declared.refusal.Denied.TheVariants.{By}
use Rattle.lo_base.specs.declared.value.Cell.{Cell}
use Rattle.toast_plan.specs.Choice.{IsPlanFor}
use Rattle.toast_plan.specs.Columns.{IsTableColumns}
use Rattle.toast_plan.specs.Row.{AreRowValues}
use Rattle.xact_core.specs.Kept.{current}
use Rattle.row_versions.specs.Search.{busy_at}
use Rattle.row_versions.specs.Stack.{Each}
use Rattle.row_tables.specs.Catalog.{columns_in}
use Rattle.row_tables.specs.Cells.{cell_lengths}
use Rattle.row_tables.specs.Drafts.{IsTooBig}
use Rattle.row_tables.specs.Keys.{key_cmp, row_key}
use Rattle.row_tables.specs.Outside.{FitsLength}
use Rattle.row_tables.specs.RowRules.{insert_row}
use Rattle.row_tables.specs.Standing.{cells_at}
use Rattle.row_tables.specs.Terms.{refusal}
use Rattle.row_tables.specs.Values.{cells_of, id_of}
use Rattle.lo_base.specs.declared.reply.Reply.TheVariants.{Word}
use Rattle.lo_base.specs.declared.reply.Word.TheVariants as words
use Rattle.row_versions.specs.declared.base.Core.{Core}
use Rattle.row_tables.specs.Calls.{IsHeld}
use Rattle.row_tables.specs.World.{Denies, Grants, Keeps, world}
use Rattle.row_tables.proofs.Exits.{failed_with}
use Rattle.row_tables.proofs.Inserting.{insertion_keeps, inserts, new_short, new_fit, planned_same, refused_big, refused_held, refused_taken}
use Rattle.row_tables.proofs.Naming.{stands_at}
use Rattle.row_tables.proofs.Owning.{found_here, free_here, held_here, made_here, none_copied, taken_here}
use Rattle.row_tables.proofs.tables.Tables.insert.Goals as goal

pub returns-then-is_some-clause-err : goal.returns-then-is_some-clause-err
returns-then-is_some-clause-err c =
    let id = ap (λ (z : ℤ). By (refusal RowExists z)) c.id_of-id.ensures in
    let taken = taken_here c.args.core.now.xacts (current c.args.core.now.xacts c.args.s) c.snapshot-snap.result c.args.self.now c.in_ok-number.number c.id_of-id.result (id_of c.args.values.now) c.find.result c.snapshot-snap.ensures.view (record { sfits = c.id_of-id.type_inv }) c.id_of-id.ensures c.find.ensures c.if-is_some.ensures in
    subst (Denies (insert_row c.args.table.now c.args.values.now) (world c.args.core.now.xacts c.args.self.now c.args.s) (world c.args.core.now.xacts c.args.self.now c.args.s)) (sym (c.refused.ensures ∙ (ap (λ (z : ℤ). By (refusal RowExists z)) (to_z-of_z w64 c.id_of-id.result (record { sfits = c.id_of-id.type_inv })) ∙ id)))
    (refused_taken c.args.core.now.xacts c.args.self.now c.args.s c.requires.open c.args.table.now c.in_ok-number.number c.in_ok-number.ensures.ok c.args.values.now taken.row taken.found)

pub columns-columns-requires : goal.columns-columns-requires
columns-columns-requires c = (stands_at c.args.table.now c.args.self.now.catalog c.in_ok-number.number c.in_ok-number.ensures.ok.is).within

pub plan_of-requires-clause-lengths : goal.plan_of-requires-clause-lengths
plan_of-requires-clause-lengths c =
    let columns : c.columns-columns.result.now ≡ c.in_ok-number.ensures.ok.table.columns = c.columns-columns.ensures.columns ∙ ap columns_in c.in_ok-number.ensures.ok.there in
    let can : IsTableColumns c.in_ok-number.ensures.ok.table.columns = subst IsTableColumns columns c.columns-columns.ensures.can in
    let good : AreRowValues c.in_ok-number.ensures.ok.table.columns c.args.values.now = c.requires.fit c.in_ok-number.ensures.ok.table c.in_ok-number.ensures.ok.found in
    let row : c.deref.result.now ≡ cells_of c.args.values.now = c.deref.ensures.value ∙ c.in_ok-row.ensures in
    rw (columns, row) (new_fit c.in_ok-number.ensures.ok.table.columns c.args.values.now can good)

pub returns-in_err-plan-clause-err : goal.returns-in_err-plan-clause-err
returns-in_err-plan-clause-err c =
    let found : cells_at c.args.core.now.xacts (current c.args.core.now.xacts c.args.s) c.args.self.now (row_key c.in_ok-number.number (id_of c.args.values.now)) ≡ None = subst (λ (i : ℤ). cells_at c.args.core.now.xacts (current c.args.core.now.xacts c.args.s) c.args.self.now (row_key c.in_ok-number.number i) ≡ None) c.id_of-id.ensures (found_here c.args.core.now.xacts (current c.args.core.now.xacts c.args.s) c.snapshot-snap.result c.args.self.now c.in_ok-number.number c.id_of-id.result None c.snapshot-snap.ensures.view (record { sfits = c.id_of-id.type_inv }) (sym c.find.ensures ∙ none_copied c.find.result (c.if-is_some.ensures))) in
    let columns : c.columns-columns.result.now ≡ c.in_ok-number.ensures.ok.table.columns = c.columns-columns.ensures.columns ∙ ap columns_in c.in_ok-number.ensures.ok.there in
    let row : c.deref.result.now ≡ cells_of c.args.values.now = c.deref.ensures.value ∙ c.in_ok-row.ensures in
    let big : IsTooBig c.in_ok-number.ensures.ok.table.columns (cells_of c.args.values.now) c.in_err-plan.field-0.0 = subst (λ (cells : List Cell). IsTooBig c.in_ok-number.ensures.ok.table.columns cells c.in_err-plan.field-0.0) row (subst (λ (cs : List Column). IsTooBig cs c.deref.result.now c.in_err-plan.field-0.0) columns c.in_err-plan.ensures.err) in
    failed_with (Denies (insert_row c.args.table.now c.args.values.now) (world c.args.core.now.xacts c.args.self.now c.args.s) (world c.args.core.now.xacts c.args.self.now c.args.s)) c.from_residual-in_err-plan.result (By c.in_err-plan.field-0.0) c.from_residual-in_err-plan.ensures.1 (refused_big c.args.core.now.xacts c.args.self.now c.args.s c.requires.open c.args.table.now c.in_ok-number.number c.in_ok-number.ensures.ok c.args.values.now found c.in_err-plan.field-0.0 big)

pub returns-in_err-free-clause-err : goal.returns-in_err-free-clause-err
returns-in_err-free-clause-err c =
    let found : cells_at c.args.core.now.xacts (current c.args.core.now.xacts c.args.s) c.args.self.now (row_key c.in_ok-number.number (id_of c.args.values.now)) ≡ None = subst (λ (i : ℤ). cells_at c.args.core.now.xacts (current c.args.core.now.xacts c.args.s) c.args.self.now (row_key c.in_ok-number.number i) ≡ None) c.id_of-id.ensures (found_here c.args.core.now.xacts (current c.args.core.now.xacts c.args.s) c.snapshot-snap.result c.args.self.now c.in_ok-number.number c.id_of-id.result None c.snapshot-snap.ensures.view (record { sfits = c.id_of-id.type_inv }) (sym c.find.ensures ∙ none_copied c.find.result (c.if-is_some.ensures))) in
    let columns : c.columns-columns.result.now ≡ c.in_ok-number.ensures.ok.table.columns = c.columns-columns.ensures.columns ∙ ap columns_in c.in_ok-number.ensures.ok.there in
    let row : c.deref.result.now ≡ cells_of c.args.values.now = c.deref.ensures.value ∙ c.in_ok-row.ensures in
    let planned : IsPlanFor c.in_ok-number.ensures.ok.table.columns (cell_lengths (cells_of c.args.values.now)) c.in_ok-plan.plan = subst (λ (cells : List Cell). IsPlanFor c.in_ok-number.ensures.ok.table.columns (cell_lengths cells) c.in_ok-plan.plan) row (subst (λ (cs : List Column). IsPlanFor cs (cell_lengths c.deref.result.now) c.in_ok-plan.plan) columns c.in_ok-plan.ensures.ok) in
    failed_with (Denies (insert_row c.args.table.now c.args.values.now) (world c.args.core.now.xacts c.args.self.now c.args.s) (world c.args.core.now.xacts c.args.self.now c.args.s)) c.from_residual-in_err-free.result (By c.in_err-free.field-0.0) c.from_residual-in_err-free.ensures.1
    (refused_held c.args.core.now.xacts c.args.self.now c.args.s c.requires.open c.args.table.now c.in_ok-number.number c.in_ok-number.ensures.ok c.args.values.now c.in_ok-plan.plan planned found c.in_err-free.field-0.0 (subst (λ (i : ℤ). IsHeld c.args.core.now.xacts c.args.s c.args.self.now (row_key c.in_ok-number.number i) c.in_err-free.field-0.0) c.id_of-id.ensures (held_here c.args.core.now.xacts c.args.s c.args.self.now c.in_ok-number.number c.id_of-id.result c.in_err-free.field-0.0 (record { sfits = c.id_of-id.type_inv }) c.in_err-free.ensures.err)))

pub put_row-requires-clause-plan : goal.put_row-requires-clause-plan
put_row-requires-clause-plan c =
    let columns : c.columns-columns.result.now ≡ c.in_ok-number.ensures.ok.table.columns = c.columns-columns.ensures.columns ∙ ap columns_in c.in_ok-number.ensures.ok.there in
    let can : IsTableColumns c.in_ok-number.ensures.ok.table.columns = subst IsTableColumns columns c.columns-columns.ensures.can in
    let good : AreRowValues c.in_ok-number.ensures.ok.table.columns c.args.values.now = c.requires.fit c.in_ok-number.ensures.ok.table c.in_ok-number.ensures.ok.found in
    let row : c.deref.result.now ≡ cells_of c.args.values.now = c.deref.ensures.value ∙ c.in_ok-row.ensures in
    let planned : IsPlanFor c.in_ok-number.ensures.ok.table.columns (cell_lengths (cells_of c.args.values.now)) c.in_ok-plan.plan = subst (λ (cells : List Cell). IsPlanFor c.in_ok-number.ensures.ok.table.columns (cell_lengths cells) c.in_ok-plan.plan) row (subst (λ (cs : List Column). IsPlanFor cs (cell_lengths c.deref.result.now) c.in_ok-plan.plan) columns c.in_ok-plan.ensures.ok) in
    ap (λ (bs : List Bool). length bs) (ap (λ (cs : List Column). take (length cs) c.in_ok-plan.plan.outside) columns) ∙ (planned_same c.in_ok-number.ensures.ok.table.columns c.args.values.now can good c.in_ok-plan.plan planned ∙ ap (λ (cells : List Cell). length cells) (sym c.in_ok-row.ensures))

pub put_row-requires-clause-short : goal.put_row-requires-clause-short
put_row-requires-clause-short c =
    let columns : c.columns-columns.result.now ≡ c.in_ok-number.ensures.ok.table.columns = c.columns-columns.ensures.columns ∙ ap columns_in c.in_ok-number.ensures.ok.there in
    let can : IsTableColumns c.in_ok-number.ensures.ok.table.columns = subst IsTableColumns columns c.columns-columns.ensures.can in
    let good : AreRowValues c.in_ok-number.ensures.ok.table.columns c.args.values.now = c.requires.fit c.in_ok-number.ensures.ok.table c.in_ok-number.ensures.ok.found in
    subst (Each FitsLength) (sym c.in_ok-row.ensures) (new_short c.in_ok-number.ensures.ok.table.columns c.args.values.now can good)

pub returns-clause-ok : goal.returns-clause-ok
returns-clause-ok c =
    let found : cells_at c.args.core.now.xacts (current c.args.core.now.xacts c.args.s) c.args.self.now (row_key c.in_ok-number.number (id_of c.args.values.now)) ≡ None = subst (λ (i : ℤ). cells_at c.args.core.now.xacts (current c.args.core.now.xacts c.args.s) c.args.self.now (row_key c.in_ok-number.number i) ≡ None) c.id_of-id.ensures (found_here c.args.core.now.xacts (current c.args.core.now.xacts c.args.s) c.snapshot-snap.result c.args.self.now c.in_ok-number.number c.id_of-id.result None c.snapshot-snap.ensures.view (record { sfits = c.id_of-id.type_inv }) (sym c.find.ensures ∙ none_copied c.find.result (c.if-is_some.ensures))) in
    let columns : c.columns-columns.result.now ≡ c.in_ok-number.ensures.ok.table.columns = c.columns-columns.ensures.columns ∙ ap columns_in c.in_ok-number.ensures.ok.there in
    let can : IsTableColumns c.in_ok-number.ensures.ok.table.columns = subst IsTableColumns columns c.columns-columns.ensures.can in
    let good : AreRowValues c.in_ok-number.ensures.ok.table.columns c.args.values.now = c.requires.fit c.in_ok-number.ensures.ok.table c.in_ok-number.ensures.ok.found in
    let row : c.deref.result.now ≡ cells_of c.args.values.now = c.deref.ensures.value ∙ c.in_ok-row.ensures in
    let planned : IsPlanFor c.in_ok-number.ensures.ok.table.columns (cell_lengths (cells_of c.args.values.now)) c.in_ok-plan.plan = subst (λ (cells : List Cell). IsPlanFor c.in_ok-number.ensures.ok.table.columns (cell_lengths cells) c.in_ok-plan.plan) row (subst (λ (cs : List Column). IsPlanFor cs (cell_lengths c.deref.result.now) c.in_ok-plan.plan) columns c.in_ok-plan.ensures.ok) in
    let free : busy_at key_cmp c.args.core.now.xacts c.args.s c.args.self.now.rows (row_key c.in_ok-number.number (id_of c.args.values.now)) ≡ None = subst (λ (i : ℤ). busy_at key_cmp c.args.core.now.xacts c.args.s c.args.self.now.rows (row_key c.in_ok-number.number i) ≡ None) c.id_of-id.ensures (free_here c.args.core.now.xacts c.args.s c.args.self.now c.in_ok-number.number c.id_of-id.result None (record { sfits = c.id_of-id.type_inv }) c.in_ok-free.ensures.ok) in
    let made = made_here c.args.core.now.xacts c.args.s c.in_ok-number.number c.id_of-id.result (id_of c.args.values.now) (take (length c.columns-columns.result.now) c.in_ok-plan.plan.outside) c.in_ok-row.row.items (cells_of c.args.values.now) c.args.self.now c.put_row.new.self (record { sfits = c.id_of-id.type_inv }) c.id_of-id.ensures c.in_ok-row.ensures c.in_ok-put_row.ensures.ok in
    subst (λ (k : Core). Grants (insert_row c.args.table.now c.args.values.now) (world c.args.core.now.xacts c.args.self.now c.args.s) (world k.xacts c.put_row.new.self c.args.s) (Word words.Insert)) (sym c.put_row.ensures.core)
    (inserts c.args.core.now.xacts c.args.self.now c.args.s c.requires.open c.args.table.now c.in_ok-number.number c.in_ok-number.ensures.ok c.args.values.now c.in_ok-plan.plan planned found c.requires.ready c.in_ok-number.ensures.tables can (subst (λ (i : ℤ). FitsSigned w64 i) c.id_of-id.ensures (record { sfits = c.id_of-id.type_inv })) good free (take (length c.columns-columns.result.now) c.in_ok-plan.plan.outside) (ap (λ (cs : List Column). take (length cs) c.in_ok-plan.plan.outside) columns) c.put_row.new.self made)

pub returns-clause-keeps : goal.returns-clause-keeps
returns-clause-keeps c =
    let found : cells_at c.args.core.now.xacts (current c.args.core.now.xacts c.args.s) c.args.self.now (row_key c.in_ok-number.number (id_of c.args.values.now)) ≡ None = subst (λ (i : ℤ). cells_at c.args.core.now.xacts (current c.args.core.now.xacts c.args.s) c.args.self.now (row_key c.in_ok-number.number i) ≡ None) c.id_of-id.ensures (found_here c.args.core.now.xacts (current c.args.core.now.xacts c.args.s) c.snapshot-snap.result c.args.self.now c.in_ok-number.number c.id_of-id.result None c.snapshot-snap.ensures.view (record { sfits = c.id_of-id.type_inv }) (sym c.find.ensures ∙ none_copied c.find.result (c.if-is_some.ensures))) in
    let columns : c.columns-columns.result.now ≡ c.in_ok-number.ensures.ok.table.columns = c.columns-columns.ensures.columns ∙ ap columns_in c.in_ok-number.ensures.ok.there in
    let can : IsTableColumns c.in_ok-number.ensures.ok.table.columns = subst IsTableColumns columns c.columns-columns.ensures.can in
    let good : AreRowValues c.in_ok-number.ensures.ok.table.columns c.args.values.now = c.requires.fit c.in_ok-number.ensures.ok.table c.in_ok-number.ensures.ok.found in
    let row : c.deref.result.now ≡ cells_of c.args.values.now = c.deref.ensures.value ∙ c.in_ok-row.ensures in
    let planned : IsPlanFor c.in_ok-number.ensures.ok.table.columns (cell_lengths (cells_of c.args.values.now)) c.in_ok-plan.plan = subst (λ (cells : List Cell). IsPlanFor c.in_ok-number.ensures.ok.table.columns (cell_lengths cells) c.in_ok-plan.plan) row (subst (λ (cs : List Column). IsPlanFor cs (cell_lengths c.deref.result.now) c.in_ok-plan.plan) columns c.in_ok-plan.ensures.ok) in
    let free : busy_at key_cmp c.args.core.now.xacts c.args.s c.args.self.now.rows (row_key c.in_ok-number.number (id_of c.args.values.now)) ≡ None = subst (λ (i : ℤ). busy_at key_cmp c.args.core.now.xacts c.args.s c.args.self.now.rows (row_key c.in_ok-number.number i) ≡ None) c.id_of-id.ensures (free_here c.args.core.now.xacts c.args.s c.args.self.now c.in_ok-number.number c.id_of-id.result None (record { sfits = c.id_of-id.type_inv }) c.in_ok-free.ensures.ok) in
    let made = made_here c.args.core.now.xacts c.args.s c.in_ok-number.number c.id_of-id.result (id_of c.args.values.now) (take (length c.columns-columns.result.now) c.in_ok-plan.plan.outside) c.in_ok-row.row.items (cells_of c.args.values.now) c.args.self.now c.put_row.new.self (record { sfits = c.id_of-id.type_inv }) c.id_of-id.ensures c.in_ok-row.ensures c.in_ok-put_row.ensures.ok in
    subst (λ (k : Core). Keeps (world c.args.core.now.xacts c.args.self.now c.args.s) (world k.xacts c.put_row.new.self c.args.s)) (sym c.put_row.ensures.core)
    (insertion_keeps c.args.core.now.xacts c.args.self.now c.args.s c.requires.open c.args.table.now c.in_ok-number.number c.in_ok-number.ensures.ok c.args.values.now c.in_ok-plan.plan planned found c.requires.ready c.in_ok-number.ensures.tables can (subst (λ (i : ℤ). FitsSigned w64 i) c.id_of-id.ensures (record { sfits = c.id_of-id.type_inv })) good free (take (length c.columns-columns.result.now) c.in_ok-plan.plan.outside) (ap (λ (cs : List Column). take (length cs) c.in_ok-plan.plan.outside) columns) c.put_row.new.self made c.put_row.ensures.goes)
