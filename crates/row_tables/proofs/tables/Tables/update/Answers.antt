use Rattle.std.proofs.Common.{◌≡◌, ◌<◌, ℕ, List, length, take, Some, arith, sym, subst}
use Rattle.lo_base.specs.declared.reply.Reply.TheVariants.{Word}
use Rattle.lo_base.specs.declared.reply.Word.TheVariants as words
use Rattle.row_versions.specs.Count.{Different}
use Rattle.row_versions.specs.Stack.{Each}
use Rattle.row_versions.specs.declared.base.Core.{Core}
use Rattle.toast_chunks.specs.Calls.{IsFree}
use Rattle.toast_chunks.specs.Values.{next_number}
use Rattle.row_tables.specs.declared.row_key.RowKey.{RowKey}
use Rattle.row_tables.specs.Cells.{all_moved, all_settled}
use Rattle.row_tables.specs.Drafts.{DeniesDraft, IsDraft}
use Rattle.row_tables.specs.Keys.{row_key}
use Rattle.row_tables.specs.Outside.{ChangesRow}
use Rattle.row_tables.specs.RowRules.{update_row}
use Rattle.row_tables.specs.World.{Denies, Grants, Keeps, world}
use Rattle.row_tables.proofs.Exits.{failed_with}
use Rattle.row_tables.proofs.Owning.{columns_can, key_same, passed}
use Rattle.row_tables.proofs.Updating.{draft_free, draft_given, draft_keeps, draft_length, draft_once, draft_short, draft_updates, denied_alike}
use Rattle.row_tables.proofs.tables.Tables.update.Goals as goal

pub returns-in_err-row-clause-err : goal.returns-in_err-row-clause-err
returns-in_err-row-clause-err c =
    failed_with (Denies (update_row c.args.table.now c.args.id c.args.changes.now) (world c.args.core.now.xacts c.args.self.now c.args.s) (world c.args.core.now.xacts c.args.self.now c.args.s)) c.from_residual-in_err-row.result c.in_err-row.field-0.0 c.from_residual-in_err-row.ensures.1
    (denied_alike c.args.core.now.xacts c.args.self.now c.args.s c.requires.open c.args.table.now c.in_ok-number.number c.in_ok-number.ensures.ok c.args.id c.args.changes.now c.in_ok-number.ensures.tables (c.requires.fit c.in_ok-number.ensures.ok.table c.in_ok-number.ensures.ok.found) c.requires.ready c.in_err-row.field-0.0 (subst (λ (k : RowKey). DeniesDraft c.args.core.now.xacts c.args.s c.args.self.now k c.args.changes.now c.in_err-row.field-0.0) (key_same c.in_ok-number.number c.args.id c.ranges.id) c.in_err-row.ensures.err))

pub shared_ref_as_front-put_row : goal.shared_ref_as_front-put_row
shared_ref_as_front-put_row c =
    let draft : IsDraft c.args.core.now.xacts c.args.s c.args.self.now (row_key c.in_ok-number.number c.args.id) c.args.changes.now c.in_ok-row.field-0 = subst (λ (k : RowKey). IsDraft c.args.core.now.xacts c.args.s c.args.self.now k c.args.changes.now c.in_ok-row.field-0) (key_same c.in_ok-number.number c.args.id c.ranges.id) c.in_ok-row.ensures.ok in
    let count : c.len-count.result ≡ length c.in_ok-number.ensures.ok.table.columns = let all = c.in_ok-row.field-0.row.ok in let same = draft_length c.args.core.now.xacts c.args.self.now c.args.s c.requires.open c.args.table.now c.in_ok-number.number c.in_ok-number.ensures.ok c.args.id c.args.changes.now c.in_ok-number.ensures.tables (c.requires.fit c.in_ok-number.ensures.ok.table c.in_ok-number.ensures.ok.found) c.in_ok-row.field-0 draft c.requires.ready.goes.kept in omega (arith, all, same, c.len-count.ensures) in
    let few = (columns_can c.args.self.now.catalog c.in_ok-number.number c.in_ok-number.ensures.ok.table c.in_ok-number.ensures.tables.columns c.in_ok-number.ensures.ok.there).few in
    omega (arith, count, few)

pub put_row-requires-clause-short : goal.put_row-requires-clause-short
put_row-requires-clause-short c =
    let draft : IsDraft c.args.core.now.xacts c.args.s c.args.self.now (row_key c.in_ok-number.number c.args.id) c.args.changes.now c.in_ok-row.field-0 = subst (λ (k : RowKey). IsDraft c.args.core.now.xacts c.args.s c.args.self.now k c.args.changes.now c.in_ok-row.field-0) (key_same c.in_ok-number.number c.args.id c.ranges.id) c.in_ok-row.ensures.ok in
    draft_short c.args.core.now.xacts c.args.self.now c.args.s c.requires.open c.args.table.now c.in_ok-number.number c.in_ok-number.ensures.ok c.args.id c.args.changes.now c.in_ok-number.ensures.tables (c.requires.fit c.in_ok-number.ensures.ok.table c.in_ok-number.ensures.ok.found) c.in_ok-row.field-0 draft c.requires.ready.goes.kept

pub put_row-requires-clause-erasable : goal.put_row-requires-clause-erasable
put_row-requires-clause-erasable c =
    let draft : IsDraft c.args.core.now.xacts c.args.s c.args.self.now (row_key c.in_ok-number.number c.args.id) c.args.changes.now c.in_ok-row.field-0 = subst (λ (k : RowKey). IsDraft c.args.core.now.xacts c.args.s c.args.self.now k c.args.changes.now c.in_ok-row.field-0) (key_same c.in_ok-number.number c.args.id c.ranges.id) c.in_ok-row.ensures.ok in
    subst (Each (IsFree c.args.core.now.xacts c.args.s c.args.self.now.chunks)) (sym c.deref.ensures.value) (draft_free c.args.core.now.xacts c.args.self.now c.args.s c.requires.open c.args.table.now c.in_ok-number.number c.in_ok-number.ensures.ok c.args.id c.args.changes.now c.in_ok-number.ensures.tables (c.requires.fit c.in_ok-number.ensures.ok.table c.in_ok-number.ensures.ok.found) c.in_ok-row.field-0 draft c.requires.ready.goes.kept)

pub put_row-requires-clause-given : goal.put_row-requires-clause-given
put_row-requires-clause-given c =
    let draft : IsDraft c.args.core.now.xacts c.args.s c.args.self.now (row_key c.in_ok-number.number c.args.id) c.args.changes.now c.in_ok-row.field-0 = subst (λ (k : RowKey). IsDraft c.args.core.now.xacts c.args.s c.args.self.now k c.args.changes.now c.in_ok-row.field-0) (key_same c.in_ok-number.number c.args.id c.ranges.id) c.in_ok-row.ensures.ok in
    subst (Each (λ (n : ℕ). n < next_number c.args.self.now.chunks)) (sym c.deref.ensures.value) (draft_given c.args.core.now.xacts c.args.self.now c.args.s c.requires.open c.args.table.now c.in_ok-number.number c.in_ok-number.ensures.ok c.args.id c.args.changes.now c.in_ok-number.ensures.tables (c.requires.fit c.in_ok-number.ensures.ok.table c.in_ok-number.ensures.ok.found) c.in_ok-row.field-0 draft c.requires.ready.goes.kept)

pub put_row-requires-clause-once : goal.put_row-requires-clause-once
put_row-requires-clause-once c =
    let draft : IsDraft c.args.core.now.xacts c.args.s c.args.self.now (row_key c.in_ok-number.number c.args.id) c.args.changes.now c.in_ok-row.field-0 = subst (λ (k : RowKey). IsDraft c.args.core.now.xacts c.args.s c.args.self.now k c.args.changes.now c.in_ok-row.field-0) (key_same c.in_ok-number.number c.args.id c.ranges.id) c.in_ok-row.ensures.ok in
    subst Different (sym c.deref.ensures.value) (draft_once c.args.core.now.xacts c.args.self.now c.args.s c.requires.open c.args.table.now c.in_ok-number.number c.in_ok-number.ensures.ok c.args.id c.args.changes.now c.in_ok-number.ensures.tables (c.requires.fit c.in_ok-number.ensures.ok.table c.in_ok-number.ensures.ok.found) c.in_ok-row.field-0 draft c.requires.ready.goes.kept)

pub returns-clause-ok : goal.returns-clause-ok
returns-clause-ok c =
    let draft : IsDraft c.args.core.now.xacts c.args.s c.args.self.now (row_key c.in_ok-number.number c.args.id) c.args.changes.now c.in_ok-row.field-0 = subst (λ (k : RowKey). IsDraft c.args.core.now.xacts c.args.s c.args.self.now k c.args.changes.now c.in_ok-row.field-0) (key_same c.in_ok-number.number c.args.id c.ranges.id) c.in_ok-row.ensures.ok in
    let count : c.len-count.result ≡ length c.in_ok-number.ensures.ok.table.columns = let all = c.in_ok-row.field-0.row.ok in let same = draft_length c.args.core.now.xacts c.args.self.now c.args.s c.requires.open c.args.table.now c.in_ok-number.number c.in_ok-number.ensures.ok c.args.id c.args.changes.now c.in_ok-number.ensures.tables (c.requires.fit c.in_ok-number.ensures.ok.table c.in_ok-number.ensures.ok.found) c.in_ok-row.field-0 draft c.requires.ready.goes.kept in omega (arith, all, same, c.len-count.ensures) in
    let change = subst (λ (k : RowKey). ChangesRow c.args.core.now.xacts c.args.s k (all_moved (take c.len-count.result c.in_ok-row.field-0.plan.outside) c.in_ok-row.field-0.row.items (next_number c.args.self.now.chunks)) c.in_ok-row.field-0.gone.items (Some (all_settled (take c.len-count.result c.in_ok-row.field-0.plan.outside) c.in_ok-row.field-0.row.items (next_number c.args.self.now.chunks))) c.args.self.now c.put_row.new.self) (key_same c.in_ok-number.number c.args.id c.ranges.id) (subst (λ (ns : List ℕ). ChangesRow c.args.core.now.xacts c.args.s (passed c.in_ok-number.number c.args.id) (all_moved (take c.len-count.result c.in_ok-row.field-0.plan.outside) c.in_ok-row.field-0.row.items (next_number c.args.self.now.chunks)) ns (Some (all_settled (take c.len-count.result c.in_ok-row.field-0.plan.outside) c.in_ok-row.field-0.row.items (next_number c.args.self.now.chunks))) c.args.self.now c.put_row.new.self) c.deref.ensures.value c.in_ok-put_row.ensures.ok) in
    subst (λ (k : Core). Grants (update_row c.args.table.now c.args.id c.args.changes.now) (world c.args.core.now.xacts c.args.self.now c.args.s) (world k.xacts c.put_row.new.self c.args.s) (Word words.Update)) (sym c.put_row.ensures.core)
    (draft_updates c.args.core.now.xacts c.args.self.now c.args.s c.requires.open c.args.table.now c.in_ok-number.number c.in_ok-number.ensures.ok c.args.id c.args.changes.now c.in_ok-number.ensures.tables (c.requires.fit c.in_ok-number.ensures.ok.table c.in_ok-number.ensures.ok.found) c.in_ok-row.field-0 draft c.requires.ready c.ranges.id c.len-count.result count c.put_row.new.self change)

pub returns-clause-keeps : goal.returns-clause-keeps
returns-clause-keeps c =
    let draft : IsDraft c.args.core.now.xacts c.args.s c.args.self.now (row_key c.in_ok-number.number c.args.id) c.args.changes.now c.in_ok-row.field-0 = subst (λ (k : RowKey). IsDraft c.args.core.now.xacts c.args.s c.args.self.now k c.args.changes.now c.in_ok-row.field-0) (key_same c.in_ok-number.number c.args.id c.ranges.id) c.in_ok-row.ensures.ok in
    let count : c.len-count.result ≡ length c.in_ok-number.ensures.ok.table.columns = let all = c.in_ok-row.field-0.row.ok in let same = draft_length c.args.core.now.xacts c.args.self.now c.args.s c.requires.open c.args.table.now c.in_ok-number.number c.in_ok-number.ensures.ok c.args.id c.args.changes.now c.in_ok-number.ensures.tables (c.requires.fit c.in_ok-number.ensures.ok.table c.in_ok-number.ensures.ok.found) c.in_ok-row.field-0 draft c.requires.ready.goes.kept in omega (arith, all, same, c.len-count.ensures) in
    let change = subst (λ (k : RowKey). ChangesRow c.args.core.now.xacts c.args.s k (all_moved (take c.len-count.result c.in_ok-row.field-0.plan.outside) c.in_ok-row.field-0.row.items (next_number c.args.self.now.chunks)) c.in_ok-row.field-0.gone.items (Some (all_settled (take c.len-count.result c.in_ok-row.field-0.plan.outside) c.in_ok-row.field-0.row.items (next_number c.args.self.now.chunks))) c.args.self.now c.put_row.new.self) (key_same c.in_ok-number.number c.args.id c.ranges.id) (subst (λ (ns : List ℕ). ChangesRow c.args.core.now.xacts c.args.s (passed c.in_ok-number.number c.args.id) (all_moved (take c.len-count.result c.in_ok-row.field-0.plan.outside) c.in_ok-row.field-0.row.items (next_number c.args.self.now.chunks)) ns (Some (all_settled (take c.len-count.result c.in_ok-row.field-0.plan.outside) c.in_ok-row.field-0.row.items (next_number c.args.self.now.chunks))) c.args.self.now c.put_row.new.self) c.deref.ensures.value c.in_ok-put_row.ensures.ok) in
    subst (λ (k : Core). Keeps (world c.args.core.now.xacts c.args.self.now c.args.s) (world k.xacts c.put_row.new.self c.args.s)) (sym c.put_row.ensures.core)
    (draft_keeps c.args.core.now.xacts c.args.self.now c.args.s c.requires.open c.args.table.now c.in_ok-number.number c.in_ok-number.ensures.ok c.args.id c.args.changes.now c.in_ok-number.ensures.tables (c.requires.fit c.in_ok-number.ensures.ok.table c.in_ok-number.ensures.ok.found) c.in_ok-row.field-0 draft c.requires.ready c.ranges.id c.len-count.result count c.put_row.new.self change c.put_row.ensures.goes)
