use Rattle.std.proofs.Common.{◌≡◌, ◌<◌, ℕ, ℤ, List, Some, None, length, w64, refl, ap, sym, subst, ◌∙◌}
use Rattle.std.specs.Prelude.{FitsSigned, slice_get}
use Rattle.lo_base.specs.declared.column.Column.{Column}
use Rattle.lo_base.specs.declared.refusal.Denied.TheVariants.{By}
use Rattle.lo_base.specs.declared.reply.Reply.TheVariants.{Counted}
use Rattle.lo_base.specs.declared.reply.Word.TheVariants as words
use Rattle.toast_plan.specs.Columns.{IsTableColumns}
use Rattle.xact_core.specs.declared.snapshot.Snapshot.{Snapshot}
use Rattle.xact_core.specs.Kept.{current}
use Rattle.row_versions.specs.declared.base.Core.{Core}
use Rattle.row_versions.specs.Stack.{Each}
use Rattle.row_tables.specs.declared.tables.Tables.{Tables}
use Rattle.row_tables.specs.Catalog.{columns_in, with_columns}
use Rattle.row_tables.specs.Reading.{ListsIds}
use Rattle.row_tables.specs.Rewriting.{AreThere, DeniesStorages, HasNewColumns, SameKinds, StoresRows, first_too_big}
use Rattle.row_tables.specs.RewriteRules.{rewrite_row, storage_refusals, with_storages}
use Rattle.row_tables.specs.Terms.{first_of}
use Rattle.row_tables.specs.World.{Denies, Grants, Keeps, world}
use Rattle.row_tables.proofs.Exits.{failed_with}
use Rattle.row_tables.proofs.JudgingRows.{all_fit, all_there}
use Rattle.row_tables.proofs.Naming.{stands_at}
use Rattle.row_tables.proofs.Rewritten.{denied_storages, refused_big, refused_busy, rewrite_keeps, rewrites}
use Rattle.row_tables.proofs.Storages.{can_store, kinds_kept}
use Rattle.row_tables.proofs.tables.Tables.rewrite.Goals as goal

pub returns-in_err-columns-clause-err : goal.returns-in_err-columns-clause-err
returns-in_err-columns-clause-err c =
    let x = c.args.core.now.xacts in
    let s = c.args.s in
    let tables = c.args.self.now in
    let number = c.in_ok-number.number in
    let storages = c.args.storages.now in
    let is = c.in_ok-number.ensures.ok in
    let was : c.columns.result.now ≡ is.table.columns = c.columns.ensures.columns ∙ ap columns_in is.there in
    failed_with (Denies (rewrite_row c.args.table.now storages) (world x tables s) (world x tables s)) c.from_residual-in_err-columns.result c.in_err-columns.field-0.0 c.from_residual-in_err-columns.ensures.1
    (denied_storages x tables s c.requires.open c.args.table.now number is storages c.requires.ready.goes.stores c.in_err-columns.field-0.0 (subst (λ (cs : List Column). DeniesStorages cs storages c.in_err-columns.field-0.0) was c.in_err-columns.ensures.err))

pub judge_rows-requires-clause-columns : goal.judge_rows-requires-clause-columns
judge_rows-requires-clause-columns c =
    let x = c.args.core.now.xacts in
    let s = c.args.s in
    let tables = c.args.self.now in
    let number = c.in_ok-number.number in
    let storages = c.args.storages.now in
    let is = c.in_ok-number.ensures.ok in
    let was : c.columns.result.now ≡ is.table.columns = c.columns.ensures.columns ∙ ap columns_in is.there in
    let columns = with_storages storages is.table.columns in
    let cols : c.in_ok-columns.columns ≡ columns = c.in_ok-columns.ensures.ok ∙ ap (with_storages storages) was in
    let judged : first_of (storage_refusals 1 is.table.columns storages) ≡ None = subst (λ (cs : List Column). first_of (storage_refusals 1 cs storages) ≡ None) was c.in_ok-columns.ensures.judged in
    let can : IsTableColumns columns = can_store is.table.columns storages (subst IsTableColumns was c.columns.ensures.can) judged in
    subst IsTableColumns (sym (c.items.ensures ∙ cols)) can

pub judge_rows-requires-clause-kinds : goal.judge_rows-requires-clause-kinds
judge_rows-requires-clause-kinds c =
    let x = c.args.core.now.xacts in
    let s = c.args.s in
    let tables = c.args.self.now in
    let number = c.in_ok-number.number in
    let storages = c.args.storages.now in
    let is = c.in_ok-number.ensures.ok in
    let was : c.columns.result.now ≡ is.table.columns = c.columns.ensures.columns ∙ ap columns_in is.there in
    let columns = with_storages storages is.table.columns in
    let cols : c.in_ok-columns.columns ≡ columns = c.in_ok-columns.ensures.ok ∙ ap (with_storages storages) was in
    let kinds : SameKinds (columns_in (slice_get tables.catalog number)) columns = subst (λ (cs : List Column). SameKinds cs columns) (sym (ap columns_in is.there)) (kinds_kept storages is.table.columns) in
    subst (SameKinds (columns_in (slice_get tables.catalog number))) (sym (c.items.ensures ∙ cols)) kinds

pub judge_rows-requires-clause-fit : goal.judge_rows-requires-clause-fit
judge_rows-requires-clause-fit c =
    let x = c.args.core.now.xacts in
    let s = c.args.s in
    let tables = c.args.self.now in
    let number = c.in_ok-number.number in
    let storages = c.args.storages.now in
    let is = c.in_ok-number.ensures.ok in
    let was : c.columns.result.now ≡ is.table.columns = c.columns.ensures.columns ∙ ap columns_in is.there in
    let ids = c.in_ok-ids.ids.items in
    let lists : ListsIds x (current x s) tables number ids = subst (λ (v : Snapshot). ListsIds x v tables number ids) c.snapshot-snap.ensures.view c.in_ok-ids.ensures in
    subst (Each (FitsSigned w64)) (sym c.deref.ensures.value) (all_fit x (current x s) tables number ids lists)

pub returns-in_err-judge_rows-clause-err : goal.returns-in_err-judge_rows-clause-err
returns-in_err-judge_rows-clause-err c =
    let x = c.args.core.now.xacts in
    let s = c.args.s in
    let tables = c.args.self.now in
    let number = c.in_ok-number.number in
    let storages = c.args.storages.now in
    let is = c.in_ok-number.ensures.ok in
    let was : c.columns.result.now ≡ is.table.columns = c.columns.ensures.columns ∙ ap columns_in is.there in
    let columns = with_storages storages is.table.columns in
    let cols : c.in_ok-columns.columns ≡ columns = c.in_ok-columns.ensures.ok ∙ ap (with_storages storages) was in
    let judged : first_of (storage_refusals 1 is.table.columns storages) ≡ None = subst (λ (cs : List Column). first_of (storage_refusals 1 cs storages) ≡ None) was c.in_ok-columns.ensures.judged in
    let ids = c.in_ok-ids.ids.items in
    let lists : ListsIds x (current x s) tables number ids = subst (λ (v : Snapshot). ListsIds x v tables number ids) c.snapshot-snap.ensures.view c.in_ok-ids.ensures in
    let r = c.in_err-judge_rows.field-0.0 in
    let big : first_too_big x (current x s) tables number columns ids ≡ Some r = subst (λ (v : Snapshot). first_too_big x v tables number columns ids ≡ Some r) c.snapshot-snap.ensures.view (subst (λ (cs : List Column). first_too_big x c.snapshot-snap.result tables number cs ids ≡ Some r) (c.items.ensures ∙ cols) (subst (λ (is : List ℤ). first_too_big x c.snapshot-snap.result tables number c.items.result.now is ≡ Some r) c.deref.ensures.value c.in_err-judge_rows.ensures.err)) in
    failed_with (Denies (rewrite_row c.args.table.now storages) (world x tables s) (world x tables s)) c.from_residual-in_err-judge_rows.result (By r) c.from_residual-in_err-judge_rows.ensures.1
    (refused_big x tables s c.requires.open c.args.table.now number is storages judged ids lists r big)

pub returns-in_err-free_table-clause-err : goal.returns-in_err-free_table-clause-err
returns-in_err-free_table-clause-err c =
    let x = c.args.core.now.xacts in
    let s = c.args.s in
    let tables = c.args.self.now in
    let number = c.in_ok-number.number in
    let storages = c.args.storages.now in
    let is = c.in_ok-number.ensures.ok in
    let was : c.columns.result.now ≡ is.table.columns = c.columns.ensures.columns ∙ ap columns_in is.there in
    let columns = with_storages storages is.table.columns in
    let cols : c.in_ok-columns.columns ≡ columns = c.in_ok-columns.ensures.ok ∙ ap (with_storages storages) was in
    let judged : first_of (storage_refusals 1 is.table.columns storages) ≡ None = subst (λ (cs : List Column). first_of (storage_refusals 1 cs storages) ≡ None) was c.in_ok-columns.ensures.judged in
    let ids = c.in_ok-ids.ids.items in
    let lists : ListsIds x (current x s) tables number ids = subst (λ (v : Snapshot). ListsIds x v tables number ids) c.snapshot-snap.ensures.view c.in_ok-ids.ensures in
    let small : first_too_big x (current x s) tables number columns ids ≡ None = subst (λ (v : Snapshot). first_too_big x v tables number columns ids ≡ None) c.snapshot-snap.ensures.view (subst (λ (cs : List Column). first_too_big x c.snapshot-snap.result tables number cs ids ≡ None) (c.items.ensures ∙ cols) (subst (λ (is : List ℤ). first_too_big x c.snapshot-snap.result tables number c.items.result.now is ≡ None) c.deref.ensures.value c.in_ok-judge_rows.ensures.ok)) in
    let r = c.in_err-free_table.field-0.0 in
    failed_with (Denies (rewrite_row c.args.table.now storages) (world x tables s) (world x tables s)) c.from_residual-in_err-free_table.result (By r) c.from_residual-in_err-free_table.ensures.1
    (refused_busy x tables s c.requires.open c.args.table.now number is storages judged ids lists small r c.in_err-free_table.ensures.err)

pub store_rows-requires-clause-table : goal.store_rows-requires-clause-table
store_rows-requires-clause-table c =
    (stands_at c.args.table.now c.args.self.now.catalog c.in_ok-number.number c.in_ok-number.ensures.ok.is).within

pub store_rows-requires-clause-columns : goal.store_rows-requires-clause-columns
store_rows-requires-clause-columns c =
    let x = c.args.core.now.xacts in
    let s = c.args.s in
    let tables = c.args.self.now in
    let number = c.in_ok-number.number in
    let storages = c.args.storages.now in
    let is = c.in_ok-number.ensures.ok in
    let was : c.columns.result.now ≡ is.table.columns = c.columns.ensures.columns ∙ ap columns_in is.there in
    let columns = with_storages storages is.table.columns in
    let cols : c.in_ok-columns.columns ≡ columns = c.in_ok-columns.ensures.ok ∙ ap (with_storages storages) was in
    let judged : first_of (storage_refusals 1 is.table.columns storages) ≡ None = subst (λ (cs : List Column). first_of (storage_refusals 1 cs storages) ≡ None) was c.in_ok-columns.ensures.judged in
    let can : IsTableColumns columns = can_store is.table.columns storages (subst IsTableColumns was c.columns.ensures.can) judged in
    subst IsTableColumns (sym (c.items-2.ensures ∙ cols)) can

pub store_rows-requires-clause-kinds : goal.store_rows-requires-clause-kinds
store_rows-requires-clause-kinds c =
    let x = c.args.core.now.xacts in
    let s = c.args.s in
    let tables = c.args.self.now in
    let number = c.in_ok-number.number in
    let storages = c.args.storages.now in
    let is = c.in_ok-number.ensures.ok in
    let was : c.columns.result.now ≡ is.table.columns = c.columns.ensures.columns ∙ ap columns_in is.there in
    let columns = with_storages storages is.table.columns in
    let cols : c.in_ok-columns.columns ≡ columns = c.in_ok-columns.ensures.ok ∙ ap (with_storages storages) was in
    let kinds : SameKinds (columns_in (slice_get tables.catalog number)) columns = subst (λ (cs : List Column). SameKinds cs columns) (sym (ap columns_in is.there)) (kinds_kept storages is.table.columns) in
    subst (SameKinds (columns_in (slice_get tables.catalog number))) (sym (c.items-2.ensures ∙ cols)) kinds

pub store_rows-requires-clause-there : goal.store_rows-requires-clause-there
store_rows-requires-clause-there c =
    let x = c.args.core.now.xacts in
    let s = c.args.s in
    let tables = c.args.self.now in
    let number = c.in_ok-number.number in
    let storages = c.args.storages.now in
    let is = c.in_ok-number.ensures.ok in
    let was : c.columns.result.now ≡ is.table.columns = c.columns.ensures.columns ∙ ap columns_in is.there in
    let columns = with_storages storages is.table.columns in
    let cols : c.in_ok-columns.columns ≡ columns = c.in_ok-columns.ensures.ok ∙ ap (with_storages storages) was in
    let ids = c.in_ok-ids.ids.items in
    let lists : ListsIds x (current x s) tables number ids = subst (λ (v : Snapshot). ListsIds x v tables number ids) c.snapshot-snap.ensures.view c.in_ok-ids.ensures in
    let small : first_too_big x (current x s) tables number columns ids ≡ None = subst (λ (v : Snapshot). first_too_big x v tables number columns ids ≡ None) c.snapshot-snap.ensures.view (subst (λ (cs : List Column). first_too_big x c.snapshot-snap.result tables number cs ids ≡ None) (c.items.ensures ∙ cols) (subst (λ (is : List ℤ). first_too_big x c.snapshot-snap.result tables number c.items.result.now is ≡ None) c.deref.ensures.value c.in_ok-judge_rows.ensures.ok)) in
    subst (λ (is : List ℤ). AreThere x s tables number c.items-2.result.now is) (sym c.deref-2.ensures.value)
    (subst (λ (cs : List Column). AreThere x s tables number cs ids) (sym (c.items-2.ensures ∙ cols))
    (all_there x s tables number columns ids lists small c.in_ok-free_table.ensures.ok))

pub set_columns-requires-clause-there : goal.set_columns-requires-clause-there
set_columns-requires-clause-there c =
    subst (λ (count : ℕ). c.in_ok-number.number < count) (sym (ap length c.in_ok-store_rows.ensures.left.catalog)) (stands_at c.args.table.now c.args.self.now.catalog c.in_ok-number.number c.in_ok-number.ensures.ok.is).within

pub set_columns-requires-clause-can : goal.set_columns-requires-clause-can
set_columns-requires-clause-can c =
    let x = c.args.core.now.xacts in
    let s = c.args.s in
    let tables = c.args.self.now in
    let number = c.in_ok-number.number in
    let storages = c.args.storages.now in
    let is = c.in_ok-number.ensures.ok in
    let was : c.columns.result.now ≡ is.table.columns = c.columns.ensures.columns ∙ ap columns_in is.there in
    let columns = with_storages storages is.table.columns in
    let cols : c.in_ok-columns.columns ≡ columns = c.in_ok-columns.ensures.ok ∙ ap (with_storages storages) was in
    let judged : first_of (storage_refusals 1 is.table.columns storages) ≡ None = subst (λ (cs : List Column). first_of (storage_refusals 1 cs storages) ≡ None) was c.in_ok-columns.ensures.judged in
    let can : IsTableColumns columns = can_store is.table.columns storages (subst IsTableColumns was c.columns.ensures.can) judged in
    subst IsTableColumns (sym cols) can

pub returns-clause-ok : goal.returns-clause-ok
returns-clause-ok c =
    let x = c.args.core.now.xacts in
    let s = c.args.s in
    let tables = c.args.self.now in
    let number = c.in_ok-number.number in
    let storages = c.args.storages.now in
    let is = c.in_ok-number.ensures.ok in
    let was : c.columns.result.now ≡ is.table.columns = c.columns.ensures.columns ∙ ap columns_in is.there in
    let columns = with_storages storages is.table.columns in
    let cols : c.in_ok-columns.columns ≡ columns = c.in_ok-columns.ensures.ok ∙ ap (with_storages storages) was in
    let judged : first_of (storage_refusals 1 is.table.columns storages) ≡ None = subst (λ (cs : List Column). first_of (storage_refusals 1 cs storages) ≡ None) was c.in_ok-columns.ensures.judged in
    let ids = c.in_ok-ids.ids.items in
    let lists : ListsIds x (current x s) tables number ids = subst (λ (v : Snapshot). ListsIds x v tables number ids) c.snapshot-snap.ensures.view c.in_ok-ids.ensures in
    let small : first_too_big x (current x s) tables number columns ids ≡ None = subst (λ (v : Snapshot). first_too_big x v tables number columns ids ≡ None) c.snapshot-snap.ensures.view (subst (λ (cs : List Column). first_too_big x c.snapshot-snap.result tables number cs ids ≡ None) (c.items.ensures ∙ cols) (subst (λ (is : List ℤ). first_too_big x c.snapshot-snap.result tables number c.items.result.now is ≡ None) c.deref.ensures.value c.in_ok-judge_rows.ensures.ok)) in
    let mid = c.store_rows.new.self in
    let new : Tables = record { alloc = mid.alloc; catalog = c.set_columns.new.self; rows = mid.rows; chunks = mid.chunks; cursors = mid.cursors } in
    let stores : StoresRows x s number columns ids tables mid = subst (λ (is : List ℤ). StoresRows x s number columns is tables mid) c.deref-2.ensures.value (subst (λ (cs : List Column). StoresRows x s number cs c.deref-2.result.now tables mid) (c.items-2.ensures ∙ cols) c.in_ok-store_rows.ensures.ok) in
    let has : HasNewColumns number columns mid new = record { rows = refl; chunks = refl; cursors = refl; catalog = c.set_columns.ensures ∙ ap (λ (cs : List Column). with_columns number cs mid.catalog) cols } in
    let count : c.len.result ≡ length ids = c.len.ensures ∙ (sym c.deref-2.ensures.len ∙ ap length c.deref-2.ensures.value) in
    subst (λ (n : ℕ). Grants (rewrite_row c.args.table.now storages) (world x tables s) (world c.store_rows.new.core.xacts new s) (Counted words.Rewrite n)) (sym count)
    (subst (λ (k : Core). Grants (rewrite_row c.args.table.now storages) (world x tables s) (world k.xacts new s) (Counted words.Rewrite (length ids))) (sym c.store_rows.ensures.core)
    (rewrites x tables s c.requires.open c.args.table.now number is storages judged ids lists small c.requires.ready c.in_ok-free_table.ensures.ok mid new stores has))

pub returns-clause-keeps : goal.returns-clause-keeps
returns-clause-keeps c =
    let x = c.args.core.now.xacts in
    let s = c.args.s in
    let tables = c.args.self.now in
    let number = c.in_ok-number.number in
    let storages = c.args.storages.now in
    let is = c.in_ok-number.ensures.ok in
    let was : c.columns.result.now ≡ is.table.columns = c.columns.ensures.columns ∙ ap columns_in is.there in
    let columns = with_storages storages is.table.columns in
    let cols : c.in_ok-columns.columns ≡ columns = c.in_ok-columns.ensures.ok ∙ ap (with_storages storages) was in
    let judged : first_of (storage_refusals 1 is.table.columns storages) ≡ None = subst (λ (cs : List Column). first_of (storage_refusals 1 cs storages) ≡ None) was c.in_ok-columns.ensures.judged in
    let ids = c.in_ok-ids.ids.items in
    let lists : ListsIds x (current x s) tables number ids = subst (λ (v : Snapshot). ListsIds x v tables number ids) c.snapshot-snap.ensures.view c.in_ok-ids.ensures in
    let small : first_too_big x (current x s) tables number columns ids ≡ None = subst (λ (v : Snapshot). first_too_big x v tables number columns ids ≡ None) c.snapshot-snap.ensures.view (subst (λ (cs : List Column). first_too_big x c.snapshot-snap.result tables number cs ids ≡ None) (c.items.ensures ∙ cols) (subst (λ (is : List ℤ). first_too_big x c.snapshot-snap.result tables number c.items.result.now is ≡ None) c.deref.ensures.value c.in_ok-judge_rows.ensures.ok)) in
    let mid = c.store_rows.new.self in
    let new : Tables = record { alloc = mid.alloc; catalog = c.set_columns.new.self; rows = mid.rows; chunks = mid.chunks; cursors = mid.cursors } in
    let stores : StoresRows x s number columns ids tables mid = subst (λ (is : List ℤ). StoresRows x s number columns is tables mid) c.deref-2.ensures.value (subst (λ (cs : List Column). StoresRows x s number cs c.deref-2.result.now tables mid) (c.items-2.ensures ∙ cols) c.in_ok-store_rows.ensures.ok) in
    let has : HasNewColumns number columns mid new = record { rows = refl; chunks = refl; cursors = refl; catalog = c.set_columns.ensures ∙ ap (λ (cs : List Column). with_columns number cs mid.catalog) cols } in
    subst (λ (k : Core). Keeps (world x tables s) (world k.xacts new s)) (sym c.store_rows.ensures.core)
    (rewrite_keeps x tables s c.requires.open c.args.table.now number is storages judged ids lists small c.requires.ready c.in_ok-free_table.ensures.ok mid new stores has)
