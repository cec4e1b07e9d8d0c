use Rattle.std.proofs.Common.{◌<◌, ℤ, pos, List, length, w64, to_z, of_z, refl, sym, subst, ◌∙◌}
use Rattle.std.specs.Prelude.{FitsSigned, get_or, slice_get, take}
use Rattle.std.proofs.lemmas.List.{take_all, take_more}
use Rattle.xact_core.specs.Transactions.{levels_of}
use Rattle.row_versions.specs.declared.base.Core.{Core}
use Rattle.row_tables.specs.declared.row_key.RowKey.{RowKey}
use Rattle.row_tables.specs.Catalog.{columns_in}
use Rattle.row_tables.specs.Keys.{row_key}
use Rattle.row_tables.specs.Rewriting.{AreThere, IsThere, SameKinds, StoresAnew, StoresRows}
use Rattle.row_tables.specs.Standing.{Go, GoWith}
use Rattle.row_tables.specs.World.{LeavesOwn}
use Rattle.row_tables.proofs.JudgingRows.{each_at, each_take}
use Rattle.row_tables.proofs.Owning.{key_same}
use Rattle.row_tables.proofs.StoringRows.{leaves_both, none_before, stores_more, stores_none, there_same}
use Rattle.row_tables.proofs.tables.Tables.store_rows.Goals as goal

pub loop-id-init : goal.loop-id-init
loop-id-init c = (refl, stores_none c.args.core.now.xacts c.args.s c.args.number c.args.columns.now c.args.self.now c.requires.goes)

pub store_anew-requires-clause-open : goal.store_anew-requires-clause-open
store_anew-requires-clause-open c = subst (λ (k : Core). 0 < length (levels_of k.xacts c.args.s)) (sym c.loop-id.invariant.0) c.requires.open

pub store_anew-requires-clause-goes : goal.store_anew-requires-clause-goes
store_anew-requires-clause-goes c = subst (λ (k : Core). GoWith k.xacts c.loop-id.self) (sym c.loop-id.invariant.0) (record { stores = c.loop-id.invariant.1.stores; kept = c.loop-id.invariant.1.kept })

pub store_anew-requires-clause-kinds : goal.store_anew-requires-clause-kinds
store_anew-requires-clause-kinds c = subst (λ tables. SameKinds (columns_in (slice_get tables c.args.number)) c.args.columns.now) (sym c.loop-id.invariant.1.left.catalog) c.requires.kinds

pub store_anew-requires-clause-there : goal.store_anew-requires-clause-there
store_anew-requires-clause-there c =
    let x = c.args.core.now.xacts in
    let id = get_or c.args.ids.now c.loop-id.id-index (pos 0) in
    let there : FitsSigned w64 id × IsThere x c.args.s c.args.self.now (row_key c.args.number id) c.args.columns.now = each_at (λ (i : ℤ). FitsSigned w64 i × IsThere x c.args.s c.args.self.now (row_key c.args.number i) c.args.columns.now) c.args.ids.now c.loop-id.id-index c.loop-id-test.true c.requires.there in
    let apart = none_before c.args.ids.now c.loop-id.id-index c.requires.order c.loop-id-test.true in
    subst (λ (k : Core). IsThere k.xacts c.args.s c.loop-id.self (row_key c.args.number (to_z w64 (of_z w64 id))) c.args.columns.now) (sym c.loop-id.invariant.0)
    (subst (λ (k : RowKey). IsThere x c.args.s c.loop-id.self k c.args.columns.now) (sym (key_same c.args.number id there.0))
    (there_same x c.args.s c.args.self.now c.loop-id.self (row_key c.args.number id) c.args.columns.now (c.loop-id.invariant.1.others id apart) there.1))

pub returns-in_err-store_anew-clause-left : goal.returns-in_err-store_anew-clause-left
returns-in_err-store_anew-clause-left c = leaves_both c.args.core.now.xacts c.args.s c.args.self.now c.loop-id.self c.store_anew.new.self c.loop-id.invariant.1.left (subst (λ (k : Core). LeavesOwn k.xacts c.args.s c.loop-id.self c.store_anew.new.self) c.loop-id.invariant.0 c.store_anew.ensures.left)

pub returns-in_err-store_anew-clause-goes : goal.returns-in_err-store_anew-clause-goes
returns-in_err-store_anew-clause-goes c = subst (λ (k : Core). Go k.xacts c.store_anew.new.self) c.loop-id.invariant.0 c.store_anew.ensures.goes

pub returns-in_err-store_anew-clause-core : goal.returns-in_err-store_anew-clause-core
returns-in_err-store_anew-clause-core c = c.store_anew.ensures.core ∙ c.loop-id.invariant.0

pub loop-id-preserved : goal.loop-id-preserved
loop-id-preserved c =
    let x = c.args.core.now.xacts in
    let i = c.loop-id.id-index in
    let id = get_or c.args.ids.now i (pos 0) in
    let here : FitsSigned w64 id × IsThere x c.args.s c.args.self.now (row_key c.args.number id) c.args.columns.now = each_at (λ (j : ℤ). FitsSigned w64 j × IsThere x c.args.s c.args.self.now (row_key c.args.number j) c.args.columns.now) c.args.ids.now i c.loop-id-test.true c.requires.there in
    let before : AreThere x c.args.s c.args.self.now c.args.number c.args.columns.now (take i c.args.ids.now) = each_take (λ (j : ℤ). FitsSigned w64 j × IsThere x c.args.s c.args.self.now (row_key c.args.number j) c.args.columns.now) c.args.ids.now i c.requires.there in
    let apart = none_before c.args.ids.now i c.requires.order c.loop-id-test.true in
    let anew : StoresAnew x c.args.s (row_key c.args.number id) c.args.columns.now c.loop-id.self c.store_anew.new.self = subst (λ (k : RowKey). StoresAnew x c.args.s k c.args.columns.now c.loop-id.self c.store_anew.new.self) (key_same c.args.number id here.0) (subst (λ (k : Core). StoresAnew k.xacts c.args.s (row_key c.args.number (to_z w64 (of_z w64 id))) c.args.columns.now c.loop-id.self c.store_anew.new.self) c.loop-id.invariant.0 c.in_ok-store_anew.ensures.ok) in
    let go : Go x c.store_anew.new.self = subst (λ (k : Core). Go k.xacts c.store_anew.new.self) c.loop-id.invariant.0 c.store_anew.ensures.goes in
    let left : LeavesOwn x c.args.s c.loop-id.self c.store_anew.new.self = subst (λ (k : Core). LeavesOwn k.xacts c.args.s c.loop-id.self c.store_anew.new.self) c.loop-id.invariant.0 c.store_anew.ensures.left in (
      c.store_anew.ensures.core ∙ c.loop-id.invariant.0,
      subst (λ (ids : List ℤ). StoresRows x c.args.s c.args.number c.args.columns.now ids c.args.self.now c.store_anew.new.self) (sym (take_more c.args.ids.now i (pos 0) c.loop-id-test.true))
          (stores_more x c.args.s c.requires.open c.requires.whole c.args.number c.args.columns.now c.requires.columns c.args.self.now c.requires.tables c.requires.table c.requires.kinds (take i c.args.ids.now) before c.loop-id.self c.store_anew.new.self c.loop-id.invariant.1 id here.0 apart here.1 anew go left),
    )

pub returns-clause-ok : goal.returns-clause-ok
returns-clause-ok c = subst (λ (ids : List ℤ). StoresRows c.args.core.now.xacts c.args.s c.args.number c.args.columns.now ids c.args.self.now c.loop-id.self) (take_all c.loop-id.id-index c.args.ids.now c.loop-id-test.false) c.loop-id.invariant.1

pub returns-clause-left : goal.returns-clause-left
returns-clause-left c = c.loop-id.invariant.1.left

pub returns-clause-goes : goal.returns-clause-goes
returns-clause-goes c = c.loop-id.invariant.1.stores

pub returns-clause-core : goal.returns-clause-core
returns-clause-core c = c.loop-id.invariant.0
