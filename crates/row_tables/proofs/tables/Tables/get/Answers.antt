use Rattle.std.proofs.Common.{◌≡◌, ◌∙◌, ℤ, Some, None, sym, ap, subst, w64, to_z, of_z}
use Rattle.std.proofs.lemmas.Int.{to_z-of_z}
use Rattle.lo_base.specs.declared.refusal.Cause.TheVariants.{NoRow}
use Rattle.lo_base.specs.declared.refusal.Denied.TheVariants.{By}
use Rattle.row_tables.specs.Cells.{whole_row}
use Rattle.row_tables.specs.Keys.{row_key}
use Rattle.row_tables.specs.Outside.{HasOutside}
use Rattle.row_tables.specs.RowRules.{get_row}
use Rattle.row_tables.specs.Standing.{cells_at}
use Rattle.row_tables.specs.Terms.{refusal}
use Rattle.row_tables.specs.World.{RefusesIn, world}
use Rattle.row_tables.proofs.RowReads.{get_none, get_tells}
use Rattle.row_tables.proofs.tables.Tables.get.Goals as goal

pub returns-in_default-clause-err : goal.returns-in_default-clause-err
returns-in_default-clause-err c = λ s.
    let id : to_z w64 (of_z w64 c.args.id) ≡ c.args.id = to_z-of_z w64 c.args.id c.ranges.id in
    let none : cells_at c.args.core.now.xacts c.args.snap.now c.args.self.now (row_key c.in_ok-number.number c.args.id) ≡ None = ap (λ (z : ℤ). cells_at c.args.core.now.xacts c.args.snap.now c.args.self.now (row_key c.in_ok-number.number z)) (sym id) ∙ sym c.in_default.ensures in
    let refused : c.refused.result ≡ By (refusal NoRow c.args.id) = c.refused.ensures ∙ ap (λ (z : ℤ). By (refusal NoRow z)) id in
    subst (RefusesIn (get_row c.args.table.now c.args.id) (world c.args.core.now.xacts c.args.self.now s) c.args.snap.now) (sym refused)
    (get_none c.args.core.now.xacts c.args.snap.now c.args.self.now c.args.table.now c.in_ok-number.number c.in_ok-number.ensures.ok c.requires.kept s c.args.id none)

pub returns-clause-ok : goal.returns-clause-ok
returns-clause-ok c = λ s.
    let id : to_z w64 (of_z w64 c.args.id) ≡ c.args.id = to_z-of_z w64 c.args.id c.ranges.id in
    let found : cells_at c.args.core.now.xacts c.args.snap.now c.args.self.now (row_key c.in_ok-number.number c.args.id) ≡ Some c.in-Some.row.now = ap (λ (z : ℤ). cells_at c.args.core.now.xacts c.args.snap.now c.args.self.now (row_key c.in_ok-number.number z)) (sym id) ∙ sym c.in-Some.ensures in
    get_tells c.args.core.now.xacts c.args.snap.now c.args.self.now c.args.table.now c.in_ok-number.number c.in_ok-number.ensures.ok c.requires.kept s c.args.id c.in-Some.row.now found c.from_vec.result
    (λ told has. c.from_vec.ensures ∙ (c.in_ok-whole.ensures told (subst (HasOutside told c.args.core.now.xacts c.args.snap.now c.args.self.now.chunks) (sym c.items.ensures) has) ∙ ap (whole_row told) c.items.ensures))
