use Rattle.std.proofs.Common.{rules, ◌≡◌, ◌<◌, ◌≤◌, ◌∙◌, ℕ, ℤ, pos, List, Some, None, length, refl, sym, ap, subst, arith, w64, to_z, of_z}
use Rattle.lo_base.specs.declared.refusal.Denied.TheVariants.{By}
use Rattle.lo_base.specs.declared.refusal.Cause.TheVariants.{Busy}
use Rattle.lo_model.specs.Database.{Table}
use Rattle.row_tables.specs.Catalog.{most_tables, number_in}
use Rattle.row_tables.specs.RowRules.{create_table_row}
use Rattle.row_tables.specs.Terms.{refusal}
use Rattle.row_tables.specs.World.{Denies, other_open, world}
use Rattle.row_tables.proofs.TableMaking.{grants_more, is_busy, keeps_more, table_exists, too_many}
use Rattle.row_tables.proofs.tables.Tables.create_table.Goals as goal

pub returns-then-is_some-clause-err : goal.returns-then-is_some-clause-err
returns-then-is_some-clause-err c =
    let w = world c.args.core.now.xacts c.args.self.now c.args.s in
    let is : c.number.result ≡ number_in c.args.name c.args.self.now.catalog = c.number.ensures.number ∙ ap (λ (name : List ℕ). number_in name c.args.self.now.catalog) c.items.ensures in
    subst (Denies (create_table_row c.args.name c.args.columns) w w) (sym c.refused.ensures) (table_exists c.args.name c.args.columns c.args.core.now.xacts c.args.self.now c.args.s c.number.result is (sym c.is_some.ensures ∙ c.if-is_some.true))

pub returns-then-len-ge-MOST_TABLES-clause-err : goal.returns-then-len-ge-MOST_TABLES-clause-err
returns-then-len-ge-MOST_TABLES-clause-err c =
    let w = world c.args.core.now.xacts c.args.self.now c.args.s in
    let is : c.number.result ≡ number_in c.args.name c.args.self.now.catalog = c.number.ensures.number ∙ ap (λ (name : List ℕ). number_in name c.args.self.now.catalog) c.items.ensures in
    let many : most_tables ≤ length c.args.self.now.catalog = omega (arith, c.len.ensures.count, c.if-len-ge-MOST_TABLES.true) in
    subst (Denies (create_table_row c.args.name c.args.columns) w w) (sym c.refused-then-len-ge-MOST_TABLES.ensures) (too_many c.args.name c.args.columns c.args.core.now.xacts c.args.self.now c.args.s c.number.result is (sym c.is_some.ensures ∙ c.if-is_some.false) many)

pub returns-in-Some-clause-err : goal.returns-in-Some-clause-err
returns-in-Some-clause-err c =
    let w = world c.args.core.now.xacts c.args.self.now c.args.s in
    let is : c.number.result ≡ number_in c.args.name c.args.self.now.catalog = c.number.ensures.number ∙ ap (λ (name : List ℕ). number_in name c.args.self.now.catalog) c.items.ensures in
    let few : length c.args.self.now.catalog < most_tables = omega (arith, c.len.ensures.count, c.if-len-ge-MOST_TABLES.false) in
    let other : other_open c.args.core.now.xacts c.args.s ≡ Some c.in-Some.other = sym c.other_open.ensures ∙ c.in-Some.is in
    let subject : to_z w64 (of_z w64 c.from.result) ≡ pos c.in-Some.other = search rules in
    subst (Denies (create_table_row c.args.name c.args.columns) w w) (sym (c.refused-in-Some.ensures ∙ ap (λ (z : ℤ). By (refusal Busy z)) subject)) (is_busy c.args.name c.args.columns c.args.core.now.xacts c.args.self.now c.args.s c.number.result is (sym c.is_some.ensures ∙ c.if-is_some.false) few c.in-Some.other other)

pub returns-clause-ok : goal.returns-clause-ok
returns-clause-ok c =
    let is : c.number.result ≡ number_in c.args.name c.args.self.now.catalog = c.number.ensures.number ∙ ap (λ (name : List ℕ). number_in name c.args.self.now.catalog) c.items.ensures in
    let few : length c.args.self.now.catalog < most_tables = omega (arith, c.len.ensures.count, c.if-len-ge-MOST_TABLES.false) in
    let none : other_open c.args.core.now.xacts c.args.s ≡ None = sym c.other_open.ensures ∙ c.in_default.is in
    let t : Table = record { name = c.args.name; columns = c.args.columns } in
    grants_more c.args.core.now.xacts c.args.self.now c.add.new.self t c.in_ok-add.ensures.ok c.args.s c.args.name c.args.columns refl c.number.result is (sym c.is_some.ensures ∙ c.if-is_some.false) few none

pub returns-clause-keeps : goal.returns-clause-keeps
returns-clause-keeps c =
    let t : Table = record { name = c.args.name; columns = c.args.columns } in
    keeps_more c.args.core.now.xacts c.args.self.now c.add.new.self t c.in_ok-add.ensures.ok c.args.s c.requires.ready
