use Rattle.std.proofs.Common.{◌≡◌, ◌∙◌, ℕ, List, refl, ap, sym, Some, None}
use Rattle.row_tables.specs.Catalog.{number_in}
use Rattle.row_tables.proofs.Naming.{no_table_in, stands_at}
use Rattle.row_tables.proofs.tables.Tables.number.Goals as goal

pub returns-in-Some-clause-ok : goal.returns-in-Some-clause-ok
returns-in-Some-clause-ok c =
    let is : number_in c.args.table.now c.args.self.now.catalog ≡ Some c.in-Some.number = ap (λ (name : List ℕ). number_in name c.args.self.now.catalog) (sym c.items.ensures) ∙ (sym c.number.ensures.number ∙ c.in-Some.is) in
    let s = stands_at c.args.table.now c.args.self.now.catalog c.in-Some.number is in
    record { table = s.table; is = is; there = s.there; named = s.named; found = s.found }

pub returns-in-None-clause-err : goal.returns-in-None-clause-err
returns-in-None-clause-err c =
    let is : number_in c.args.table.now c.args.self.now.catalog ≡ None = ap (λ (name : List ℕ). number_in name c.args.self.now.catalog) (sym c.items.ensures) ∙ (sym c.number.ensures.number ∙ c.in-None.is) in
    record { none = no_table_in c.args.table.now c.args.self.now.catalog is; refused = refl }
