use Rattle.std.proofs.Common.{◌≡◌, ◌∙◌, ℕ, List, Some, None, sym, ap}
use Rattle.std.specs.Prelude.{option_map}
use Rattle.std.specs.Option.{option_copied}
use Rattle.row_tables.specs.Catalog.{columns_in, columns_of, number_in}
use Rattle.row_tables.proofs.Naming.{no_table_in, stands_at}
use Rattle.row_tables.proofs.tables.Tables.columns.Goals as goal

pub returns-in_err-number-clause-columns : goal.returns-in_err-number-clause-columns
returns-in_err-number-clause-columns c =
    let is : number_in c.args.table.now c.args.self.now.catalog ≡ None = ap (λ (name : List ℕ). number_in name c.args.self.now.catalog) (sym c.items.ensures) ∙ (sym c.number.ensures.number ∙ c.in_err-number.was) in
    ap option_copied c.from_residual.ensures ∙ ap (option_map columns_of) (sym (no_table_in c.args.table.now c.args.self.now.catalog is))

pub columns-requires : goal.columns-requires
columns-requires c =
    let is : number_in c.args.table.now c.args.self.now.catalog ≡ Some c.in_ok-number.number = ap (λ (name : List ℕ). number_in name c.args.self.now.catalog) (sym c.items.ensures) ∙ (sym c.number.ensures.number ∙ c.in_ok-number.was) in
    (stands_at c.args.table.now c.args.self.now.catalog c.in_ok-number.number is).within

pub returns-clause-columns : goal.returns-clause-columns
returns-clause-columns c =
    let is : number_in c.args.table.now c.args.self.now.catalog ≡ Some c.in_ok-number.number = ap (λ (name : List ℕ). number_in name c.args.self.now.catalog) (sym c.items.ensures) ∙ (sym c.number.ensures.number ∙ c.in_ok-number.was) in
    let s = stands_at c.args.table.now c.args.self.now.catalog c.in_ok-number.number is in
    ap Some (c.columns.ensures.columns ∙ ap columns_in s.there) ∙ ap (option_map columns_of) (sym s.found)
