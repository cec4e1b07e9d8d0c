use Rattle.std.proofs.Common.{rules, tests, ◌≡◌, [], ◌∷◌, ◌∙◌}
use Rattle.std.specs.List.{list_any}
use Rattle.std.proofs.lemmas.Iterator.{YieldsList-from_slice}
use Rattle.std.proofs.lemmas.Iterator.Search.{any_from_yields_List}
use Rattle.lo_base.specs.declared.value.Cell.{Cell}
use Rattle.row_tables.specs.Cells.{has_number}
use Rattle.row_tables.proofs.Numbers.{any_has}
use Rattle.row_tables.proofs.cells.has_number.Goals as goal

pub returns : goal.returns
returns c =
    let any : c.any.result ≡ list_any (λ (cell : Cell). has_number (cell ∷ []) c.args.number) c.args.row.now = any_from_yields_List (λ (cell : Cell). has_number (cell ∷ []) c.args.number) _ _ _ c.any.ensures.ran (YieldsList-from_slice c.args.row.now cc) (λ x b q k. search (rules, tests)) in
    any ∙ any_has c.args.row.now c.args.number
