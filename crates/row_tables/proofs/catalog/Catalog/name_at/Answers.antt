use Rattle.std.proofs.Common.{rules, ◌∙◌, List, map, sym, ap}
use Rattle.std.specs.Prelude.{option_map, slice_get}
use Rattle.std.specs.Option.{option_copied}
use Rattle.std.proofs.lemmas.Iterator.Consumers.{YieldsList-from_rest, nth_from_yields_List}
use Rattle.lo_model.specs.Database.{Table}
use Rattle.lo_model.specs.Listing.{tables_in_order}
use Rattle.row_tables.specs.Catalog.{name_of}
use Rattle.row_tables.proofs.NamesInOrder.{no_name_there, one_name_there}
use Rattle.row_tables.proofs.catalog.Catalog.name_at.Goals as goal

pub returns-in_err-_name : goal.returns-in_err-_name
returns-in_err-_name c =
    let none = sym (nth_from_yields_List c.nth.result c.nth.new.self c.args.k c.nth.ensures.ran (YieldsList-from_rest c.self.inside.numbers.entries c.iter.ensures.rest)) ∙ ap (option_map _) c.in_err-_name.was in
    ap option_copied c.from_residual.ensures ∙ (sym (no_name_there c.self.inside.entries.items c.self.inside.numbers c.args.k c.self.invariant c.iter.ensures.ordered none) ∙ ap (λ (l : List Table). slice_get (map name_of (tables_in_order l)) c.args.k) c.self.view_is)

pub index-requires : goal.index-requires
index-requires c =
    let found = sym (nth_from_yields_List c.nth.result c.nth.new.self c.args.k c.nth.ensures.ran (YieldsList-from_rest c.self.inside.numbers.entries c.iter.ensures.rest)) ∙ ap (option_map _) c.in_ok-_name.was in
    let at = one_name_there c.self.inside.entries.items c.self.inside.numbers c.args.k c.in_ok-_name._name.now c.in_ok-_name.number.now c.self.invariant c.iter.ensures.ordered found in
    let within = at.within in
    search rules

pub returns : goal.returns
returns c =
    let found = sym (nth_from_yields_List c.nth.result c.nth.new.self c.args.k c.nth.ensures.ran (YieldsList-from_rest c.self.inside.numbers.entries c.iter.ensures.rest)) ∙ ap (option_map _) c.in_ok-_name.was in
    let at = one_name_there c.self.inside.entries.items c.self.inside.numbers c.args.k c.in_ok-_name._name.now c.in_ok-_name.number.now c.self.invariant c.iter.ensures.ordered found in
    at.named c.index.result.now c.index.ensures ∙ (sym at.is ∙ ap (λ (l : List Table). slice_get (map name_of (tables_in_order l)) c.args.k) c.self.view_is)
