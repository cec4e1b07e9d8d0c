use Rattle.std.proofs.Common.{◌∙◌, ap}
use Rattle.row_tables.specs.Catalog.{with_columns}
use Rattle.row_tables.proofs.Indexing.{index_set, tables_of_set, within_entries}
use Rattle.row_tables.proofs.catalog.Catalog.set_columns.Goals as goal

pub invariant_of-self : goal.invariant_of-self
invariant_of-self c =
    let within = within_entries c.self.inside.entries.items c.args.self.now c.args.number c.self.view_is c.requires.there in
    index_set c.self.inside.entries.items c.self.inside.numbers c.args.number c.index_mut.result.now c.args.columns c.self.invariant within c.index_mut.ensures.value c.requires.can

pub returns : goal.returns
returns c =
    let within = within_entries c.self.inside.entries.items c.args.self.now c.args.number c.self.view_is c.requires.there in
    tables_of_set c.self.inside.entries.items c.args.number c.index_mut.result.now c.args.columns within c.index_mut.ensures.value
    ∙ ap (with_columns c.args.number c.args.columns) c.self.view_is
