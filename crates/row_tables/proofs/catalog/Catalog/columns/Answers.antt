use Rattle.std.proofs.Common.{sym, subst}
use Rattle.toast_plan.specs.Columns.{IsTableColumns}
use Rattle.row_tables.proofs.Indexing.{columns_of_entry, within_entries}
use Rattle.row_tables.proofs.catalog.Catalog.columns.Goals as goal

pub returns-clause-can : goal.returns-clause-can
returns-clause-can c =
    let within = within_entries c.self.inside.entries.items c.args.self.now c.args.number c.self.view_is c.requires in
    subst IsTableColumns (sym c.items.ensures) (columns_of_entry c.self.inside.entries.items c.args.number c.index.result.now within c.index.ensures c.self.invariant.tables.columns)
