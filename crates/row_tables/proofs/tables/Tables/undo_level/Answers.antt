use Rattle.std.proofs.Common.{◌∙◌, ap}
use Rattle.row_tables.specs.declared.cursors.Closing.TheVariants.{FromLevel}
use Rattle.row_tables.specs.Cursors.{own_cursors}
use Rattle.row_tables.proofs.Ends.{left_below, others_left}
use Rattle.row_tables.proofs.tables.Tables.undo_level.Goals as goal

pub returns-clause-own : goal.returns-clause-own
returns-clause-own c = ap (own_cursors c.args.s) c.close.ensures.left ∙ left_below c.args.s c.args.level c.args.self.now.cursors.entries.items

pub returns-clause-others : goal.returns-clause-others
returns-clause-others c t apart = ap (own_cursors t) c.close.ensures.left ∙ others_left c.args.s t (FromLevel c.args.level) apart c.args.self.now.cursors.entries.items
