use Rattle.std.proofs.Common.{◌∙◌, ap, refl, true}
use Rattle.std.specs.Prelude.{not}
use Rattle.row_tables.specs.declared.cursors.Closing.TheVariants.{OfName}
use Rattle.row_tables.specs.World.{world}
use Rattle.row_tables.proofs.Declaring.{cursor_there}
use Rattle.row_tables.proofs.Keeping.{close_done, ends_keeps, keeps_same, none_unless}
use Rattle.row_tables.proofs.tables.Tables.close_cursor.Goals as goal

pub returns-then-is_none-clause-keeps : goal.returns-then-is_none-clause-keeps
returns-then-is_none-clause-keeps c = keeps_same (world c.args.core.now.xacts c.args.self.now c.args.s) c.requires.ready

pub returns-clause-ok : goal.returns-clause-ok
returns-clause-ok c = close_done (world c.args.core.now.xacts c.args.self.now c.args.s) c.requires.ready c.close.new.xacts c.close.new.self (OfName c.args.cursor) c.close.ensures.ends c.close.ensures.left c.args.cursor.now (λ d. refl) (none_unless _ (cursor_there c.args.s c.args.cursor.now c.args.self.now.cursors c.find.result true c.find.ensures (c.is_none.ensures ∙ ap not c.if-is_none.false)))

pub returns-clause-keeps : goal.returns-clause-keeps
returns-clause-keeps c = ends_keeps (world c.args.core.now.xacts c.args.self.now c.args.s) c.requires.ready c.close.new.xacts c.close.new.self (OfName c.args.cursor) c.close.ensures.ends c.close.ensures.left
