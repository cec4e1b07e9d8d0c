use Rattle.std.proofs.Common.{None, refl}
use Rattle.row_tables.proofs.Putting.{rows_left}
use Rattle.row_tables.proofs.tables.Tables.erase_row.Goals as goal

pub returns-clause-left : goal.returns-clause-left
returns-clause-left c = record {
  rows = rows_left c.args.core.now.xacts c.args.s c.args.key None c.args.self.now.rows c.erase.new.self c.erase.result c.erase.ensures.ok c.erase.ensures.err;
  chunks = c.erase_all.ensures.left;
  catalog = refl;
  cursors = refl;
}
