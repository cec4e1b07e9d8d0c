use Rattle.row_tables.proofs.Vacuuming.{vacuum_goes, vacuum_stands}
use Rattle.row_tables.proofs.tables.Tables.vacuum.Goals as goal

pub returns-clause-goes : goal.returns-clause-goes
returns-clause-goes c = vacuum_goes c.args.core.now.xacts c.args.self.now c.vacuum.new.self c.vacuum-2.new.self c.vacuum.ensures.versions c.vacuum-2.ensures.all c.vacuum.ensures.goes c.vacuum-2.ensures.goes c.requires.goes

pub returns-clause-stand : goal.returns-clause-stand
returns-clause-stand c = vacuum_stands c.args.core.now.xacts c.args.self.now c.vacuum.new.self c.vacuum-2.new.self c.vacuum.ensures.versions c.vacuum-2.ensures.all
