use Rattle.row_versions.proofs.Benching.{said_ok}
use Rattle.row_tables.proofs.Benching.{ready_opened}
use Rattle.row_tables.proofs.bench.Bench.savepoint.Goals as goal

pub returns : goal.returns
returns g c = record { ready = ready_opened c.args.self.now.core.xacts c.push_level.new.self c.args.self.now.tables c.args.self.now.s c.args.self.now.s _ (said_ok c.push_level.result c.expect.result c.expect.ensures c.push_level.ensures.ok) c.requires.ready }
