use Rattle.std.proofs.Common.{None}
use Rattle.row_versions.proofs.Benching.{said_ok}
use Rattle.row_tables.proofs.Benching.{ready_opened}
use Rattle.row_tables.proofs.bench.Bench.begin.Goals as goal

pub returns : goal.returns
returns g c = record { ready = ready_opened c.args.self.now.core.xacts c.begin.new.self c.args.self.now.tables c.args.self.now.s c.args.self.now.s None (said_ok c.begin.result c.expect.result c.expect.ensures c.begin.ensures.ok) c.requires.ready }
