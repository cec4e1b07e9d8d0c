use Rattle.row_versions.proofs.Benching.{said_ok}
use Rattle.lo_calls.proofs.Benching.{opened_leaves}
use Rattle.lo_calls.proofs.bench.Bench.savepoint.Goals as goal

pub returns : goal.returns
returns g c = opened_leaves c.args.self.now.core.xacts c.push_level.new.self c.args.self.now.store c.args.self.now.session c.args.self.now.other _ c.requires.ready (said_ok c.push_level.result c.expect.result c.expect.ensures c.push_level.ensures.ok)
