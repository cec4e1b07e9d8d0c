use Rattle.std.proofs.Common.{ap}
use Rattle.row_versions.specs.declared.base.Core.{Core}
use Rattle.row_tables.proofs.Benching.{ready_vacuumed}
use Rattle.row_tables.proofs.bench.Bench.vacuum.Goals as goal

pub returns : goal.returns
returns c = record { ready = ready_vacuumed c.args.self.now.core.xacts c.vacuum.new.core.xacts c.args.self.now.tables c.vacuum.new.self c.args.self.now.s (ap (λ (k : Core). k.xacts) c.vacuum.ensures.core) c.vacuum.ensures.goes c.vacuum.ensures.catalog c.vacuum.ensures.cursors c.requires.ready }
