use Rattle.lo_machine.specs.Server.{names_in}
use Rattle.lo_machine.proofs.NewestLevel.{newest_found, newest_high}
use Rattle.lo_machine.proofs.server.Server.newest.Goals as goal

pub returns-clause-level : goal.returns-clause-level
returns-clause-level c = newest_found c.args.name.now (names_in c.args.self.now c.args.s) c.newest.result c.newest.ensures

pub returns-clause-high : goal.returns-clause-high
returns-clause-high c = newest_high c.args.name.now (names_in c.args.self.now c.args.s) c.newest.result c.newest.ensures
