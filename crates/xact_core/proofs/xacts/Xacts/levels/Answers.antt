use Rattle.std.proofs.Common.{ap, length, sym, ◌∙◌}
use Rattle.xact_core.proofs.Contracts.{names_read, owners_there}
use Rattle.xact_core.proofs.xacts.Xacts.levels.Goals as goal

pub returns-clause-count : goal.returns-clause-count
returns-clause-count c = c.levels.ensures.count ∙ sym (ap length (names_read c.self.inside c.args.self.now c.args.s c.place.result c.index.result.now c.self.view_is c.self.invariant c.place.ensures.place c.place.ensures.within c.index.ensures))

pub returns-clause-owners : goal.returns-clause-owners
returns-clause-owners c = owners_there c.self.inside c.args.self.now c.self.view_is c.self.invariant

pub returns-clause-stamps : goal.returns-clause-stamps
returns-clause-stamps c st l owner = rw (returns-clause-count c) ((returns-clause-owners c).level st c.args.s l owner)
