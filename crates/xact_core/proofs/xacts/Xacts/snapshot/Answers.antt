use Rattle.xact_core.proofs.Contracts.{whole_there, none_there}
use Rattle.xact_core.proofs.xacts.Xacts.snapshot.Goals as goal

pub returns-clause-kept : goal.returns-clause-kept
returns-clause-kept c = whole_there c.self.inside c.args.self.now c.args.s c.self.view_is

pub returns-clause-none : goal.returns-clause-none
returns-clause-none c = none_there c.self.inside c.args.self.now c.args.s c.self.view_is c.self.invariant
