use Rattle.std.proofs.Common.{◌+◌, refl}
use Rattle.xact_core.proofs.Contracts.{count_stays, ticked_xacts}
use Rattle.xact_core.proofs.xacts.Xacts.tick.Goals as goal

pub invariant_of-self : goal.invariant_of-self
invariant_of-self c = ticked_xacts c.self.inside (record { clock = c.self.inside.clock + 1; undos = c.self.inside.undos; sessions = c.self.inside.sessions; fates = c.self.inside.fates; held = c.self.inside.held }) _ c.self.view_is c.requires c.self.invariant refl refl refl refl refl

pub returns-clause-views : goal.returns-clause-views
returns-clause-views c = count_stays c.self.inside (record { clock = c.self.inside.clock + 1; undos = c.self.inside.undos; sessions = c.self.inside.sessions; fates = c.self.inside.fates; held = c.self.inside.held }) _ c.self.view_is refl refl
