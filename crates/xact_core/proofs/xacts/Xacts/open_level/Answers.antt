use Rattle.std.proofs.Common.{refl}
use Rattle.xact_core.proofs.Contracts.{few_there, opened_xacts, opened_seen}
use Rattle.xact_core.proofs.xacts.Xacts.open_level.Goals as goal

pub invariant_of-self-2 : goal.invariant_of-self-2
invariant_of-self-2 c = opened_xacts c.self.inside _ c.args.s c.args.name (few_there c.self.inside _ c.self.view_is c.requires.views) c.self.invariant refl refl refl c.in_ok-open_level.ensures.ok

pub returns-clause-ok : goal.returns-clause-ok
returns-clause-ok c = opened_seen c.self.inside (record { clock = c.self.inside.clock; undos = c.self.inside.undos; sessions = c.open_level.new.sessions; fates = c.open_level.new.fates; held = c.self.inside.held }) _ c.args.s c.args.name c.self.view_is c.self.invariant refl refl refl c.in_ok-open_level.ensures.ok
