use Rattle.xact_core.proofs.Contracts.{names_read}
use Rattle.xact_core.proofs.xacts.Xacts.newest.Goals as goal

pub returns : goal.returns
returns c = rw (names_read c.self.inside c.args.self.now c.args.s c.place.result c.index.result.now c.self.view_is c.self.invariant c.place.ensures.place c.place.ensures.within c.index.ensures) c.newest.ensures
