use Rattle.xact_core.proofs.Newest.{HasNoFrom}
use Rattle.xact_core.proofs.session.Session.newest.Given as goal

abbrev pub invariant-loop-index : goal.invariant-loop-index
invariant-loop-index l = HasNoFrom l.self.names l.name l.index
