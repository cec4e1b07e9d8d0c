use Rattle.lo_pages.proofs.Adding.{span_free}
use Rattle.lo_pages.proofs.pages.Pages.free.Goals as goal

pub returns-in-None-clause-ok : goal.returns-in-None-clause-ok
returns-in-None-clause-ok c = span_free c.args.core.now.xacts c.args.s c.args.oid c.args.self.now c.args.first c.args.last c.requires.order c.in-None.ensures
