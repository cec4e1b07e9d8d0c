use Rattle.lo_pages.proofs.Finding.{next_object_is}
use Rattle.lo_pages.proofs.pages.Pages.next_object.Goals as goal

pub returns : goal.returns
returns c = λ edits reads. next_object_is c.args.core.now.xacts c.args.snap.now c.args.self.now edits reads c.args.from c.range.result c.range.ensures
