use Rattle.std.proofs.Common.{◌∙◌}
use Rattle.lo_pages.proofs.Finding.{head_object}
use Rattle.lo_pages.proofs.pages.Pages.exists.Goals as goal

pub returns : goal.returns
returns c = λ edits reads. c.finds.ensures ∙ head_object c.args.core.now.xacts c.args.snap.now c.args.self.now edits reads c.args.oid
