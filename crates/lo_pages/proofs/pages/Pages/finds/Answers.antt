use Rattle.std.proofs.Common.{ap, sym, ◌∙◌}
use Rattle.std.specs.Prelude.{is_some}
use Rattle.lo_pages.proofs.Finding.{head_finds, some_copied}
use Rattle.lo_pages.proofs.pages.Pages.finds.Goals as goal

pub returns : goal.returns
returns c = c.is_some.ensures ∙ (some_copied c.find.result ∙ (ap is_some c.find.ensures ∙ sym (head_finds c.args.core.now.xacts c.args.snap.now c.args.self.now c.args.oid)))
