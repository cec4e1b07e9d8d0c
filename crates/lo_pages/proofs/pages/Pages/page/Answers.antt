use Rattle.std.proofs.Common.{ap, sym, ◌∙◌}
use Rattle.std.specs.Option.{option_copied}
use Rattle.lo_model.specs.Descriptor.{bytes_or_none}
use Rattle.lo_pages.proofs.Finding.{page_finds}
use Rattle.lo_pages.proofs.pages.Pages.page.Goals as goal

pub returns-in-None : goal.returns-in-None
returns-in-None c = sym (ap bytes_or_none (page_finds c.args.core.now.xacts c.args.snap.now c.args.self.now c.args.oid c.args.number ∙ (sym c.find.ensures ∙ ap option_copied c.in-None.is)))

pub returns-in-Some : goal.returns-in-Some
returns-in-Some c = c.items.ensures ∙ sym (ap bytes_or_none (page_finds c.args.core.now.xacts c.args.snap.now c.args.self.now c.args.oid c.args.number ∙ (sym c.find.ensures ∙ ap option_copied c.in-Some.is)))
