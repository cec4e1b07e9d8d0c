use Rattle.lo_pages.proofs.Finding.{no_page_from, least_page, no_page_of}
use Rattle.lo_pages.proofs.pages.Pages.next_page.Goals as goal

pub returns-in_default-clause-least : goal.returns-in_default-clause-least
returns-in_default-clause-least c = no_page_from c.args.core.now.xacts c.args.snap.now c.args.self.now c.args.oid c.args.from (c.in_default.ensures)

pub returns-then-key-oid-clause-least : goal.returns-then-key-oid-clause-least
returns-then-key-oid-clause-least c = no_page_of c.args.core.now.xacts c.args.snap.now c.args.self.now c.args.oid c.args.from c.in-Some.key c.if-key-oid.true (c.in-Some.ensures)

pub returns-clause-least : goal.returns-clause-least
returns-clause-least c = least_page c.args.core.now.xacts c.args.snap.now c.args.self.now c.args.oid c.args.from c.in-Some.key c.if-key-oid.false (c.in-Some.ensures)
