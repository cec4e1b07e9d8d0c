use Rattle.std.proofs.Common.{arith, None}
use Rattle.lo_pages.proofs.Steps.{page_put, page_left, page_goes}
use Rattle.lo_pages.proofs.pages.Pages.erase_page.Goals as goal

pub returns-clause-ok : goal.returns-clause-ok
returns-clause-ok c = page_put c.args.core.now.xacts c.args.s c.args.self.now None c.erase.result c.args.oid c.args.number c.erase.new.self c.erase.ensures.ok

pub returns-clause-left : goal.returns-clause-left
returns-clause-left c = page_left c.args.core.now.xacts c.args.s c.args.self.now None c.erase.result c.args.oid c.args.number c.erase.new.self c.erase.ensures.ok c.erase.ensures.err

pub returns-clause-goes : goal.returns-clause-goes
returns-clause-goes c = page_goes c.args.core.now.xacts c.args.s c.args.self.now None c.erase.result c.args.oid c.args.number c.erase.new.self (omega arith) c.erase.ensures.ok c.erase.ensures.err c.erase.ensures.goes c.requires.goes
