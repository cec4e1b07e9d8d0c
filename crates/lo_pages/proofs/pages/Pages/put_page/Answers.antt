use Rattle.std.proofs.Common.{arith, Some}
use Rattle.lo_pages.proofs.Steps.{page_put, page_left, page_goes}
use Rattle.lo_pages.proofs.pages.Pages.put_page.Goals as goal

pub returns-clause-ok : goal.returns-clause-ok
returns-clause-ok c = page_put c.args.core.now.xacts c.args.s c.args.self.now (Some c.args.page) c.put.result c.args.oid c.args.number c.put.new.self c.put.ensures.ok

pub returns-clause-left : goal.returns-clause-left
returns-clause-left c = page_left c.args.core.now.xacts c.args.s c.args.self.now (Some c.args.page) c.put.result c.args.oid c.args.number c.put.new.self c.put.ensures.ok c.put.ensures.err

pub returns-clause-goes : goal.returns-clause-goes
returns-clause-goes c = page_goes c.args.core.now.xacts c.args.s c.args.self.now (Some c.args.page) c.put.result c.args.oid c.args.number c.put.new.self (omega arith) c.put.ensures.ok c.put.ensures.err c.put.ensures.goes c.requires.goes
