use Rattle.std.proofs.Common.{None}
use Rattle.lo_pages.proofs.Steps.{object_put, object_left, object_goes}
use Rattle.lo_pages.proofs.pages.Pages.erase_object.Goals as goal

pub returns-clause-ok : goal.returns-clause-ok
returns-clause-ok c = object_put c.args.core.now.xacts c.args.s c.args.self.now None c.erase.result c.args.oid c.erase.new.self c.erase.ensures.ok

pub returns-clause-left : goal.returns-clause-left
returns-clause-left c = object_left c.args.core.now.xacts c.args.s c.args.self.now None c.erase.result c.args.oid c.erase.new.self c.erase.ensures.ok c.erase.ensures.err

pub returns-clause-goes : goal.returns-clause-goes
returns-clause-goes c = object_goes c.args.core.now.xacts c.args.s c.args.self.now None c.erase.new.self c.erase.ensures.goes c.requires.goes
