use Rattle.std.proofs.Common.{ap, sym, refl, suc, ◌∙◌}
use Rattle.lo_model.specs.Touch.{lower_of}
use Rattle.lo_pages.proofs.Holding.{holder_is}
use Rattle.lo_pages.proofs.pages.Pages.holder.Goals as goal

pub returns : goal.returns
returns c = record { count = suc c.args.last; count_is = refl; is = sym (c.lower-2.ensures ∙ (ap (lower_of c.busy-object.result) c.lower.ensures ∙ holder_is c.args.core.now.xacts c.args.s c.args.self.now c.args.oid c.args.first c.args.last c.requires.order c.busy-object.result c.busy_in-pages.result c.busy_in-cuts.result c.busy-object.ensures c.busy_in-pages.ensures c.busy_in-cuts.ensures)) }
