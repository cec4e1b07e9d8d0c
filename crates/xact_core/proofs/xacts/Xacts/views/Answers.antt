use Rattle.std.proofs.Common.{ap, arith}
use Rattle.std.specs.Prelude.{sum_by}
use Rattle.xact_core.specs.Inside.{views_in}
use Rattle.xact_core.proofs.Contracts.{count_there}
use Rattle.xact_core.proofs.xacts.Xacts.views.Goals as goal

pub returns : goal.returns
returns c = omega (arith, count_there c.self.inside c.args.self.now c.self.view_is, c.open_views.ensures, ap (sum_by views_in) c.deref.ensures.value, c.len.ensures)
