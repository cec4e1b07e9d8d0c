use Rattle.std.proofs.Common.{ℕ, Bool, ap, subst, ◌∙◌}
use Rattle.std.specs.Prelude.{◌||◌, is_some}
use Rattle.lo_pages.specs.Standing.{last_number}
use Rattle.lo_pages.specs.Steps.{HasHolder}
use Rattle.lo_pages.proofs.Numbers.{open_is}
use Rattle.lo_pages.proofs.pages.Pages.is_open.Goals as goal

pub returns : goal.returns
returns c = λ ys stands. ap (λ (b : Bool). b || c.is_some-2.result) c.is_some.ensures ∙ (ap (λ (b : Bool). is_some c.holder-first.result || b) c.is_some-2.ensures ∙ open_is c.args.core.now.xacts c.args.self.now c.args.oid c.holder-first.result c.holder-second.result (subst (λ (s : ℕ). HasHolder c.args.core.now.xacts s c.args.oid 0 last_number c.args.self.now c.holder-first.result) c.in-Some.ensures.number c.holder-first.ensures) (subst (λ (s : ℕ). HasHolder c.args.core.now.xacts s c.args.oid 0 last_number c.args.self.now c.holder-second.result) c.in-Some-new.ensures.number c.holder-second.ensures) ys stands)
