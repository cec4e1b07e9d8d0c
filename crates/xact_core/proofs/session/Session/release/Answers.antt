use Rattle.std.proofs.Common.{◌≡◌, subst, take, ◌-◌}
use Rattle.xact_core.specs.Opened.{Opened, opened_of, with_released}
use Rattle.xact_core.proofs.SessionFields.{released_fields}
use Rattle.xact_core.proofs.session.Session.release.Goals as goal

pub returns : goal.returns
returns c =
    rw c.truncate.ensures.items
    (subst (λ (session : Opened). opened_of (take (c.args.level - 1) c.self.inside.levels.items) c.self.inside.places.items ≡ with_released c.args.level session) c.self.view_is (released_fields c.args.level c.self.inside.levels.items c.self.inside.places.items))
