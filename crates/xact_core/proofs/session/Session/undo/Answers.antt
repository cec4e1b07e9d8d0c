use Rattle.std.proofs.Common.{◌≡◌, subst, take, ◌+◌}
use Rattle.xact_core.specs.Opened.{Opened, opened_of, with_undone}
use Rattle.xact_core.proofs.SessionFields.{undone_fields, level_within}
use Rattle.xact_core.proofs.session.Session.undo.Goals as goal

pub returns : goal.returns
returns c =
    rw (c.truncate-2.ensures.items, c.truncate.ensures.items)
    (subst (λ (session : Opened). opened_of (take c.args.level c.self.inside.levels.items) (take (c.index.result.now.start + 1) c.self.inside.places.items) ≡ with_undone c.args.level session) c.self.view_is
    (undone_fields c.args.level c.self.inside.levels.items c.self.inside.places.items c.index.result.now (level_within c.self.inside.levels.items c.self.inside.places.items _ c.args.level c.self.view_is c.requires.low c.requires.high) c.index.ensures))
