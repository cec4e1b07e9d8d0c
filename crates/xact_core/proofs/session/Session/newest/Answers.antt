use Rattle.std.proofs.Common.{arith, sym, ◌∙◌}
use Rattle.std.proofs.lemmas.Bool.{false≢true}
use Rattle.xact_core.proofs.SessionFields.{none_read}
use Rattle.xact_core.proofs.session.Session.newest.Goals as goal

pub loop-index-preserved : goal.loop-index-preserved
loop-index-preserved c =
    none_read c.self.inside.levels.items c.self.inside.places.items _ c.args.name.now c.loop-index.index c.index.result.now c.self.view_is c.loop-index-test.true (omega (arith, c.loop-index.auto.index, c.len-index.ensures)) c.index.ensures
    (λ is. false≢true (sym c.if-is_named.false ∙ c.is_named.ensures.1 is)) c.loop-index.invariant
