use Rattle.std.proofs.Common.{arith}
use Rattle.row_versions.proofs.Going.{goes_put}
use Rattle.row_versions.proofs.store.Store.change.Goals as goal

pub returns-clause-goes : goal.returns-clause-goes
returns-clause-goes g c = goes_put g.K.Ord.cmp g.met.K.Ord.total g.met.K.Key.exact c.add_version.result c.args.core.now c.args.s c.args.key c.args.content c.args.self.now c.add_version.new.self (omega (arith, c.number.ensures.same, c.number.ensures.range.0)) c.requires.open c.requires.free c.add_version.ensures.ok c.add_version.ensures.err c.add_version.ensures.listed c.requires.goes
