use Rattle.std.proofs.Common.{arith}
use Rattle.std.proofs.lemmas.Int.{ints}
use Rattle.lo_calls.specs.World.{world}
use Rattle.lo_calls.proofs.Looking.{hold_among, counts_from_end}
use Rattle.lo_calls.proofs.session.LoSession.seek_base.Goals as goal

pub view-snap-requires-clause-held : goal.view-snap-requires-clause-held
view-snap-requires-clause-held c = hold_among c.args.core.now.xacts c.args.self.now.descs c.args.descriptor.now c.requires.ready.descriptors.held c.requires.open

pub returns-in-2-clause-ok : goal.returns-in-2-clause-ok
returns-in-2-clause-ok c = counts_from_end (world c.args.core.now.xacts c.args.store.now c.args.self.now) c.args.descriptor.now c.view-snap.result c.view-snap.ensures c.args.whence c.size.result (omega (arith, ints)) c.size.ensures
