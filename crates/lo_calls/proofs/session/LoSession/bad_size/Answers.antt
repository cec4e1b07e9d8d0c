use Rattle.std.proofs.Common.{w64}
use Rattle.std.proofs.lemmas.Int.{to_z-of_z}
use Rattle.lo_calls.specs.World.{world}
use Rattle.lo_calls.proofs.Sizing.{size_bad, size_missing}
use Rattle.lo_calls.proofs.session.LoSession.bad_size.Goals as goal

pub returns-then-exists : goal.returns-then-exists
returns-then-exists c =
    let len = to_z-of_z w64 c.args.len c.ranges.len in
    size_bad c.args.oid c.args.len (world c.args.core.now.xacts c.args.store.now c.args.self.now) c.requires.ready c.snapshot-snap.result c.snapshot-snap.ensures.view c.exists.result c.exists.ensures c.if-exists.true c.requires.negative c.refused.result (rw len at c.refused.ensures)

pub returns-else-exists : goal.returns-else-exists
returns-else-exists c = size_missing c.args.oid c.args.len (world c.args.core.now.xacts c.args.store.now c.args.self.now) c.requires.ready c.snapshot-snap.result c.snapshot-snap.ensures.view c.exists.result c.exists.ensures c.if-exists.false c.no_object.result c.no_object.ensures
