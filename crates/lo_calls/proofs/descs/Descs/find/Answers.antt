use Rattle.std.proofs.Common.{◌≡◌, ◌<◌, arith, length, get_or, w32, to_z, of_z}
use Rattle.std.proofs.lemmas.Int.{ints}
use Rattle.lo_calls.proofs.Entries.{finds_here}
use Rattle.lo_calls.proofs.descs.Descs.find.Goals as goal

pub returns-then-from-clause-ok : goal.returns-then-from-clause-ok
returns-then-from-clause-ok c =
    let within : c.loop-index.index < length c.args.self.now.entries.items = omega arith in
    let is : c.descriptor-item.result ≡ get_or c.args.self.now.entries.items c.loop-index.index c.descriptor-item.result = cc in
    let same : to_z w32 (of_z w32 c.args.fd) ≡ c.args.fd = omega (arith, ints) in
    finds_here c.args.fd c.args.self.now c.loop-index.index c.descriptor-item.result within is (rw same at c.loop-index.invariant) (omega (arith, ints))
