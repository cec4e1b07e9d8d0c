use Rattle.std.proofs.Common.{w32}
use Rattle.std.proofs.lemmas.Int.{to_z-of_z}
use Rattle.lo_machine.proofs.ArrayNames.{set_asked, denied_asked}
use Rattle.lo_machine.proofs.variables.Variables.set_element.Goals as goal

pub returns-in-Some-clause-ok : goal.returns-in-Some-clause-ok
returns-in-Some-clause-ok c = set_asked c.args.self.now _ c.items.result.now c.args.name.now c.args.sub c.args.value c.in-Some.array.now c.set.new.self c.set.result c.items.ensures c.in-Some.ensures.value (c.get_mut.follows.holds c.set.new.self).0 (rw (to_z-of_z w32 c.args.sub c.ranges.sub) at c.set.ensures.fits) (rw (to_z-of_z w32 c.args.sub c.ranges.sub) at c.set.ensures.ok)

pub returns-in-Some-clause-err : goal.returns-in-Some-clause-err
returns-in-Some-clause-err c = denied_asked c.args.self.now _ c.items.result.now c.args.name.now c.args.sub c.in-Some.array.now c.set.new.self c.set.result c.items.ensures c.in-Some.ensures.value (c.get_mut.follows.holds c.set.new.self).0 c.set.ensures.err (rw (to_z-of_z w32 c.args.sub c.ranges.sub) at c.set.ensures.denied)
