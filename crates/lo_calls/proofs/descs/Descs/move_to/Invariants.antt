use Rattle.std.proofs.Common.{◌≡◌}
use Rattle.lo_calls.proofs.Entries.{entry_moved}
use Rattle.lo_calls.proofs.Mapping.{fronted}
use Rattle.lo_calls.proofs.descs.Descs.move_to.Given as goal

abbrev pub invariant-loop-descriptor : goal.invariant-loop-descriptor
invariant-loop-descriptor l = l.descriptor-items ≡ fronted (entry_moved l.number l.position) l.descriptor-index l.fn.self.entries.items
