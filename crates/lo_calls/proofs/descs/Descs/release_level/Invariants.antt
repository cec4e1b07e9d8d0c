use Rattle.std.proofs.Common.{◌≡◌}
use Rattle.lo_calls.proofs.Entries.{entry_released}
use Rattle.lo_calls.proofs.Mapping.{fronted}
use Rattle.lo_calls.proofs.descs.Descs.release_level.Given as goal

abbrev pub invariant-loop-descriptor : goal.invariant-loop-descriptor
invariant-loop-descriptor l = l.descriptor-items ≡ fronted (entry_released l.level) l.descriptor-index l.fn.self.entries.items
