use Rattle.std.proofs.Common.{◌≡◌, ◌-◌, length, map}
use Rattle.lo_model.specs.Descriptor.{free_number_from, free_number}
use Rattle.lo_calls.specs.Descriptors.{described_by}
use Rattle.lo_calls.proofs.descs.Descs.free_number.Given as goal

abbrev pub invariant-loop-number : goal.invariant-loop-number
invariant-loop-number l = free_number_from (length l.self.entries.items - l.number) l.number (map described_by l.self.entries.items) ≡ free_number (map described_by l.self.entries.items)
