use Rattle.std.proofs.Common.{◌≡◌, drop, map}
use Rattle.lo_calls.specs.Descriptors.{described_at, described_by}
use Rattle.lo_calls.proofs.descs.Descs.find.Given as goal

abbrev pub invariant-loop-index : goal.invariant-loop-index
invariant-loop-index l = described_at l.fd (map described_by (drop l.index l.self.entries.items)) ≡ described_at l.fd (map described_by l.self.entries.items)
