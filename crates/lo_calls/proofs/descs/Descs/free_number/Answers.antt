use Rattle.std.proofs.Common.{◌<◌, ◌∙◌, sym, length, map, arith}
use Rattle.lo_calls.specs.Descriptors.{described_by}
use Rattle.lo_calls.proofs.Entries.{free_more, free_here, taken_described}
use Rattle.lo_calls.proofs.descs.Descs.free_number.Goals as goal

pub loop-number-preserved : goal.loop-number-preserved
loop-number-preserved c =
    let below : c.loop-number.number < length c.args.self.now.entries.items = omega arith in
    sym (free_more (length c.args.self.now.entries.items) c.loop-number.number (map described_by c.args.self.now.entries.items) below (sym (c.if-not-is_taken.ensures ∙ taken_described c.loop-number.number c.args.self.now.entries.items))) ∙ c.loop-number.invariant

pub returns-then-not-is_taken : goal.returns-then-not-is_taken
returns-then-not-is_taken c =
    let below : c.loop-number.number < length c.args.self.now.entries.items = omega arith in
    sym (free_here (length c.args.self.now.entries.items) c.loop-number.number (map described_by c.args.self.now.entries.items) below (sym (c.if-not-is_taken.ensures ∙ taken_described c.loop-number.number c.args.self.now.entries.items))) ∙ c.loop-number.invariant
