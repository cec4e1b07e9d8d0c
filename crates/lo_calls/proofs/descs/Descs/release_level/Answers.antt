use Rattle.std.proofs.Common.{◌<◌, ◌∙◌, ap, refl, map, length, arith}
use Rattle.lo_calls.specs.Descriptors.{described_by, holds_in}
use Rattle.std.specs.Vec.{with_items}
use Rattle.lo_calls.proofs.Entries.{entry_released, released_described, same_holds, stay_open}
use Rattle.lo_calls.proofs.Mapping.{all_fronted, fronted_more}
use Rattle.lo_calls.proofs.descs.Descs.release_level.Goals as goal

pub loop-descriptor-preserved : goal.loop-descriptor-preserved
loop-descriptor-preserved c =
    let within : c.loop-descriptor.descriptor-index < length c.loop-descriptor.descriptor-items = omega arith in
    fronted_more (entry_released c.args.level) c.loop-descriptor.descriptor-index c.args.self.now.entries.items c.loop-descriptor.descriptor-items _ c.descriptor-item.result _ c.loop-descriptor.invariant within (rw c.min-descriptor.ensures) refl

pub returns-clause-descriptors : goal.returns-clause-descriptors
returns-clause-descriptors c =
    let all = all_fronted (entry_released c.args.level) c.loop-descriptor.descriptor-index c.args.self.now.entries c.loop-descriptor.descriptor-items (omega arith) (omega arith) c.loop-descriptor.invariant in
    ap (map described_by) all ∙ released_described c.args.level c.args.self.now.entries.items

pub returns-clause-holds : goal.returns-clause-holds
returns-clause-holds c =
    let all = all_fronted (entry_released c.args.level) c.loop-descriptor.descriptor-index c.args.self.now.entries c.loop-descriptor.descriptor-items (omega arith) (omega arith) c.loop-descriptor.invariant in
    ap holds_in all ∙ same_holds (entry_released c.args.level) (λ d. refl) c.args.self.now.entries.items

pub returns-clause-open : goal.returns-clause-open
returns-clause-open c s before =
    let all = all_fronted (entry_released c.args.level) c.loop-descriptor.descriptor-index c.args.self.now.entries c.loop-descriptor.descriptor-items (omega arith) (omega arith) c.loop-descriptor.invariant in
    stay_open c.args.xacts.now s (entry_released c.args.level) c.args.self.now (record { alloc = c.args.self.now.alloc; entries = with_items c.args.self.now.entries c.loop-descriptor.descriptor-items }) (λ d. refl) (λ d old. old) all before
