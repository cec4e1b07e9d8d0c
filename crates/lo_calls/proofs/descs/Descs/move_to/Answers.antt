use Rattle.std.proofs.Common.{◌<◌, ◌∙◌, ap, map, length, arith}
use Rattle.lo_calls.specs.Descriptors.{described_by, holds_in, last_position}
use Rattle.std.specs.Vec.{with_items}
use Rattle.lo_calls.proofs.Entries.{entry_moved, moved_one, moved_other, moved_described, moved_hold, moved_position, same_holds, stay_open}
use Rattle.lo_calls.proofs.Mapping.{all_fronted, fronted_more}
use Rattle.lo_calls.proofs.descs.Descs.move_to.Goals as goal
use Rattle.lo_calls.proofs.descs.Descs.move_to.Goals.{then-descriptor-number, else-descriptor-number}

pub loop-descriptor-preserved : goal.loop-descriptor-preserved
loop-descriptor-preserved c =
    let within : c.loop-descriptor.descriptor-index < length c.loop-descriptor.descriptor-items = omega arith in
    elim c.if-descriptor-number.branch [
      | then-descriptor-number w ↦ fronted_more (entry_moved c.args.number c.args.position) c.loop-descriptor.descriptor-index c.args.self.now.entries.items c.loop-descriptor.descriptor-items _ c.descriptor-item.result _ c.loop-descriptor.invariant within (moved_one c.args.number c.args.position _ w.if-descriptor-number.true) w.descriptor-items-is
      | else-descriptor-number w ↦ fronted_more (entry_moved c.args.number c.args.position) c.loop-descriptor.descriptor-index c.args.self.now.entries.items c.loop-descriptor.descriptor-items _ c.descriptor-item.result _ c.loop-descriptor.invariant within (moved_other c.args.number c.args.position _ w.if-descriptor-number.false) w.descriptor-items-is
    ]

pub returns-clause-moved : goal.returns-clause-moved
returns-clause-moved c =
    let all = all_fronted (entry_moved c.args.number c.args.position) c.loop-descriptor.descriptor-index c.args.self.now.entries c.loop-descriptor.descriptor-items (omega arith) (omega arith) c.loop-descriptor.invariant in
    ap (map described_by) all ∙ moved_described c.args.number c.args.position c.args.self.now.entries.items

pub returns-clause-holds : goal.returns-clause-holds
returns-clause-holds c =
    let all = all_fronted (entry_moved c.args.number c.args.position) c.loop-descriptor.descriptor-index c.args.self.now.entries c.loop-descriptor.descriptor-items (omega arith) (omega arith) c.loop-descriptor.invariant in
    ap holds_in all ∙ same_holds (entry_moved c.args.number c.args.position) (moved_hold c.args.number c.args.position) c.args.self.now.entries.items

pub returns-clause-open : goal.returns-clause-open
returns-clause-open c x s low before =
    let all = all_fronted (entry_moved c.args.number c.args.position) c.loop-descriptor.descriptor-index c.args.self.now.entries c.loop-descriptor.descriptor-items (omega arith) (omega arith) c.loop-descriptor.invariant in
    stay_open x s (entry_moved c.args.number c.args.position) c.args.self.now (record { alloc = c.args.self.now.alloc; entries = with_items c.args.self.now.entries c.loop-descriptor.descriptor-items }) (moved_hold c.args.number c.args.position) (λ d old. moved_position c.args.number c.args.position last_position d low old) all before
