use Rattle.std.proofs.Common.{◌≡◌, false, Some, None, position, ap, sym, ◌∙◌}
use Rattle.lo_outside.specs.FaultPlan.{is_due}
use Rattle.lo_outside.specs.Place.{has_name}
use Rattle.lo_outside.proofs.SettingBytes.{first_of, at_position, no_position}
use Rattle.lo_outside.proofs.Writing.{roomy_set, marked, granted}
use Rattle.lo_outside.proofs.mem_files.MemFilesFiles.sync.Goals as goal

pub returns-in_default-clause-failed : goal.returns-in_default-clause-failed
returns-in_default-clause-failed c =
    let none : None ≡ position (has_name c.args.name.now) c.self.inside.files.items = rw (← c.as_bytes.ensures.value, ← c.deref.ensures.value) c.in_default.ensures in
    rw (← c.self.view_is, no_position _ _ none) c.answer.ensures.failed

pub invariant_of-self-2 : goal.invariant_of-self-2
invariant_of-self-2 c =
    let at : Some c.in-Some.i ≡ position (has_name c.args.name.now) c.self.inside.files.items = rw (← c.as_bytes.ensures.value, ← c.deref.ensures.value) c.in-Some.ensures in
    roomy_set c.self.inside.room c.self.inside.files c.self.inside.free c.in-Some.i c.index_mut.result.now c.sync.new.self c.self.invariant (first_of c.args.name.now c.self.inside.files.items c.in-Some.i at).1 c.index_mut.ensures.value (ap (λ p. p.named.name) c.sync.ensures) (ap (λ p. p.room) c.sync.ensures)

pub returns-clause-failed : goal.returns-clause-failed
returns-clause-failed c =
    let at : Some c.in-Some.i ≡ position (has_name c.args.name.now) c.self.inside.files.items = rw (← c.as_bytes.ensures.value, ← c.deref.ensures.value) c.in-Some.ensures in
    rw (← c.self.view_is, at_position _ _ c.index_mut.result.now _ at) c.in_ok-answer.ensures.failed

pub returns-clause-synced : goal.returns-clause-synced
returns-clause-synced c =
    let at : Some c.in-Some.i ≡ position (has_name c.args.name.now) c.self.inside.files.items = rw (← c.as_bytes.ensures.value, ← c.deref.ensures.value) c.in-Some.ensures in
    rw (← c.self.view_is) (marked c.self.inside.files.items _ _ c.self.inside.plan _ c.in-Some.i c.index_mut.result.now c.sync.new.self c.args.name.now at c.index_mut.ensures.value c.in_ok-answer.ensures.counted (granted (is_due c.self.inside.plan) false c.in_ok-answer.ensures.failed.1) c.sync.ensures)
