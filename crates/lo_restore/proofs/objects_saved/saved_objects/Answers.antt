use Rattle.std.proofs.Common.{◌≡◌, ℕ, ◌+◌, sym, subst}
use Rattle.lo_restore.proofs.ObjectSaves.{Gathering, few_blocks, gathering_start, gathering_step, gathering_end, gathering_last, top}
use Rattle.lo_restore.proofs.objects_saved.saved_objects.Goals as goal

pub loop-oid-init : goal.loop-oid-init
loop-oid-init c = subst (Gathering c.args.core.now.xacts c.args.snap.now c.args.pages.now c.args.held 0 c.args.held) (sym c.new-objects.ensures) (gathering_start c.args.core.now.xacts c.args.snap.now c.args.pages.now c.args.held c.requires.few)

pub returns-in_default : goal.returns-in_default
returns-in_default c = gathering_end c.args.core.now.xacts c.args.snap.now c.args.pages.now c.args.held c.loop-oid.from c.loop-oid.sum c.loop-oid.objects c.loop-oid.invariant c.in_default.ensures

pub held_with-requires-clause-stored : goal.held_with-requires-clause-stored
held_with-requires-clause-stored c = few_blocks c.args.core.now.xacts c.args.snap.now c.args.pages.now c.in-Some.oid c.in_ok-object.object c.requires.reads c.in_ok-object.ensures

pub returns-in_default-checked_add : goal.returns-in_default-checked_add
returns-in_default-checked_add c =
    let x = c.args.core.now.xacts in
    let v = c.args.snap.now in
    let ps = c.args.pages.now in
    let step = gathering_step x v ps c.args.held c.loop-oid.from c.loop-oid.sum c.in-Some.oid c.in_ok-sum.sum c.loop-oid.objects c.in_ok-object.object c.loop-oid.invariant c.in-Some.ensures c.in_ok-object.ensures c.in_ok-sum.ensures.sum c.in_ok-sum.ensures.few in
    gathering_last x v ps c.args.held (c.in-Some.oid + 1) c.in_ok-sum.sum c.push.new.self (top c.in-Some.oid c.in_default-checked_add.ensures) (subst (Gathering x v ps c.args.held (c.in-Some.oid + 1) c.in_ok-sum.sum) (sym c.in_ok-push.ensures.ok) step)

pub loop-oid-preserved : goal.loop-oid-preserved
loop-oid-preserved c =
    let x = c.args.core.now.xacts in
    let v = c.args.snap.now in
    let ps = c.args.pages.now in
    let next : c.in-Some-checked_add.next ≡ c.in-Some.oid + 1 = c.in-Some-checked_add.ensures.1 in
    let step = gathering_step x v ps c.args.held c.loop-oid.from c.loop-oid.sum c.in-Some.oid c.in_ok-sum.sum c.loop-oid.objects c.in_ok-object.object c.loop-oid.invariant c.in-Some.ensures c.in_ok-object.ensures c.in_ok-sum.ensures.sum c.in_ok-sum.ensures.few in
    subst (λ (n : ℕ). Gathering x v ps c.args.held n c.in_ok-sum.sum c.push.new.self) (sym next) (subst (Gathering x v ps c.args.held (c.in-Some.oid + 1) c.in_ok-sum.sum) (sym c.in_ok-push.ensures.ok) step)
