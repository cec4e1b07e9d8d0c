use Rattle.std.proofs.Common.{◌≡◌, ℕ, ◌+◌, sym, subst}
use Rattle.lo_restore.proofs.ObjectSaves.{Collecting, collecting_step, collecting_end, collecting_last, top}
use Rattle.lo_restore.proofs.objects_saved.saved_blocks.Goals as goal

pub returns-in_default : goal.returns-in_default
returns-in_default c = collecting_end c.args.core.now.xacts c.args.snap.now c.args.pages.now c.args.oid c.loop-number.from c.loop-number.blocks c.loop-number.invariant c.in_default.ensures

pub returns-in_default-checked_add : goal.returns-in_default-checked_add
returns-in_default-checked_add c =
    let x = c.args.core.now.xacts in
    let v = c.args.snap.now in
    let ps = c.args.pages.now in
    let step = collecting_step x v ps c.args.oid c.loop-number.from c.in-Some.number c.loop-number.blocks c.in_ok-saved_block.field-0 c.loop-number.invariant c.in-Some.ensures c.in_ok-saved_block.ensures in
    collecting_last x v ps c.args.oid (c.in-Some.number + 1) c.push.new.self (top c.in-Some.number c.in_default-checked_add.ensures) (subst (Collecting x v ps c.args.oid (c.in-Some.number + 1)) (sym c.in_ok-push.ensures.ok) step)

pub loop-number-preserved : goal.loop-number-preserved
loop-number-preserved c =
    let x = c.args.core.now.xacts in
    let v = c.args.snap.now in
    let ps = c.args.pages.now in
    let next : c.in-Some-checked_add.next ≡ c.in-Some.number + 1 = c.in-Some-checked_add.ensures.1 in
    let step = collecting_step x v ps c.args.oid c.loop-number.from c.in-Some.number c.loop-number.blocks c.in_ok-saved_block.field-0 c.loop-number.invariant c.in-Some.ensures c.in_ok-saved_block.ensures in
    subst (λ (n : ℕ). Collecting x v ps c.args.oid n c.push.new.self) (sym next) (subst (Collecting x v ps c.args.oid (c.in-Some.number + 1)) (sym c.in_ok-push.ensures.ok) step)
