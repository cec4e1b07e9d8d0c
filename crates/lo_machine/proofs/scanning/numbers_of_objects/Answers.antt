use Rattle.std.proofs.Common.{◌≡◌, ℕ, ◌+◌, sym, subst}
use Rattle.lo_restore.proofs.ObjectSaves.{top}
use Rattle.lo_machine.proofs.ScannedObjects.{Listing, listing_begins, listing_ends, listing_last, listing_next}
use Rattle.lo_machine.proofs.scanning.numbers_of_objects.Goals as goal

pub loop-oid-init : goal.loop-oid-init
loop-oid-init c = subst (Listing c.args.core.now.xacts c.args.snap.now c.args.pages.now 0) (sym c.new-list.ensures) (listing_begins c.args.core.now.xacts c.args.snap.now c.args.pages.now)

pub returns-in_default : goal.returns-in_default
returns-in_default c = listing_ends c.args.core.now.xacts c.args.snap.now c.args.pages.now c.loop-oid.from c.loop-oid.list c.loop-oid.invariant c.in_default.ensures

pub returns-in_default-checked_add : goal.returns-in_default-checked_add
returns-in_default-checked_add c =
    let x = c.args.core.now.xacts in
    let v = c.args.snap.now in
    let ps = c.args.pages.now in
    let next = listing_next x v ps c.loop-oid.from c.in-Some.oid c.loop-oid.list c.loop-oid.invariant c.in-Some.ensures in
    listing_last x v ps (c.in-Some.oid + 1) c.push.new.self (top c.in-Some.oid c.in_default-checked_add.ensures) (subst (Listing x v ps (c.in-Some.oid + 1)) (sym c.in_ok-push.ensures.ok) next)

pub loop-oid-preserved : goal.loop-oid-preserved
loop-oid-preserved c =
    let x = c.args.core.now.xacts in
    let v = c.args.snap.now in
    let ps = c.args.pages.now in
    let more : c.in-Some-checked_add.next ≡ c.in-Some.oid + 1 = c.in-Some-checked_add.ensures.1 in
    let next = listing_next x v ps c.loop-oid.from c.in-Some.oid c.loop-oid.list c.loop-oid.invariant c.in-Some.ensures in
    subst (λ (n : ℕ). Listing x v ps n c.push.new.self) (sym more) (subst (Listing x v ps (c.in-Some.oid + 1)) (sym c.in_ok-push.ensures.ok) next)
