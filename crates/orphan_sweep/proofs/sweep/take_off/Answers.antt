use Rattle.std.proofs.Common.{◌≡◌, arith, rules, ap, sym, ◌∙◌, subst, List, ℕ}
use Rattle.std.proofs.lemmas.List.Sorted.{IsNonDecreasingBy-from_sort}
use Rattle.std.specs.List.Sorted.{IsPermutation}
use Rattle.orphan_sweep.specs.Place.{begins_with, not_below}
use Rattle.orphan_sweep.proofs.Merge.{InOrder, in_order_from, walks-begin, walks-found, walks-kept, walks-end}
use Rattle.orphan_sweep.proofs.sweep.take_off.Goals as goal
use Rattle.orphan_sweep.proofs.sweep.take_off.Goals.{then-not-begins_with, else-not-begins_with}

pub loop-at-init : goal.loop-at-init
loop-at-init c =
    let order = in_order_from c.sort_unstable.new.self.items (IsNonDecreasingBy-from_sort (λ x. x) c.sort_unstable.new.self.items c.sort_unstable.ensures.sorted) in
    walks-begin c.args.list.now.items c.as_slice-coming.result.now (subst InOrder (sym c.as_slice-coming.ensures.value) order)

pub loop-at-preserved : goal.loop-at-preserved
loop-at-preserved c =
    let number : ℕ = c.index-number.result.now in
    let first : begins_with number (not_below number c.loop-at.coming.now) ≡ c.begins_with.result = ap (begins_with number) (sym c.not_below-coming.ensures) ∙ sym c.begins_with.ensures in
    rw c.not_below-coming.ensures
    (elim c.if-not-begins_with.branch [
      | then-not-begins_with b ↦ rw (b.list-is, b.kept-is) (walks-kept _ _ _ _ _ _ _ c.requires c.loop-at.invariant (search rules) c.index-number.ensures (first ∙ b.if-not-begins_with.true))
      | else-not-begins_with b ↦ rw (b.list-is, b.kept-is) (walks-found _ _ _ _ _ _ _ c.requires c.loop-at.invariant (search rules) c.index-number.ensures (first ∙ b.if-not-begins_with.false))
    ])

pub returns : goal.returns
returns c =
    let same = subst (λ (xs : List ℕ). IsPermutation c.args.found.items xs) (sym c.as_slice-coming.ensures.value) c.sort_unstable.ensures.permutation in
    c.truncate.ensures.items ∙ walks-end c.args.list.now.items c.loop-at.list.items c.loop-at.at c.loop-at.kept c.loop-at.coming.now c.as_slice-coming.result.now c.args.found.items c.loop-at.invariant (omega arith) same
