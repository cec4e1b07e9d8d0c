use Rattle.std.proofs.Common.{◌≡◌, ◌≤◌, ℕ, List, ap, ◌∙◌, length, take, drop, arith}
use Rattle.std.proofs.lemmas.List.{drop_min, take_min}
use Rattle.lo_tool.proofs.CleanUpTold.{group_told}
use Rattle.lo_tool.proofs.cleaning_text.say_groups.Goals.{then-limit-eq0, else-limit-eq0}
use Rattle.lo_tool.proofs.cleaning_text.say_groups.Goals as goal

pub loop-left-preserved : goal.loop-left-preserved
loop-left-preserved c =
    let most : ℕ = c.if-limit-eq0.most in
    let left : List ℕ = c.loop-left.left.now in
    let some : 1 ≤ most = elim c.if-limit-eq0.branch [
      | then-limit-eq0 w ↦ omega (arith, w.most-is, c.loop-left-test.true, c.loop-left.invariant.1)
      | else-limit-eq0 w ↦ omega (arith, w.most-is, w.if-limit-eq0.false)
    ] in
    let group : c.split_at.result.0.now ≡ take most left = c.split_at.ensures.front ∙ (ap (λ (n : ℕ). take n left) c.min.ensures ∙ take_min most left) in
    let after : c.split_at.result.1.now ≡ drop most left = c.split_at.ensures.back ∙ (ap (λ (n : ℕ). drop n left) c.min.ensures ∙ drop_min most left) in (
      group_told most left c.split_at.result.0.now c.split_at.result.1.now c.loop-left.text c.say_each.new.text c.say_count.new.text some c.loop-left-test.true group after c.in_ok-say_each.ensures c.in_ok-say_count.ensures ∙ c.loop-left.invariant.0,
      omega (arith, c.split_at.ensures.back_len, c.loop-left.invariant.1),
    )
