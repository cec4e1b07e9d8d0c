use Rattle.std.proofs.Common.{◌<◌, ◌+◌, subst, length, arith, drop}
use Rattle.expanded_array.specs.Array.{elements_of}
use Rattle.expanded_array.specs.Kept.{kept_array}
use Rattle.expanded_array.specs.Text.{IsAhead, joined, left_text, next_text}
use Rattle.expanded_array.proofs.Fronts.{ahead_fail, ahead_more, left_more}
use Rattle.expanded_array.proofs.array_var.Kept.push_elements.Goals as goal

pub returns-in_default-clause-err : goal.returns-in_default-clause-err
returns-in_default-clause-err c =
    let len : c.loop-index.index < length (elements_of (kept_array c.args.self.now)) = omega (arith, c.bounds-count.ensures.count, c.loop-index-test.true) in
    let step = left_more (elements_of (kept_array c.args.self.now)) c.loop-index.index c.next-element.result.0 len c.next-element.ensures.element in
    ahead_fail c.args.out.now c.loop-index.out c.push_next.new.out (next_text c.loop-index.index c.next-element.result.0) (left_text (c.loop-index.index + 1) (drop (c.loop-index.index + 1) (elements_of (kept_array c.args.self.now)))) (joined (elements_of (kept_array c.args.self.now)))
    (subst (λ t. IsAhead c.args.out.now c.loop-index.out t (joined (elements_of (kept_array c.args.self.now)))) step c.loop-index.invariant.1)
    c.in_default.ensures.err

pub loop-index-preserved : goal.loop-index-preserved
loop-index-preserved c =
    let len : c.loop-index.index < length (elements_of (kept_array c.args.self.now)) = omega (arith, c.bounds-count.ensures.count, c.loop-index-test.true) in
    let step = left_more (elements_of (kept_array c.args.self.now)) c.loop-index.index c.next-element.result.0 len c.next-element.ensures.element in (
      c.next-element.ensures.place,
      ahead_more c.args.out.now c.loop-index.out c.push_next.new.out (next_text c.loop-index.index c.next-element.result.0) (left_text (c.loop-index.index + 1) (drop (c.loop-index.index + 1) (elements_of (kept_array c.args.self.now)))) (joined (elements_of (kept_array c.args.self.now)))
          (subst (λ t. IsAhead c.args.out.now c.loop-index.out t (joined (elements_of (kept_array c.args.self.now)))) step c.loop-index.invariant.1)
          c.in-Ok.ensures.ok,
    )
