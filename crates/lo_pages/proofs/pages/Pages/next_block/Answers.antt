use Rattle.std.proofs.Common.{◌≡◌, ◌⊎◌, inl, inr, ℕ, ◌≤◌, ◌<◌, ◌+◌, sym, subst, ap, ◌∙◌, arith}
use Rattle.std.specs.List.{list_any}
use Rattle.std.proofs.lemmas.Bool.{cases_lt}
use Rattle.lo_pages.specs.Outcome.{is_byte}
use Rattle.lo_pages.proofs.Blocks.{NoneTo, block_none, block_least, block_step, block_last}
use Rattle.lo_pages.proofs.pages.Pages.next_block.Goals as goal

stops : (n : ℕ) → (n + 1 < 4294967296 → ⊥) → 4294967295 < n + 1
stops n full = by_place (cases_lt (n + 1) 4294967296)
  where
    by_place : (n + 1 < 4294967296) ⊎ (4294967296 ≤ n + 1) → 4294967295 < n + 1
    by_place (inl less) = absurd (full less)
    by_place (inr more) = omega (arith, more)

pub returns-in_default : goal.returns-in_default
returns-in_default c = block_none c.args.core.now.xacts c.args.snap.now c.args.self.now c.args.oid c.args.from c.loop-number.from c.loop-number.invariant.1 c.in_default.ensures.least

pub returns-then-any_byte : goal.returns-then-any_byte
returns-then-any_byte c = block_least c.args.core.now.xacts c.args.snap.now c.args.self.now c.args.oid c.args.from c.loop-number.from c.in-Some.number c.loop-number.invariant.0 c.loop-number.invariant.1 c.in-Some.ensures.least (sym (ap (list_any is_byte) c.page.ensures) ∙ (sym c.any_byte.ensures ∙ c.if-any_byte.true))

pub returns-in_default-checked_add : goal.returns-in_default-checked_add
returns-in_default-checked_add c = block_last c.args.core.now.xacts c.args.snap.now c.args.self.now c.args.oid c.args.from (c.in-Some.number + 1) (stops c.in-Some.number c.in_default-checked_add.ensures) (block_step c.args.core.now.xacts c.args.snap.now c.args.self.now c.args.oid c.args.from c.loop-number.from c.in-Some.number c.loop-number.invariant.1 c.in-Some.ensures.least (sym (ap (list_any is_byte) c.page.ensures) ∙ (sym c.any_byte.ensures ∙ c.if-any_byte.false)))

pub loop-number-preserved : goal.loop-number-preserved
loop-number-preserved c = let low : c.loop-number.from ≤ c.in-Some.number = c.in-Some.ensures.least.low in let next : c.in-Some-checked_add.next ≡ c.in-Some.number + 1 = c.in-Some-checked_add.ensures.1 in (omega (arith, c.loop-number.invariant.0, low, next), subst (λ (n : ℕ). NoneTo c.args.core.now.xacts c.args.snap.now c.args.self.now c.args.oid c.args.from n) (sym next) (block_step c.args.core.now.xacts c.args.snap.now c.args.self.now c.args.oid c.args.from c.loop-number.from c.in-Some.number c.loop-number.invariant.1 c.in-Some.ensures.least (sym (ap (list_any is_byte) c.page.ensures) ∙ (sym c.any_byte.ensures ∙ c.if-any_byte.false))))
