use Rattle.std.proofs.Common.{◌≡◌, ◌⊎◌, inl, inr, ℕ, ◌≤◌, ◌<◌, ◌+◌, sym, subst, arith}
use Rattle.std.proofs.lemmas.Bool.{cases_lt}
use Rattle.lo_pages.specs.Outcome.{NoneFrom, LeastFrom}
use Rattle.lo_pages.specs.Standing.{has_page}
use Rattle.lo_pages.specs.Steps.{Erasing}
use Rattle.lo_pages.proofs.Looping.{erasing_start, erasing_step, erasing_end, erasing_last, erasing_free}
use Rattle.lo_pages.proofs.Steps.{left_more}
use Rattle.lo_pages.proofs.pages.Pages.erase_from.Goals as goal

stops : (n : ℕ) → (n + 1 < 4294967296 → ⊥) → 4294967295 < n + 1
stops n full = by_place (cases_lt (n + 1) 4294967296)
  where
    by_place : (n + 1 < 4294967296) ⊎ (4294967296 ≤ n + 1) → 4294967295 < n + 1
    by_place (inl less) = absurd (full less)
    by_place (inr more) = omega (arith, more)

pub loop-number-init : goal.loop-number-init
loop-number-init c = (omega arith, erasing_start c.args.core.now.xacts c.args.s c.args.oid c.args.first c.args.self.now c.requires.goes)

pub returns-in_default-clause-ok : goal.returns-in_default-clause-ok
returns-in_default-clause-ok c = erasing_end c.args.core.now.xacts c.args.s c.args.oid c.args.first c.loop-number.from c.args.self.now c.loop-number.self c.loop-number.invariant.1 (subst (λ v. NoneFrom (has_page c.args.core.now.xacts v c.loop-number.self c.args.oid) c.loop-number.from) c.snapshot-snap.ensures.view c.in_default.ensures.least)

pub returns-in_default-clause-left : goal.returns-in_default-clause-left
returns-in_default-clause-left c = c.loop-number.invariant.1.left

pub returns-in_default-clause-goes : goal.returns-in_default-clause-goes
returns-in_default-clause-goes c = c.loop-number.invariant.1.goes

pub erase_page-requires-clause-goes : goal.erase_page-requires-clause-goes
erase_page-requires-clause-goes c = c.loop-number.invariant.1.goes

pub erase_page-requires-clause-free : goal.erase_page-requires-clause-free
erase_page-requires-clause-free c = let low : c.loop-number.from ≤ c.in-Some.number = c.in-Some.ensures.least.low in erasing_free c.args.core.now.xacts c.args.s c.args.oid c.args.first c.loop-number.from c.in-Some.number c.args.self.now c.loop-number.self c.requires.free c.loop-number.invariant.0 low c.in-Some.ensures.small c.loop-number.invariant.1

pub returns-in_err-erase_page-clause-left : goal.returns-in_err-erase_page-clause-left
returns-in_err-erase_page-clause-left c = left_more c.args.core.now.xacts c.args.s c.args.self.now c.loop-number.self c.erase_page.new.self c.loop-number.invariant.1.left c.erase_page.ensures.left

pub returns-in_default-checked_add-clause-ok : goal.returns-in_default-checked_add-clause-ok
returns-in_default-checked_add-clause-ok c = erasing_last c.args.core.now.xacts c.args.s c.args.oid c.args.first (c.in-Some.number + 1) c.args.self.now c.erase_page.new.self (stops c.in-Some.number c.in_default-checked_add.ensures) (erasing_step c.args.core.now.xacts c.args.s c.args.oid c.args.first c.loop-number.from c.in-Some.number c.args.self.now c.loop-number.self c.erase_page.new.self c.loop-number.invariant.0 c.loop-number.invariant.1 (subst (λ v. LeastFrom (has_page c.args.core.now.xacts v c.loop-number.self c.args.oid) c.loop-number.from c.in-Some.number) c.snapshot-snap.ensures.view c.in-Some.ensures.least) c.in_ok-erase_page.ensures.ok c.erase_page.ensures.left c.erase_page.ensures.goes)

pub returns-in_default-checked_add-clause-left : goal.returns-in_default-checked_add-clause-left
returns-in_default-checked_add-clause-left c = left_more c.args.core.now.xacts c.args.s c.args.self.now c.loop-number.self c.erase_page.new.self c.loop-number.invariant.1.left c.erase_page.ensures.left

pub loop-number-smaller : goal.loop-number-smaller
loop-number-smaller c = let low : c.loop-number.from ≤ c.in-Some.number = c.in-Some.ensures.least.low in omega (arith, low, c.in-Some.ensures.small, c.in-Some-checked_add.ensures)

pub loop-number-preserved : goal.loop-number-preserved
loop-number-preserved c = let low : c.loop-number.from ≤ c.in-Some.number = c.in-Some.ensures.least.low in let next : c.in-Some-checked_add.next ≡ c.in-Some.number + 1 = c.in-Some-checked_add.ensures.1 in (omega (arith, c.loop-number.invariant.0, low, next), subst (λ (n : ℕ). Erasing c.args.core.now.xacts c.args.s c.args.oid c.args.first n c.args.self.now c.erase_page.new.self) (sym next) (erasing_step c.args.core.now.xacts c.args.s c.args.oid c.args.first c.loop-number.from c.in-Some.number c.args.self.now c.loop-number.self c.erase_page.new.self c.loop-number.invariant.0 c.loop-number.invariant.1 (subst (λ v. LeastFrom (has_page c.args.core.now.xacts v c.loop-number.self c.args.oid) c.loop-number.from c.in-Some.number) c.snapshot-snap.ensures.view c.in-Some.ensures.least) c.in_ok-erase_page.ensures.ok c.erase_page.ensures.left c.erase_page.ensures.goes))
