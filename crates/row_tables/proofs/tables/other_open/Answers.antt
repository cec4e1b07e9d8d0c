use Rattle.std.proofs.Common.{rules, ◌≡◌, ◌<◌, ◌≤◌, ◌∙◌, ℕ, true, false, length, refl, sym, ap, subst, arith, Some}
use Rattle.std.specs.Prelude.{not, ◌==◌}
use Rattle.xact_core.specs.Transactions.{levels_of}
use Rattle.row_tables.proofs.OthersOpen.{both_hold, first_fails, no_levels, one_fails, open_here, open_next, open_past, some_levels}
use Rattle.row_tables.proofs.tables.other_open.Goals.{else-ne-via-then-ne+else-levels-gt0, else-ne-via-else-ne}
use Rattle.row_tables.proofs.tables.other_open.Goals as goal

pub loop-number-init : goal.loop-number-init
loop-number-init c = refl

pub loop-number-preserved-in_default : goal.loop-number-preserved-in_default
loop-number-preserved-in_default c = search rules

pub returns-then-levels-gt0 : goal.returns-then-levels-gt0
returns-then-levels-gt0 c =
    let x = c.args.core.now.xacts in
    let n = c.loop-number.number in
    let same : c.in-Some.other ≡ n = c.in-Some.ensures.number in
    let some : 0 < length (levels_of x n) = subst (λ (t : ℕ). 0 < length (levels_of x t)) same (subst (λ (k : ℕ). 0 < k) c.levels.ensures.count c.if-levels-gt0.true) in
    let other : not (n == c.args.s) ≡ true = subst (λ (t : ℕ). not (t == c.args.s) ≡ true) same (sym c.ne.ensures ∙ c.if-ne.true) in
    ap Some same ∙ (sym (open_here x c.args.s n c.loop-number-test.true (both_hold _ _ other (some_levels (levels_of x n) some))) ∙ c.loop-number.invariant)

pub loop-number-preserved : goal.loop-number-preserved
loop-number-preserved c =
    let x = c.args.core.now.xacts in
    let n = c.loop-number.number in
    let same : c.in-Some.other ≡ n = c.in-Some.ensures.number in
    let few = c.loop-number-test.true in
    elim c.else-ne.branch [
      | else-ne-via-then-ne+else-levels-gt0 w ↦
          (let none : length (levels_of x n) ≤ 0 = subst (λ (t : ℕ). length (levels_of x t) ≤ 0) same (omega (arith, w.if-levels-gt0.false, w.levels.ensures.count)) in
          open_next x c.args.s n few (one_fails (not (n == c.args.s)) _ (no_levels (levels_of x n) none)) ∙ c.loop-number.invariant)
      | else-ne-via-else-ne w ↦
          (let own : not (n == c.args.s) ≡ false = subst (λ (t : ℕ). not (t == c.args.s) ≡ false) same (sym c.ne.ensures ∙ w.if-ne.false) in
          open_next x c.args.s n few (first_fails _ _ own) ∙ c.loop-number.invariant)
    ]

pub returns : goal.returns
returns c =
    let past : 16 < c.loop-number.number = search rules in
    sym (open_past c.args.core.now.xacts c.args.s c.loop-number.number past) ∙ c.loop-number.invariant
