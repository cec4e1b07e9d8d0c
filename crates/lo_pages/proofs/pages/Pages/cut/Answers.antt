use Rattle.std.proofs.Common.{◌≡◌, ℕ, ◌+◌, ◌-◌, ◌*◌, ◌/◌, ◌%◌, sym, subst, ◌∙◌, arith}
use Rattle.lo_base.specs.declared.refusal.Denied.{Denied}
use Rattle.row_versions.specs.declared.base.Core.{Core}
use Rattle.lo_pages.specs.Outcome.{cut_refused, Denies, LeavesOwn}
use Rattle.lo_pages.specs.Standing.{GoWith}
use Rattle.lo_pages.specs.Steps.{PutsPage, PutsCut, ErasesFrom, found_now, page_sized}
use Rattle.lo_pages.proofs.Adding.{is_large, is_small, cut_missing, cut_large, cut_busy, cut_done, denied_nothing}
use Rattle.lo_pages.proofs.Steps.{left_none, left_more}
use Rattle.lo_pages.proofs.pages.Pages.cut.Goals as goal

pub returns-then-not-is_there-clause-err : goal.returns-then-not-is_there-clause-err
returns-then-not-is_there-clause-err c = subst (λ (d : Denied). Denies c.args.core.now.xacts c.args.s (cut_refused c.args.core.now.xacts c.args.s c.args.oid c.args.to) c.args.self.now c.args.self.now d) (sym c.refused.ensures) (cut_missing c.args.core.now.xacts c.args.s c.args.oid c.args.self.now c.is_there.ensures.session c.requires.open c.args.to (sym c.is_there.ensures.found ∙ c.if-not-is_there.true))

pub returns-then-to-gt-LARGEST_SIZE-clause-err : goal.returns-then-to-gt-LARGEST_SIZE-clause-err
returns-then-to-gt-LARGEST_SIZE-clause-err c = subst (λ (d : Denied). Denies c.args.core.now.xacts c.args.s (cut_refused c.args.core.now.xacts c.args.s c.args.oid c.args.to) c.args.self.now c.args.self.now d) (sym c.refused-then-to-gt-LARGEST_SIZE.ensures) (cut_large c.args.core.now.xacts c.args.s c.args.oid c.args.self.now c.is_there.ensures.session c.requires.open c.args.to (sym c.is_there.ensures.found ∙ c.if-not-is_there.false) (is_large 4398046509056 c.args.to (omega (arith, c.if-to-gt-LARGEST_SIZE.true))))

pub returns-in-Err-clause-err : goal.returns-in-Err-clause-err
returns-in-Err-clause-err c = cut_busy c.args.core.now.xacts c.args.s c.args.oid c.args.self.now c.is_there.ensures.session c.requires.open 4294967295 c.in-Err.held c.args.to (c.requires.goes.above c.args.oid) (omega (arith, c.if-to-gt-LARGEST_SIZE.false)) (sym c.is_there.ensures.found ∙ c.if-not-is_there.false) (is_small 4398046509056 c.args.to (omega (arith, c.if-to-gt-LARGEST_SIZE.false))) c.in-Err.ensures.err

-- what the page of the new end and the pages above leave, by the transactions of the call

pub returns-in_err-erase_from-clause-err : goal.returns-in_err-erase_from-clause-err
returns-in_err-erase_from-clause-err c =
    let erased : LeavesOwn c.args.core.now.xacts c.args.s c.cut_page.new.self c.erase_from.new.self = subst (λ (k : Core). LeavesOwn k.xacts c.args.s c.cut_page.new.self c.erase_from.new.self) c.cut_page.ensures.core c.erase_from.ensures.left in
    denied_nothing c.args.core.now.xacts c.args.s (cut_refused c.args.core.now.xacts c.args.s c.args.oid c.args.to) c.args.self.now c.erase_from.new.self c.from_residual-in_err-erase_from.result c.from_residual-in_err-erase_from.ensures.1 (left_more c.args.core.now.xacts c.args.s c.args.self.now c.cut_page.new.self c.erase_from.new.self c.cut_page.ensures.left erased)

pub returns-in_err-mark_cut-clause-err : goal.returns-in_err-mark_cut-clause-err
returns-in_err-mark_cut-clause-err c =
    let erased : LeavesOwn c.args.core.now.xacts c.args.s c.cut_page.new.self c.erase_from.new.self = subst (λ (k : Core). LeavesOwn k.xacts c.args.s c.cut_page.new.self c.erase_from.new.self) c.cut_page.ensures.core c.erase_from.ensures.left in
    let marked : LeavesOwn c.args.core.now.xacts c.args.s c.erase_from.new.self c.mark_cut.new.self = subst (λ (k : Core). LeavesOwn k.xacts c.args.s c.erase_from.new.self c.mark_cut.new.self) c.cut_page.ensures.core c.mark_cut.ensures.left in
    denied_nothing c.args.core.now.xacts c.args.s (cut_refused c.args.core.now.xacts c.args.s c.args.oid c.args.to) c.args.self.now c.mark_cut.new.self c.from_residual-in_err-mark_cut.result c.from_residual-in_err-mark_cut.ensures.1 (left_more c.args.core.now.xacts c.args.s c.args.self.now c.erase_from.new.self c.mark_cut.new.self (left_more c.args.core.now.xacts c.args.s c.args.self.now c.cut_page.new.self c.erase_from.new.self c.cut_page.ensures.left erased) marked)

pub returns-clause-ok : goal.returns-clause-ok
returns-clause-ok c =
    let going : GoWith c.args.core.now.xacts c.mark_cut.new.self = subst (λ (k : Core). GoWith k.xacts c.mark_cut.new.self) c.cut_page.ensures.core c.mark_cut.ensures.goes in
    let rest : c.args.to % 2048 ≡ c.args.to - 2048 * (c.args.to / 2048) = omega arith in
    let sized : PutsPage c.args.core.now.xacts c.args.s c.args.oid (c.args.to / 2048) (page_sized c.args.core.now.xacts (c.args.to - 2048 * (c.args.to / 2048)) (found_now c.args.core.now.xacts c.args.s c.args.self.now c.args.oid (c.args.to / 2048))) c.args.self.now c.cut_page.new.self = subst (λ (n : ℕ). PutsPage c.args.core.now.xacts c.args.s c.args.oid (c.args.to / 2048) (page_sized c.args.core.now.xacts n (found_now c.args.core.now.xacts c.args.s c.args.self.now c.args.oid (c.args.to / 2048))) c.args.self.now c.cut_page.new.self) rest c.in_ok-cut_page.ensures.ok in
    let erased : ErasesFrom c.args.core.now.xacts c.args.s c.args.oid (c.args.to / 2048 + 1) c.cut_page.new.self c.erase_from.new.self = subst (λ (k : Core). ErasesFrom k.xacts c.args.s c.args.oid (c.args.to / 2048 + 1) c.cut_page.new.self c.erase_from.new.self) c.cut_page.ensures.core c.in_ok-erase_from.ensures.ok in
    let marked : PutsCut c.args.core.now.xacts c.args.s c.args.oid (c.args.to / 2048) c.erase_from.new.self c.mark_cut.new.self = subst (λ (k : Core). PutsCut k.xacts c.args.s c.args.oid (c.args.to / 2048) c.erase_from.new.self c.mark_cut.new.self) c.cut_page.ensures.core c.in_ok-mark_cut.ensures.ok in
    cut_done c.args.core.now.xacts c.args.s c.args.oid c.args.self.now c.is_there.ensures.session c.requires.open 4294967295 c.cut_page.new.self c.erase_from.new.self c.mark_cut.new.self c.args.to c.requires.whole (c.requires.goes.above c.args.oid) going (omega (arith, c.if-to-gt-LARGEST_SIZE.false)) (sym c.is_there.ensures.found ∙ c.if-not-is_there.false) (is_small 4398046509056 c.args.to (omega (arith, c.if-to-gt-LARGEST_SIZE.false))) c.in_default.ensures.ok.holder sized erased marked

pub returns-then-not-is_there-clause-left : goal.returns-then-not-is_there-clause-left
returns-then-not-is_there-clause-left c = left_none c.args.core.now.xacts c.args.s c.args.self.now

pub returns-then-to-gt-LARGEST_SIZE-clause-left : goal.returns-then-to-gt-LARGEST_SIZE-clause-left
returns-then-to-gt-LARGEST_SIZE-clause-left c = left_none c.args.core.now.xacts c.args.s c.args.self.now

pub returns-in-Err-clause-left : goal.returns-in-Err-clause-left
returns-in-Err-clause-left c = left_none c.args.core.now.xacts c.args.s c.args.self.now

pub returns-in_err-erase_from-clause-left : goal.returns-in_err-erase_from-clause-left
returns-in_err-erase_from-clause-left c =
    let erased : LeavesOwn c.args.core.now.xacts c.args.s c.cut_page.new.self c.erase_from.new.self = subst (λ (k : Core). LeavesOwn k.xacts c.args.s c.cut_page.new.self c.erase_from.new.self) c.cut_page.ensures.core c.erase_from.ensures.left in
    left_more c.args.core.now.xacts c.args.s c.args.self.now c.cut_page.new.self c.erase_from.new.self c.cut_page.ensures.left erased

pub returns-in_err-mark_cut-clause-left : goal.returns-in_err-mark_cut-clause-left
returns-in_err-mark_cut-clause-left c =
    let erased : LeavesOwn c.args.core.now.xacts c.args.s c.cut_page.new.self c.erase_from.new.self = subst (λ (k : Core). LeavesOwn k.xacts c.args.s c.cut_page.new.self c.erase_from.new.self) c.cut_page.ensures.core c.erase_from.ensures.left in
    let marked : LeavesOwn c.args.core.now.xacts c.args.s c.erase_from.new.self c.mark_cut.new.self = subst (λ (k : Core). LeavesOwn k.xacts c.args.s c.erase_from.new.self c.mark_cut.new.self) c.cut_page.ensures.core c.mark_cut.ensures.left in
    left_more c.args.core.now.xacts c.args.s c.args.self.now c.erase_from.new.self c.mark_cut.new.self (left_more c.args.core.now.xacts c.args.s c.args.self.now c.cut_page.new.self c.erase_from.new.self c.cut_page.ensures.left erased) marked

pub returns-clause-left : goal.returns-clause-left
returns-clause-left c =
    let erased : LeavesOwn c.args.core.now.xacts c.args.s c.cut_page.new.self c.erase_from.new.self = subst (λ (k : Core). LeavesOwn k.xacts c.args.s c.cut_page.new.self c.erase_from.new.self) c.cut_page.ensures.core c.erase_from.ensures.left in
    let marked : LeavesOwn c.args.core.now.xacts c.args.s c.erase_from.new.self c.mark_cut.new.self = subst (λ (k : Core). LeavesOwn k.xacts c.args.s c.erase_from.new.self c.mark_cut.new.self) c.cut_page.ensures.core c.mark_cut.ensures.left in
    left_more c.args.core.now.xacts c.args.s c.args.self.now c.erase_from.new.self c.mark_cut.new.self (left_more c.args.core.now.xacts c.args.s c.args.self.now c.cut_page.new.self c.erase_from.new.self c.cut_page.ensures.left erased) marked
