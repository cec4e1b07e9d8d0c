use Rattle.std.proofs.Common.{◌<◌, ◌+◌, ◌-◌, ◌/◌, length, refl, sym, subst, ◌∙◌, arith}
use Rattle.xact_core.specs.Transactions.{levels_of}
use Rattle.row_versions.specs.declared.base.Core.{Core}
use Rattle.lo_pages.specs.Outcome.{LeavesOwn}
use Rattle.lo_pages.specs.Standing.{GoWith}
use Rattle.lo_pages.specs.Steps.{FreePages, Writing, WritesPages}
use Rattle.lo_pages.proofs.Clauses.{span_written_in}
use Rattle.lo_pages.proofs.Looping.{writing_start, writing_step, writing_end, writing_free}
use Rattle.lo_pages.proofs.Steps.{left_more}
use Rattle.lo_pages.proofs.pages.Pages.write_pages.Goals as goal

pub loop-number-init : goal.loop-number-init
loop-number-init c = (refl, writing_start c.args.core.now.xacts c.args.s c.args.oid c.args.at c.args.bytes.now c.args.self.now c.requires.goes)

pub write_page-requires-clause-open : goal.write_page-requires-clause-open
write_page-requires-clause-open c = subst (λ (k : Core). 0 < length (levels_of k.xacts c.args.s)) (sym c.loop-number.invariant.0) c.requires.open

pub write_page-requires-clause-goes : goal.write_page-requires-clause-goes
write_page-requires-clause-goes c = c.loop-number.invariant.1.goes

pub write_page-requires-clause-free : goal.write_page-requires-clause-free
write_page-requires-clause-free c = writing_free c.loop-number.core.xacts c.args.s c.args.oid c.args.at c.args.bytes.now c.loop-number.number ((c.args.at + length c.args.bytes.now - 1) / 2048) c.args.self.now c.loop-number.self (subst (λ (k : Core). FreePages k.xacts c.args.s c.args.oid (c.args.at / 2048) ((c.args.at + length c.args.bytes.now - 1) / 2048) c.args.self.now) (sym c.loop-number.invariant.0) c.requires.free) c.loop-number.auto.number (omega (arith, c.loop-number-test.true)) c.loop-number.invariant.1

pub returns-in_err-write_page-clause-left : goal.returns-in_err-write_page-clause-left
returns-in_err-write_page-clause-left c = subst (λ (k : Core). LeavesOwn k.xacts c.args.s c.args.self.now c.write_page.new.self) c.loop-number.invariant.0 (left_more c.loop-number.core.xacts c.args.s c.args.self.now c.loop-number.self c.write_page.new.self c.loop-number.invariant.1.left c.write_page.ensures.left)

pub returns-in_err-write_page-clause-goes : goal.returns-in_err-write_page-clause-goes
returns-in_err-write_page-clause-goes c = subst (λ (k : Core). GoWith k.xacts c.write_page.new.self) c.loop-number.invariant.0 c.write_page.ensures.goes

pub returns-in_err-write_page-clause-core : goal.returns-in_err-write_page-clause-core
returns-in_err-write_page-clause-core c = c.write_page.ensures.core ∙ c.loop-number.invariant.0

pub loop-number-preserved : goal.loop-number-preserved
loop-number-preserved c = (c.write_page.ensures.core ∙ c.loop-number.invariant.0, subst (λ (k : Core). Writing k.xacts c.args.s c.args.oid c.args.at c.args.bytes.now (c.loop-number.number + 1) c.args.self.now c.write_page.new.self) (sym c.write_page.ensures.core) (writing_step c.loop-number.core.xacts c.args.s c.args.oid c.args.at c.args.bytes.now c.loop-number.number c.args.self.now c.loop-number.self c.write_page.new.self c.loop-number.invariant.1 (span_written_in c.loop-number.number c.args.at (length c.args.bytes.now) c.requires.some c.loop-number.auto.number (omega (arith, c.loop-number-test.true))) c.in_ok-write_page.ensures.ok c.write_page.ensures.left c.write_page.ensures.goes))

pub returns-clause-ok : goal.returns-clause-ok
returns-clause-ok c = subst (λ (k : Core). WritesPages k.xacts c.args.s c.args.oid c.args.at c.args.bytes.now c.args.self.now c.loop-number.self) c.loop-number.invariant.0 (writing_end c.loop-number.core.xacts c.args.s c.args.oid c.args.at c.args.bytes.now c.loop-number.number c.args.self.now c.loop-number.self c.requires.some (omega (arith, c.loop-number-test.false)) c.loop-number.invariant.1)

pub returns-clause-left : goal.returns-clause-left
returns-clause-left c = subst (λ (k : Core). LeavesOwn k.xacts c.args.s c.args.self.now c.loop-number.self) c.loop-number.invariant.0 c.loop-number.invariant.1.left

pub returns-clause-goes : goal.returns-clause-goes
returns-clause-goes c = subst (λ (k : Core). GoWith k.xacts c.loop-number.self) c.loop-number.invariant.0 c.loop-number.invariant.1.goes

pub returns-clause-core : goal.returns-clause-core
returns-clause-core c = c.loop-number.invariant.0
