use Rattle.std.proofs.Common.{sym, subst, ◌∙◌}
use Rattle.lo_base.specs.declared.refusal.Denied.{Denied}
use Rattle.lo_pages.specs.Outcome.{drop_refused, Denies}
use Rattle.lo_pages.proofs.Adding.{drop_missing, drop_busy, drop_done, denied_nothing}
use Rattle.lo_pages.proofs.Steps.{left_none, left_more}
use Rattle.lo_pages.proofs.pages.Pages.drop_object.Goals as goal

pub returns-then-not-is_there-clause-err : goal.returns-then-not-is_there-clause-err
returns-then-not-is_there-clause-err c = subst (λ (d : Denied). Denies c.args.core.now.xacts c.args.s (drop_refused c.args.core.now.xacts c.args.s c.args.oid) c.args.self.now c.args.self.now d) (sym c.refused.ensures) (drop_missing c.args.core.now.xacts c.args.s c.args.oid c.args.self.now c.is_there.ensures.session c.requires.open (sym c.is_there.ensures.found ∙ c.if-not-is_there.true))

pub returns-in-Err-clause-err : goal.returns-in-Err-clause-err
returns-in-Err-clause-err c = drop_busy c.args.core.now.xacts c.args.s c.args.oid c.args.self.now c.is_there.ensures.session c.requires.open 4294967295 c.in-Err.held (c.requires.goes.above c.args.oid) (sym c.is_there.ensures.found ∙ c.if-not-is_there.false) c.in-Err.ensures.err

pub returns-clause-ok : goal.returns-clause-ok
returns-clause-ok c = drop_done c.args.core.now.xacts c.args.s c.args.oid c.args.self.now c.is_there.ensures.session c.requires.open 4294967295 c.erase_from.new.self c.erase_object.new.self c.requires.whole (c.requires.goes.above c.args.oid) c.erase_object.ensures.goes (sym c.is_there.ensures.found ∙ c.if-not-is_there.false) c.in_default.ensures.ok.holder c.in_ok-erase_from.ensures.ok c.in_ok-erase_object.ensures.ok

pub returns-in_err-erase_object-clause-err : goal.returns-in_err-erase_object-clause-err
returns-in_err-erase_object-clause-err c = denied_nothing c.args.core.now.xacts c.args.s (drop_refused c.args.core.now.xacts c.args.s c.args.oid) c.args.self.now c.erase_object.new.self c.from_residual-in_err-erase_object.result c.from_residual-in_err-erase_object.ensures.1 (left_more c.args.core.now.xacts c.args.s c.args.self.now c.erase_from.new.self c.erase_object.new.self c.erase_from.ensures.left c.erase_object.ensures.left)

pub returns-then-not-is_there-clause-left : goal.returns-then-not-is_there-clause-left
returns-then-not-is_there-clause-left c = left_none c.args.core.now.xacts c.args.s c.args.self.now

pub returns-in-Err-clause-left : goal.returns-in-Err-clause-left
returns-in-Err-clause-left c = left_none c.args.core.now.xacts c.args.s c.args.self.now

pub returns-in_err-erase_object-clause-left : goal.returns-in_err-erase_object-clause-left
returns-in_err-erase_object-clause-left c = left_more c.args.core.now.xacts c.args.s c.args.self.now c.erase_from.new.self c.erase_object.new.self c.erase_from.ensures.left c.erase_object.ensures.left

pub returns-clause-left : goal.returns-clause-left
returns-clause-left c = left_more c.args.core.now.xacts c.args.s c.args.self.now c.erase_from.new.self c.erase_object.new.self c.erase_from.ensures.left c.erase_object.ensures.left
