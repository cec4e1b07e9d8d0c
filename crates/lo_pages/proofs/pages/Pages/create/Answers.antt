use Rattle.std.proofs.Common.{sym, subst, ◌∙◌}
use Rattle.lo_base.specs.declared.refusal.Denied.{Denied}
use Rattle.lo_pages.specs.Outcome.{create_refused, Denies}
use Rattle.lo_pages.proofs.Adding.{create_exists, create_busy, create_done}
use Rattle.lo_pages.proofs.Alone.{alone_now}
use Rattle.lo_pages.proofs.Steps.{left_none}
use Rattle.lo_pages.proofs.pages.Pages.create.Goals as goal

pub returns-then-is_there-clause-err : goal.returns-then-is_there-clause-err
returns-then-is_there-clause-err c = subst (λ (d : Denied). Denies c.args.core.now.xacts c.args.s (create_refused c.args.core.now.xacts c.args.s c.args.oid) c.args.self.now c.args.self.now d) (sym c.refused.ensures) (create_exists c.args.core.now.xacts c.args.s c.args.oid c.args.self.now c.is_there.ensures.session c.requires.open (sym c.is_there.ensures.found ∙ c.if-is_there.true))

pub returns-in-Err-clause-err : goal.returns-in-Err-clause-err
returns-in-Err-clause-err c = create_busy c.args.core.now.xacts c.args.s c.args.oid c.args.self.now c.is_there.ensures.session c.requires.open 4294967295 c.in-Err.held (c.requires.goes.above c.args.oid) (sym c.is_there.ensures.found ∙ c.if-is_there.false) c.in-Err.ensures.err

pub returns-clause-ok : goal.returns-clause-ok
returns-clause-ok c = create_done c.args.core.now.xacts c.args.s c.args.oid c.args.self.now c.is_there.ensures.session c.requires.open 4294967295 c.put_object.new.self c.requires.whole (c.requires.goes.above c.args.oid) c.put_object.ensures.goes (sym c.is_there.ensures.found ∙ c.if-is_there.false) c.in_default.ensures.ok.holder c.in_ok-put_object.ensures.ok

pub returns-then-is_there-clause-left : goal.returns-then-is_there-clause-left
returns-then-is_there-clause-left c = left_none c.args.core.now.xacts c.args.s c.args.self.now

pub returns-in-Err-clause-left : goal.returns-in-Err-clause-left
returns-in-Err-clause-left c = left_none c.args.core.now.xacts c.args.s c.args.self.now

pub returns-clause-alone : goal.returns-clause-alone
returns-clause-alone c = alone_now c.args.core.now.xacts c.args.s c.args.oid c.args.self.now c.put_object.new.self c.in_ok-put_object.ensures.ok c.in_default.ensures.ok
