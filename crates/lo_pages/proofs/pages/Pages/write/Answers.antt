use Rattle.std.proofs.Common.{◌≡◌, ◌+◌, ◌-◌, ◌/◌, true, length, sym, subst, ◌∙◌, arith}
use Rattle.std.specs.Prelude.{nat_lt}
use Rattle.lo_base.specs.declared.refusal.Denied.{Denied}
use Rattle.lo_pages.specs.Outcome.{write_refused, Denies, largest_size}
use Rattle.lo_pages.proofs.Adding.{is_large, is_small, write_missing, write_large, write_busy, write_none, write_done}
use Rattle.lo_pages.proofs.pages.Pages.write.Goals.{then-at-gt-LARGEST_SIZE-via-then-at-gt-LARGEST_SIZE, then-at-gt-LARGEST_SIZE-via-else-at-gt-LARGEST_SIZE+then-count-at}
use Rattle.lo_pages.proofs.Alone.{not_held}
use Rattle.lo_pages.proofs.Steps.{left_none}
use Rattle.lo_pages.proofs.pages.Pages.write.Goals as goal

pub returns-then-not-is_there-clause-err : goal.returns-then-not-is_there-clause-err
returns-then-not-is_there-clause-err c = subst (λ (d : Denied). Denies c.args.core.now.xacts c.args.s (write_refused c.args.core.now.xacts c.args.s c.args.oid c.args.at c.args.bytes.now) c.args.self.now c.args.self.now d) (sym c.refused.ensures) (write_missing c.args.core.now.xacts c.args.s c.args.oid c.args.self.now c.is_there.ensures.session c.requires.open c.args.at c.args.bytes.now (sym c.is_there.ensures.found ∙ c.if-not-is_there.true))

pub returns-then-at-gt-LARGEST_SIZE-clause-err : goal.returns-then-at-gt-LARGEST_SIZE-clause-err
returns-then-at-gt-LARGEST_SIZE-clause-err c =
    let large : nat_lt largest_size (c.args.at + length c.args.bytes.now) ≡ true = elim c.then-at-gt-LARGEST_SIZE.branch [
      | then-at-gt-LARGEST_SIZE-via-then-at-gt-LARGEST_SIZE w ↦ is_large 4398046509056 (c.args.at + length c.args.bytes.now) (omega (arith, w.if-at-gt-LARGEST_SIZE))
      | then-at-gt-LARGEST_SIZE-via-else-at-gt-LARGEST_SIZE+then-count-at w ↦ is_large 4398046509056 (c.args.at + length c.args.bytes.now) (omega (arith, w.if-at-gt-LARGEST_SIZE, w.if-count-at))
    ] in
    subst (λ (d : Denied). Denies c.args.core.now.xacts c.args.s (write_refused c.args.core.now.xacts c.args.s c.args.oid c.args.at c.args.bytes.now) c.args.self.now c.args.self.now d) (sym c.refused-then-at-gt-LARGEST_SIZE.ensures) (write_large c.args.core.now.xacts c.args.s c.args.oid c.args.self.now c.is_there.ensures.session c.requires.open c.args.at c.args.bytes.now (sym c.is_there.ensures.found ∙ c.if-not-is_there.false) large)

pub returns-then-count-eq0-clause-ok : goal.returns-then-count-eq0-clause-ok
returns-then-count-eq0-clause-ok c = write_none c.args.core.now.xacts c.args.s c.args.oid c.args.self.now c.is_there.ensures.session c.requires.open c.args.at c.args.bytes.now (omega (arith, c.if-count-eq0.true)) (sym c.is_there.ensures.found ∙ c.if-not-is_there.false) (is_small 4398046509056 (c.args.at + length c.args.bytes.now) (omega (arith, c.if-at-gt-LARGEST_SIZE.false, c.if-count-at.false)))

pub returns-in-Err-clause-err : goal.returns-in-Err-clause-err
returns-in-Err-clause-err c = write_busy c.args.core.now.xacts c.args.s c.args.oid c.args.self.now c.is_there.ensures.session c.requires.open c.in-Err.held c.args.at c.args.bytes.now (omega (arith, c.if-count-eq0.false)) (sym c.is_there.ensures.found ∙ c.if-not-is_there.false) (is_small 4398046509056 (c.args.at + length c.args.bytes.now) (omega (arith, c.if-at-gt-LARGEST_SIZE.false, c.if-count-at.false))) c.in-Err.ensures.err

pub returns-clause-ok : goal.returns-clause-ok
returns-clause-ok c = write_done c.args.core.now.xacts c.args.s c.args.oid c.args.self.now c.is_there.ensures.session c.requires.open c.write_pages.new.self c.args.at c.args.bytes.now c.requires.whole c.write_pages.ensures.goes (omega (arith, c.if-count-eq0.false)) (sym c.is_there.ensures.found ∙ c.if-not-is_there.false) (is_small 4398046509056 (c.args.at + length c.args.bytes.now) (omega (arith, c.if-at-gt-LARGEST_SIZE.false, c.if-count-at.false))) c.in_default.ensures.ok.holder c.in_ok-write_pages.ensures.ok

pub returns-then-not-is_there-clause-left : goal.returns-then-not-is_there-clause-left
returns-then-not-is_there-clause-left c = left_none c.args.core.now.xacts c.args.s c.args.self.now

pub returns-then-at-gt-LARGEST_SIZE-clause-left : goal.returns-then-at-gt-LARGEST_SIZE-clause-left
returns-then-at-gt-LARGEST_SIZE-clause-left c = left_none c.args.core.now.xacts c.args.s c.args.self.now

pub returns-then-count-eq0-clause-left : goal.returns-then-count-eq0-clause-left
returns-then-count-eq0-clause-left c = left_none c.args.core.now.xacts c.args.s c.args.self.now

pub returns-in-Err-clause-left : goal.returns-in-Err-clause-left
returns-in-Err-clause-left c = left_none c.args.core.now.xacts c.args.s c.args.self.now

pub returns-in-Err-clause-alone : goal.returns-in-Err-clause-alone
returns-in-Err-clause-alone c = λ alone small. not_held c.args.core.now.xacts c.args.s c.args.oid c.args.self.now alone (c.args.at / 2048) ((c.args.at + length c.args.bytes.now - 1) / 2048) c.in-Err.held (omega (arith, c.if-count-eq0.false)) (omega (arith, small)) c.in-Err.ensures.err
