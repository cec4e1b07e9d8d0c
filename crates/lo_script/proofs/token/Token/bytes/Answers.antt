use Rattle.std.proofs.Common.{ap}
use Rattle.lo_script.specs.Reading.{read_at}
use Rattle.lo_script.proofs.DecimalsAndBytes.{too_many_digits, enough_digits}
use Rattle.lo_script.proofs.token.Token.bytes.Goals as goal

pub returns-then-digits-most : goal.returns-then-digits-most
returns-then-digits-most c =
    let none = too_many_digits c.args.most c.in-Some.digits.now c.if-digits-most.true in
    let cases = c.in-Some.ensures.cases in
    record { ok = tt; bad = rw (c.refused-then-digits-most.ensures, cases.0, ← cases.1) (ap (read_at c.args.self.now.column) none) }

pub returns-in-Ok : goal.returns-in-Ok
returns-in-Ok c =
    let some = enough_digits c.args.most c.in-Some.digits.now c.in-Ok.bytes.items c.in-Ok.ensures.ok c.if-digits-most.false in
    let cases = c.in-Some.ensures.cases in
    record { ok = rw (cases.0, ← cases.1, c.from_vec.ensures) (ap (read_at c.args.self.now.column) some); bad = tt }
