use Rattle.std.proofs.Common.{sym}
use Rattle.lo_tool.specs.Reading.{made_of}
use Rattle.lo_tool.proofs.Statuses.{leaves_bad_input, leaves_fault, leaves_made, leaves_refused, leaves_usage}
use Rattle.lo_tool.proofs.run.run_words.Goals as goal

pub returns-in_default-clause-leaves : goal.returns-in_default-clause-leaves
returns-in_default-clause-leaves g c = leaves_usage _ _ _ _ _ _ (sym c.in_default.ensures.is) (rw (← c.as_bytes.ensures.value) c.complain.ensures.complains)

pub returns-in-Err-BadInput-clause-leaves : goal.returns-in-Err-BadInput-clause-leaves
returns-in-Err-BadInput-clause-leaves g c =
    let bad = rw (c.in-Err-BadInput.field-0-is) at c.in-Err-BadInput.ensures.makes.err in
    let count = rw (c.in-Err-BadInput.field-0-is) at c.in-Err-BadInput.ensures.cause.err in
    let said = rw (c.in-Err-BadInput.field-0-is) at c.items.ensures in
    let complains = rw said at c.complain-in-Err-BadInput.ensures.complains in
    leaves_bad_input _ _ _ _ _ _ _ _ (record { command = _; is = sym c.in-Some.ensures.is; bad = bad }) c.make.ensures.folder count complains

pub returns-in-Err-Refused-clause-leaves : goal.returns-in-Err-Refused-clause-leaves
returns-in-Err-Refused-clause-leaves g c =
    let by = rw (c.in-Err-Refused.field-0-is) at c.in-Err-Refused.ensures.makes.err in
    let count = rw (c.in-Err-Refused.field-0-is) at c.in-Err-Refused.ensures.cause.err in
    let said = rw (c.in-Err-Refused.field-0-is) at c.items-in-Err-Refused.ensures in
    let complains = rw said at c.complain-in-Err-Refused.ensures.complains in
    leaves_refused _ _ _ _ _ _ _ _ (record { command = _; is = sym c.in-Some.ensures.is; by = by }) c.make.ensures.folder count complains

pub returns-in-Err-Fault-clause-leaves : goal.returns-in-Err-Fault-clause-leaves
returns-in-Err-Fault-clause-leaves g c =
    let rose = rw (c.in-Err-Fault.field-0-is) at c.in-Err-Fault.ensures.cause.err in
    leaves_fault _ _ _ _ _ _ _ c.make.ensures.folder rose c.report_fault.ensures.complains

pub returns-in-Ok-clause-leaves : goal.returns-in-Ok-clause-leaves
returns-in-Ok-clause-leaves g c =
    leaves_made _ _ _ _ _ _ (made_of c.in-Ok.made) _ (record { command = _; is = sym c.in-Some.ensures.is; by = c.in-Ok.ensures.makes.ok })
    c.make.ensures.tells c.make.ensures.folder c.in-Ok.ensures.cause.ok c.finish.ensures.ends
