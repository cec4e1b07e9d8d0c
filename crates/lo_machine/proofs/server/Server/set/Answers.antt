use Rattle.std.proofs.Common.{Ok, Err, ◌≤◌}
use Rattle.lo_base.specs.declared.refusal.Denied.TheVariants.{By, NoMemory}
use Rattle.lo_machine.specs.CallRow.{call_row}
use Rattle.lo_machine.specs.Dispatch.{ReadsCall}
use Rattle.lo_machine.proofs.BlockAnswers.{set_answers, refused_after}
use Rattle.lo_machine.proofs.server.Server.set.Goals as goal

pub returns-in-Ok-clause-ok : goal.returns-in-Ok-clause-ok
returns-in-Ok-clause-ok c =
    let range : (1 ≤ c.args.s) × (c.args.s ≤ 16) = rw c.number.ensures.same at c.number.ensures.range in
    (set_answers c.args.s range.0 range.1 c.args.self.now c.try_set.new.self c.args.request.now c.requires.sets (Ok c.in-Ok.reply) c.in-Ok.ensures).ok

pub returns-in-Err-By-clause-ok : goal.returns-in-Err-By-clause-ok
returns-in-Err-By-clause-ok c =
    let range : (1 ≤ c.args.s) × (c.args.s ≤ 16) = rw c.number.ensures.same at c.number.ensures.range in
    let reads : ReadsCall c.args.s (call_row c.args.request.now) c.args.self.now c.try_set.new.self (Err (By c.in-Err-By.refusal)) = rw (c.in-Err-By.field-0-is) at c.in-Err-By.ensures in
    refused_after c.args.s c.args.self.now c.try_set.new.self c.refuse_by.new.self c.args.request.now c.in-Err-By.refusal c.refuse_by.result
    (set_answers c.args.s range.0 range.1 c.args.self.now c.try_set.new.self c.args.request.now c.requires.sets (Err (By c.in-Err-By.refusal)) reads).err c.refuse_by.ensures.does

pub returns-in-Err-NoMemory-clause-err : goal.returns-in-Err-NoMemory-clause-err
returns-in-Err-NoMemory-clause-err c =
    let range : (1 ≤ c.args.s) × (c.args.s ≤ 16) = rw c.number.ensures.same at c.number.ensures.range in
    let reads : ReadsCall c.args.s (call_row c.args.request.now) c.args.self.now c.try_set.new.self (Err NoMemory) = rw (c.in-Err-NoMemory.field-0-is) at c.in-Err-NoMemory.ensures in
    (set_answers c.args.s range.0 range.1 c.args.self.now c.try_set.new.self c.args.request.now c.requires.sets (Err NoMemory) reads).err.undone
