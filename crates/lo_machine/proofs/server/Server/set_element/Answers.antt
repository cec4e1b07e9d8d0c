use Rattle.std.proofs.Common.{w32}
use Rattle.std.proofs.lemmas.Int.{to_z-of_z}
use Rattle.lo_base.specs.declared.reply.Reply.TheVariants.{Word}
use Rattle.lo_base.specs.declared.reply.Word.TheVariants as words
use Rattle.lo_machine.specs.ArrayRows.{set_line}
use Rattle.lo_machine.proofs.ArrayAnswers.{set_one, unset, same_lists}
use Rattle.lo_machine.proofs.ArrayCalls.{changed, granted_reads, denied_reads}
use Rattle.lo_machine.proofs.server.Server.set_element.Goals as goal

pub returns-in-Ok : goal.returns-in-Ok
returns-in-Ok c =
    granted_reads c.args.s c.place.result c.args.self.now _ c.index_mut.result.now c.set_element.new.self
    (changed c.args.s c.place.result c.args.self.now c.index_mut.result.now c.set_element.new.self c.requires.sound c.requires.rows c.place.ensures.place c.place.ensures.within c.index_mut.ensures.value)
    (set_line c.args.name.now c.args.sub c.args.value) (Word words.Ok) _ (set_one c.index_mut.result.now c.set_element.new.self c.args.name.now c.args.sub c.args.value (rw (to_z-of_z w32 c.args.sub c.ranges.sub) at c.in-Ok.ensures.ok))

pub returns-in-Err : goal.returns-in-Err
returns-in-Err c =
    let denies = rw (to_z-of_z w32 c.args.sub c.ranges.sub) at c.in-Err.ensures.err in
    denied_reads c.args.s c.place.result c.args.self.now _ c.index_mut.result.now c.set_element.new.self
    (changed c.args.s c.place.result c.args.self.now c.index_mut.result.now c.set_element.new.self c.requires.sound c.requires.rows c.place.ensures.place c.place.ensures.within c.index_mut.ensures.value)
    (set_line c.args.name.now c.args.sub c.args.value) c.in-Err.denied (same_lists c.index_mut.result.now c.set_element.new.self denies.same) (unset c.index_mut.result.now c.set_element.new.self c.args.name.now c.args.sub c.args.value c.in-Err.denied denies)
