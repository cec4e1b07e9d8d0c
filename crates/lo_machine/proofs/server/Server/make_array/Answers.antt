use Rattle.lo_base.specs.declared.refusal.Denied.TheVariants.{NoMemory}
use Rattle.lo_base.specs.declared.reply.Reply.TheVariants.{Word}
use Rattle.lo_base.specs.declared.reply.Word.TheVariants as words
use Rattle.lo_machine.specs.ArrayRows.{array_line}
use Rattle.lo_machine.proofs.ArrayAnswers.{made, unmade, same_lists}
use Rattle.lo_machine.proofs.ArrayCalls.{changed, granted_reads, denied_reads}
use Rattle.lo_machine.proofs.server.Server.make_array.Goals as goal

pub returns-in-Ok-set : goal.returns-in-Ok-set
returns-in-Ok-set c =
    granted_reads c.args.s c.place.result c.args.self.now _ c.index_mut-own.result.now c.set.new.self
    (changed c.args.s c.place.result c.args.self.now c.index_mut-own.result.now c.set.new.self c.requires.sound c.requires.rows c.place.ensures.place c.place.ensures.within c.index_mut-own.ensures.value)
    (array_line c.args.name.now c.args.text.now) (Word words.Ok) _
    (made c.index_mut-own.result.now c.set.new.self c.args.name.now c.args.text.now c.in-Ok.array c.in-Ok.ensures.spelled c.in-Ok.ensures.held c.in-Ok-set.ensures.own c.in-Ok-set.ensures.others)

pub returns-in-Err-set : goal.returns-in-Err-set
returns-in-Err-set c =
    denied_reads c.args.s c.place.result c.args.self.now _ c.index_mut-own.result.now c.set.new.self
    (changed c.args.s c.place.result c.args.self.now c.index_mut-own.result.now c.set.new.self c.requires.sound c.requires.rows c.place.ensures.place c.place.ensures.within c.index_mut-own.ensures.value)
    (array_line c.args.name.now c.args.text.now) NoMemory (same_lists c.index_mut-own.result.now c.set.new.self c.in-Err-set.ensures.err) tt

pub returns-in-Err : goal.returns-in-Err
returns-in-Err c =
    denied_reads c.args.s c.place.result c.args.self.now _ c.index_mut-own.result.now c.index_mut-own.result.now
    (changed c.args.s c.place.result c.args.self.now c.index_mut-own.result.now c.index_mut-own.result.now c.requires.sound c.requires.rows c.place.ensures.place c.place.ensures.within c.index_mut-own.ensures.value)
    (array_line c.args.name.now c.args.text.now) c.in-Err.denied (λ mine is. is) (unmade c.index_mut-own.result.now c.args.name.now c.args.text.now c.in-Err.denied c.in-Err.ensures.denied)
