use Rattle.std.proofs.Common.{arith, refl}
use Rattle.lo_machine.proofs.LevelEnds.{held_at, cursors_held, moves_at, cursors_undone, undone_sound, undone_becomes, undone_loses}
use Rattle.lo_machine.proofs.server.Server.undo.Goals as goal

pub undo_level-requires-clause-held : goal.undo_level-requires-clause-held
undo_level-requires-clause-held c = held_at c.args.s c.place.result c.args.self.now c.index_mut.result.now c.requires.sound c.place.ensures.place c.place.ensures.within c.index_mut.ensures.value

pub undo_level-requires-2-clause-held : goal.undo_level-requires-2-clause-held
undo_level-requires-2-clause-held c = cursors_held c.args.s c.place.result c.args.self.now c.index_mut.result.now c.undo_level.new.self c.undo_level.new.xacts c.requires.sound c.place.ensures.place c.place.ensures.within c.index_mut.ensures.value c.undo_level.ensures.ends

pub returns-clause-sound : goal.returns-clause-sound
returns-clause-sound c =
    let old = c.args.self.now in
    undone_sound c.args.s c.args.failed old _ c.requires.sound
    (moves_at c.args.s c.place.result c.place-2.result c.args.failed old _ c.index_mut.result.now c.undo_level.new.self c.requires.sound c.place.ensures.place c.place.ensures.within c.index_mut.ensures.value c.place-2.ensures.place refl refl refl refl
    (cursors_undone c.args.s old c.requires.sound c.undo_level-2.new.self c.undo_level-2.ensures.rows c.undo_level-2.ensures.others c.args.level c.undo_level-2.ensures.own))
    c.undo_level-2.new.core.xacts (record { between = c.undo_level.new.xacts; descriptors = c.undo_level.ensures.ends; cursors = c.undo_level-2.ensures.ends })
    c.args.level (omega (arith, c.requires.low)) c.requires.high c.undo_level-3.ensures.ends c.undo_level-3.ensures.undos refl

pub returns-clause-becomes : goal.returns-clause-becomes
returns-clause-becomes c =
    let old = c.args.self.now in
    undone_becomes c.args.s c.args.failed old _ c.requires.sound
    (moves_at c.args.s c.place.result c.place-2.result c.args.failed old _ c.index_mut.result.now c.undo_level.new.self c.requires.sound c.place.ensures.place c.place.ensures.within c.index_mut.ensures.value c.place-2.ensures.place refl refl refl refl
    (cursors_undone c.args.s old c.requires.sound c.undo_level-2.new.self c.undo_level-2.ensures.rows c.undo_level-2.ensures.others c.args.level c.undo_level-2.ensures.own))
    c.undo_level-2.new.core.xacts (record { between = c.undo_level.new.xacts; descriptors = c.undo_level.ensures.ends; cursors = c.undo_level-2.ensures.ends })
    c.args.level (omega (arith, c.requires.low)) c.requires.high c.undo_level-3.ensures.ends c.undo_level-3.ensures.undos c.undo_level.ensures.descriptors c.undo_level-2.ensures.own

pub returns-clause-loses : goal.returns-clause-loses
returns-clause-loses c =
    let old = c.args.self.now in
    undone_loses c.args.s c.args.failed old _ c.requires.sound
    (moves_at c.args.s c.place.result c.place-2.result c.args.failed old _ c.index_mut.result.now c.undo_level.new.self c.requires.sound c.place.ensures.place c.place.ensures.within c.index_mut.ensures.value c.place-2.ensures.place refl refl refl refl
    (cursors_undone c.args.s old c.requires.sound c.undo_level-2.new.self c.undo_level-2.ensures.rows c.undo_level-2.ensures.others c.args.level c.undo_level-2.ensures.own))
    c.undo_level-2.new.core.xacts (record { between = c.undo_level.new.xacts; descriptors = c.undo_level.ensures.ends; cursors = c.undo_level-2.ensures.ends })
    c.args.level (omega (arith, c.requires.low)) c.requires.high c.undo_level-3.ensures.ends c.undo_level-3.ensures.undos
