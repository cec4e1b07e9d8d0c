use Rattle.std.proofs.Common.{false, refl}
use Rattle.lo_machine.proofs.LevelEnds.{held_at, cursors_held, moves_at, cursors_undone, committed_sound, committed_becomes}
use Rattle.lo_machine.proofs.server.Server.end_committed.Goals as goal

pub end_all-requires : goal.end_all-requires
end_all-requires c = record { held = held_at c.args.s c.place.result c.args.self.now c.index_mut.result.now c.requires.sound c.place.ensures.place c.place.ensures.within c.index_mut.ensures.value }

pub undo_level-requires-clause-held : goal.undo_level-requires-clause-held
undo_level-requires-clause-held c = cursors_held c.args.s c.place.result c.args.self.now c.index_mut.result.now c.end_all.new.self c.end_all.new.xacts c.requires.sound c.place.ensures.place c.place.ensures.within c.index_mut.ensures.value c.end_all.ensures.ends

pub returns-clause-sound : goal.returns-clause-sound
returns-clause-sound c =
    let old = c.args.self.now in
    committed_sound c.args.s false old _ c.requires.sound
    (moves_at c.args.s c.place.result c.place-2.result false old _ c.index_mut.result.now c.end_all.new.self c.requires.sound c.place.ensures.place c.place.ensures.within c.index_mut.ensures.value c.place-2.ensures.place refl refl refl refl
    (cursors_undone c.args.s old c.requires.sound c.undo_level.new.self c.undo_level.ensures.rows c.undo_level.ensures.others 1 c.undo_level.ensures.own))
    c.undo_level.new.core.xacts (record { between = c.end_all.new.xacts; descriptors = c.end_all.ensures.ends; cursors = c.undo_level.ensures.ends })
    c.requires.open c.commit.ensures.ends c.commit.ensures.undos refl

pub returns-clause-becomes : goal.returns-clause-becomes
returns-clause-becomes c =
    let old = c.args.self.now in
    committed_becomes c.args.s false old _ c.requires.sound
    (moves_at c.args.s c.place.result c.place-2.result false old _ c.index_mut.result.now c.end_all.new.self c.requires.sound c.place.ensures.place c.place.ensures.within c.index_mut.ensures.value c.place-2.ensures.place refl refl refl refl
    (cursors_undone c.args.s old c.requires.sound c.undo_level.new.self c.undo_level.ensures.rows c.undo_level.ensures.others 1 c.undo_level.ensures.own))
    c.undo_level.new.core.xacts (record { between = c.end_all.new.xacts; descriptors = c.end_all.ensures.ends; cursors = c.undo_level.ensures.ends })
    c.requires.open c.commit.ensures.ends c.commit.ensures.undos refl c.end_all.ensures.descriptors c.undo_level.ensures.own
