use Rattle.std.proofs.Common.{◌≡◌, ◌-◌, ℕ, false, ap, sym, refl, arith}
use Rattle.std.specs.Prelude.{slice_index_or}
use Rattle.std.proofs.lemmas.List.{set-get_or}
use Rattle.row_versions.specs.declared.base.Core.{Core}
use Rattle.lo_machine.proofs.LevelEnds.{moves_at, cursors_released, merged_sound, merged_becomes}
use Rattle.lo_machine.proofs.LevelSteps.{cursors_kept, ends_kept}
use Rattle.lo_machine.proofs.server.Server.merge.Goals as goal

pub returns-clause-sound : goal.returns-clause-sound
returns-clause-sound c =
    let old = c.args.self.now in
    let mid = c.release_level.new.xacts in
    let flag = slice_index_or old.failed.items c.place.result false in
    merged_sound c.args.s flag old _ c.requires.sound
    (moves_at c.args.s c.place.result c.place.result flag old _ c.index_mut.result.now c.release_level.new.self c.requires.sound c.place.ensures.place c.place.ensures.within c.index_mut.ensures.value c.place.ensures.place refl (sym (set-get_or old.failed.items c.place.result false)) refl refl
    (cursors_released c.args.s old c.requires.sound c.release_level-2.new.self c.release_level-2.ensures.rows c.release_level-2.ensures.others c.args.level c.release_level-2.ensures.own))
    c.release_level-2.new.core.xacts
    (record {
      between = mid;
      descriptors = ends_kept old.core.xacts mid c.index_mut.result.now.descs c.release_level.new.self c.release_level.ensures.xacts c.release_level.ensures.holds c.release_level.ensures.open;
      cursors = cursors_kept mid c.release_level-2.new.core.xacts _ _ (ap (λ (core : Core). core.xacts) c.release_level-2.ensures.core) c.release_level-2.ensures.holds (c.release_level-2.ensures.open mid);
    })
    c.args.level (omega (arith, c.requires.low)) c.requires.high c.release_level-3.ensures.ends c.release_level-3.ensures.undos refl

pub returns-clause-becomes : goal.returns-clause-becomes
returns-clause-becomes c =
    let old = c.args.self.now in
    let mid = c.release_level.new.xacts in
    let flag = slice_index_or old.failed.items c.place.result false in
    let here : c.args.s - 1 ≡ c.place.result = omega (arith, c.place.ensures.place) in
    merged_becomes c.args.s flag old _ c.requires.sound
    (moves_at c.args.s c.place.result c.place.result flag old _ c.index_mut.result.now c.release_level.new.self c.requires.sound c.place.ensures.place c.place.ensures.within c.index_mut.ensures.value c.place.ensures.place refl (sym (set-get_or old.failed.items c.place.result false)) refl refl
    (cursors_released c.args.s old c.requires.sound c.release_level-2.new.self c.release_level-2.ensures.rows c.release_level-2.ensures.others c.args.level c.release_level-2.ensures.own))
    c.release_level-2.new.core.xacts
    (record {
      between = mid;
      descriptors = ends_kept old.core.xacts mid c.index_mut.result.now.descs c.release_level.new.self c.release_level.ensures.xacts c.release_level.ensures.holds c.release_level.ensures.open;
      cursors = cursors_kept mid c.release_level-2.new.core.xacts _ _ (ap (λ (core : Core). core.xacts) c.release_level-2.ensures.core) c.release_level-2.ensures.holds (c.release_level-2.ensures.open mid);
    })
    c.args.level (omega (arith, c.requires.low)) c.requires.high c.release_level-3.ensures.ends c.release_level-3.ensures.undos (ap (λ (n : ℕ). slice_index_or old.failed.items n false) here) c.release_level.ensures.descriptors c.release_level-2.ensures.own
