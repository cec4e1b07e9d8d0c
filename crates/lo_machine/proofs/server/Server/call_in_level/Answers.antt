use Rattle.std.proofs.Common.{◌≤◌}
use Rattle.lo_machine.proofs.BlockAnswers.{level_granted, level_denied}
use Rattle.lo_machine.proofs.server.Server.call_in_level.Goals as goal

pub returns-in-Ok-change : goal.returns-in-Ok-change
returns-in-Ok-change c =
    let range : (1 ≤ c.args.s) × (c.args.s ≤ 16) = rw c.number.ensures.same at c.number.ensures.range in
    level_granted c.args.s range.0 range.1 c.args.self.now c.save.new.self c.change.new.self c.requires.«open» c.in-Ok.name c.in-Ok-save.ensures.ok c.levels-level.result c.levels-level.ensures.count c.args.request.now c.requires.placed c.requires.writes
    c.merge.new.self _ c.merge.ensures.becomes c.in-Ok-change.reply c.in-Ok-change.ensures c.merge.ensures.sound

pub returns-in-Err : goal.returns-in-Err
returns-in-Err c =
    let range : (1 ≤ c.args.s) × (c.args.s ≤ 16) = rw c.number.ensures.same at c.number.ensures.range in
    level_denied c.args.s range.0 range.1 c.args.self.now c.save.new.self c.change.new.self c.requires.«open» c.in-Ok.name c.in-Ok-save.ensures.ok c.levels-level.result c.levels-level.ensures.count c.args.request.now c.requires.placed c.requires.writes
    c.is_failed-failed.result c.is_failed-failed.ensures c.undo.new.self c.merge-in-Err.new.self _ _ c.undo.ensures.becomes c.undo.ensures.loses c.merge-in-Err.ensures.becomes c.in-Err.denied c.in-Err.ensures c.merge-in-Err.ensures.sound
