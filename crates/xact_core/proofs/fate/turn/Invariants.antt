use Rattle.std.proofs.Common.{◌≡◌, length, drop}
use Rattle.xact_core.specs.Fate.{owner_after, fate_after, turned_at}
use Rattle.xact_core.proofs.fate.turn.Given as goal

abbrev pub invariant-loop-place : goal.invariant-loop-place
invariant-loop-place l = record {
  left : turned_at (fate_after (owner_after l.end)) (drop l.place-index l.places) l.fates.items ≡ turned_at (fate_after (owner_after l.end)) l.places l.initial.fates.items;
  size : length l.fates.items ≡ length l.initial.fates.items;
}
