use Rattle.std.proofs.Common.{length-set, ◌∙◌}
use Rattle.xact_core.specs.Fate.{owner_after, fate_after}
use Rattle.xact_core.proofs.ListPlaces.{turned_next}
use Rattle.xact_core.proofs.fate.turn.Goals as goal

pub loop-place-preserved : goal.loop-place-preserved
loop-place-preserved c =
    record {
      left =
          rw c.after-turned.ensures
          (turned_next (fate_after (owner_after c.args.end.now)) c.args.places.now c.loop-place.place-index c.loop-place.fates.items _ c.index.result.now
          c.loop-place-test.true (rw c.loop-place.invariant.size (c.requires c.loop-place.place-index 0 c.loop-place-test.true)) c.index.ensures c.loop-place.invariant.left);
      size = length-set _ _ _ ∙ c.loop-place.invariant.size;
    }
