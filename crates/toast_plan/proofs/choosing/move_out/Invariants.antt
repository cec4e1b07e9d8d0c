use Rattle.std.proofs.Common.{◌≡◌, length}
use Rattle.toast_plan.specs.Choice.{after_round, candidates}
use Rattle.toast_plan.specs.Rounds.{moves_in}
use Rattle.toast_plan.proofs.choosing.move_out.Given as goal

abbrev pub invariant-loop-round : goal.invariant-loop-round
invariant-loop-round l = record {
  length : length l.outside ≡ length l.columns;
  choice : after_round (moves_in l.round) l.target l.columns l.lengths l.outside ≡ after_round (moves_in l.round) l.target l.columns l.lengths l.initial.outside;
}

abbrev pub decreases-loop-round : goal.decreases-loop-round
decreases-loop-round l = length (candidates (moves_in l.round) l.columns l.lengths l.outside)
