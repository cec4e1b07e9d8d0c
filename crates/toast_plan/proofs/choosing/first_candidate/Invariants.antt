use Rattle.std.proofs.Common.{◌≡◌, ◌<◌, drop, None}
use Rattle.std.specs.Prelude.{IfSome, option_map}
use Rattle.toast_plan.specs.Choice.{candidates, candidates_from}
use Rattle.toast_plan.specs.Rounds.{moves_in, seen, first_of}
use Rattle.toast_plan.proofs.choosing.first_candidate.Given as goal

abbrev pub invariant-loop-place : goal.invariant-loop-place
invariant-loop-place l = record {
  rest : first_of (option_map seen l.best) (candidates_from (moves_in l.round) l.place (drop l.place l.columns) (drop l.place l.lengths) (drop l.place l.outside)) ≡ first_of None (candidates (moves_in l.round) l.columns l.lengths l.outside);
  earlier : IfSome l.best (λ b. b.place < l.place);
}
