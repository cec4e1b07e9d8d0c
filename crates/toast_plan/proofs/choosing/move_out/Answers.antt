use Rattle.std.proofs.Common.{◌≡◌, false, true, sym, ◌∙◌, arith, Some, None}
use Rattle.std.proofs.Math.ListN.{length-set}
use Rattle.std.proofs.lemmas.Bool.{le-leb, lt-leb}
use Rattle.toast_plan.specs.Choice.{candidates, fits}
use Rattle.toast_plan.specs.Rounds.{moves_in, seen, first_of}
use Rattle.toast_plan.proofs.RoundLaws.{round_done, round_ends, round_goes_on, one_less}
use Rattle.toast_plan.proofs.choosing.move_out.Goals as goal

pub returns-in_default : goal.returns-in_default
returns-in_default c =
    let none : None ≡ first_of None (candidates (moves_in c.args.round) c.args.columns.now c.args.lengths.now c.loop-round.outside) = c.in_default.ensures.value in
    sym (round_ends (moves_in c.args.round) c.args.target c.args.columns.now c.args.lengths.now c.loop-round.outside none) ∙ c.loop-round.invariant.choice

pub loop-round-smaller : goal.loop-round-smaller
loop-round-smaller c =
    let found : Some (seen c.in-Some.first) ≡ first_of None (candidates (moves_in c.args.round) c.args.columns.now c.args.lengths.now c.loop-round.outside) = c.in-Some.ensures.value in
    omega (arith, one_less (moves_in c.args.round) c.args.columns.now c.args.lengths.now c.loop-round.outside (seen c.in-Some.first) (sym found))

pub loop-round-preserved : goal.loop-round-preserved
loop-round-preserved c =
    let found : Some (seen c.in-Some.first) ≡ first_of None (candidates (moves_in c.args.round) c.args.columns.now c.args.lengths.now c.loop-round.outside) = c.in-Some.ensures.value in
    let misses : fits c.args.target c.args.columns.now c.args.lengths.now c.loop-round.outside ≡ false = lt-leb _ _ (omega (arith, c.data_length.ensures.length)) in
    record {
      length = length-set c.loop-round.outside c.in-Some.first.place true ∙ c.loop-round.invariant.length;
      choice = round_goes_on (moves_in c.args.round) c.args.target c.args.columns.now c.args.lengths.now c.loop-round.outside (seen c.in-Some.first) misses (sym found) ∙ c.loop-round.invariant.choice;
    }

pub returns : goal.returns
returns c =
    let holds : fits c.args.target c.args.columns.now c.args.lengths.now c.loop-round.outside ≡ true = le-leb _ _ (omega (arith, c.data_length.ensures.length)) in
    sym (round_done (moves_in c.args.round) c.args.target c.args.columns.now c.args.lengths.now c.loop-round.outside holds) ∙ c.loop-round.invariant.choice
