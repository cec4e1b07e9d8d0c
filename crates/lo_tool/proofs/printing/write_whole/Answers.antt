use Rattle.std.proofs.Common.{◌∙◌}
use Rattle.lo_tool.proofs.PiecesOfText.{added_more, within_more}
use Rattle.lo_tool.proofs.printing.write_whole.Goals as goal

pub loop-at-preserved : goal.loop-at-preserved
loop-at-preserved g c =
    let done = c.loop-at.invariant in
    let call = c.in_ok-at.ensures in
    record {
      within = within_more _ _ _ done.within call.within;
      took = λ tells. added_more _ _ _ _ _ _ done.within call.within (done.took tells) (call.took (rw done.same tells));
      same = call.tells ∙ done.same;
      count = call.cause.ok ∙ done.count;
    }
