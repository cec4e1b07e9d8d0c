use Rattle.std.proofs.Common.{Some, ap, sym}
use Rattle.lo_image.specs.Image.{image}
use Rattle.lo_opening.specs.Meaning.{opening_of}
use Rattle.lo_opening.specs.Opening.{OpeningData}
use Rattle.lo_opening.proofs.DataAgain.{data_again}
use Rattle.lo_tool.specs.Made.{saved_under}
use Rattle.lo_tool.proofs.making.unlink.Goals as goal

pub returns-clause-makes : goal.returns-clause-makes
returns-clause-makes g c = record {
  ok = record {
    opening = c.in_ok-opening.opening;
    kept = c.in_ok-opening.ensures.ok;
    left = opening_of c.in_ok-left.left;
    granted = c.in_ok-left.ensures.ok;
    text = c.in_ok-unlinked_text.ensures;
    saved = ap (λ (d : OpeningData). Some (saved_under c.args.image.now (image d))) (sym (data_again c.in_ok-left.left c.keeps_rules.ensures));
  };
  err = tt;
}
