use Rattle.std.proofs.Common.{Bool, Option, Some, None, ap, sym, ◌∙◌}
use Rattle.std.specs.Prelude.{if◌then◌else◌, option_map}
use Rattle.lo_image.specs.Image.{image}
use Rattle.lo_opening.specs.Meaning.{data_of, opening_of}
use Rattle.lo_opening.specs.Opening.{OpeningData}
use Rattle.lo_opening.proofs.DataAgain.{data_again}
use Rattle.lo_tool.specs.Made.{Saved, saved_under}
use Rattle.lo_tool.specs.Reading.{saved_of}
use Rattle.lo_tool.proofs.making.clean.Goals.{then-options, else-options}
use Rattle.lo_tool.proofs.making.clean.Goals as goal

pub returns-clause-makes : goal.returns-clause-makes
returns-clause-makes g c =
    let left : OpeningData = c.in_ok-ran.ran.opening in
    let saved_where : Bool → OpeningData → Option Saved = λ dry d. if dry then None else Some (saved_under c.args.image.now (image (data_of (opening_of d)))) in
    record {
      ok = record {
        opening = c.in_ok-opening.opening;
        kept = c.in_ok-opening.ensures.ok;
        left = opening_of c.in_ok-ran.ran.opening;
        run = c.in_ok-ran.ensures;
        saved = elim c.if-options.branch [
          | then-options w ↦ ap (option_map saved_of) w.result-is ∙ sym (ap (λ (dry : Bool). saved_where dry left) w.if-options.true)
          | else-options w ↦
              ap (option_map saved_of) w.result-is
              ∙ (ap (λ (d : OpeningData). Some (saved_under c.args.image.now (image d))) (sym (data_again left c.keeps_rules.ensures))
              ∙ sym (ap (λ (dry : Bool). saved_where dry left) w.if-options.false))
        ];
      };
      err = tt;
    }
