use Rattle.std.proofs.Common.{ap, ◌∙◌}
use Rattle.lo_script.specs.ReplyText.{lines_of}
use Rattle.lo_script.specs.Script.{script_with}
use Rattle.lo_tool.proofs.playing.run_script.Goals as goal

pub returns : goal.returns
returns c = record {
  ok = record {
    script = script_with c.in-Ok.script.programs c.in-Ok.script.order;
    spells = c.in-Ok.ensures.ok;
    whole = c.play.ensures.whole;
    replies = c.in_ok-text_of.ensures ∙ ap lines_of (c.items.ensures ∙ c.in_ok-finished.ensures.plays.replies);
    committed = c.in_ok-finished.ensures.plays.left;
  };
  err = tt;
  no_fault = tt;
}
