use Rattle.std.proofs.Common.{refl, ap, ◌∙◌}
use Rattle.std.specs.Prelude.{flat_map}
use Rattle.lo_opening.specs.Opening.{OpeningData, tables_chunks}
use Rattle.lo_tool.specs.Texts.{data_line}
use Rattle.lo_tool.proofs.ObjectsListed.{all_listed}
use Rattle.lo_tool.proofs.making.list.Goals as goal

pub returns-clause-makes : goal.returns-clause-makes
returns-clause-makes g c = record {
  ok = record {
    opening = c.in_ok-opening.opening;
    kept = c.in_ok-opening.ensures.ok;
    text =
        c.in_ok-objects_text.ensures ∙ ap (flat_map data_line) (c.items.ensures ∙ ap (λ (d : OpeningData). d.objects) c.opening.view_is)
        ∙ all_listed 0 (tables_chunks c.in_ok-opening.opening.tables) c.in_ok-opening.opening.objects c.keeps_rules.ensures.objects;
    unsaved = refl;
  };
  err = tt;
}
