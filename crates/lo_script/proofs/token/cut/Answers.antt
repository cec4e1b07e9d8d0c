use Rattle.std.proofs.Common.{◌==◌, sym, ◌∙◌}
use Rattle.lo_script.proofs.CutTexts.{slice_split-sliced, slice_split-at_none, cut_at-sliced, cut_at-none}
use Rattle.lo_script.proofs.token.cut.Goals as goal

pub returns-in-Some-clause-parts : goal.returns-in-Some-clause-parts
returns-in-Some-clause-parts c =
    slice_split-sliced (λ b. b == c.args.at) c.args.text.now c.in-Some.end 0 (sym c.first_index.ensures ∙ c.in-Some.is)

pub returns-in-None-clause-parts : goal.returns-in-None-clause-parts
returns-in-None-clause-parts c =
    slice_split-at_none (λ b. b == c.args.at) c.args.text.now (sym c.first_index.ensures ∙ c.in-None.is)

pub returns-in-Some-clause-first : goal.returns-in-Some-clause-first
returns-in-Some-clause-first c =
    cut_at-sliced c.args.at c.args.text.now c.in-Some.end (sym c.first_index.ensures ∙ c.in-Some.is)

pub returns-in-None-clause-first : goal.returns-in-None-clause-first
returns-in-None-clause-first c =
    cut_at-none c.args.at c.args.text.now (sym c.first_index.ensures ∙ c.in-None.is)
