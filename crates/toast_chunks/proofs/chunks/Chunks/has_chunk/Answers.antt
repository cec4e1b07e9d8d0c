use Rattle.std.proofs.Common.{ap, sym, ◌∙◌}
use Rattle.std.specs.Prelude.{is_some}
use Rattle.toast_chunks.proofs.Steps.{found_used, found_small, some_copied}
use Rattle.toast_chunks.proofs.chunks.Chunks.has_chunk.Goals as goal

pub returns-clause-used : goal.returns-clause-used
returns-clause-used c is = found_used c.args.core.now.xacts c.args.snap.now c.args.self.now c.requires.goes c.args.value c.args.number (sym (c.is_some.ensures ∙ (some_copied c.find.result ∙ ap is_some c.find.ensures)) ∙ is)

pub returns-clause-small : goal.returns-clause-small
returns-clause-small c is = found_small c.args.core.now.xacts c.args.snap.now c.args.self.now c.requires.goes c.args.value c.args.number (sym (c.is_some.ensures ∙ (some_copied c.find.result ∙ ap is_some c.find.ensures)) ∙ is)
