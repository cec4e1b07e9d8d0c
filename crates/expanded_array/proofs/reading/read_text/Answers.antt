use Rattle.std.proofs.Common.{◌≡◌, sym, ◌∙◌}
use Rattle.std.specs.Prelude.{codes}
use Rattle.std.proofs.lemmas.Bool.{false≢true}
use Rattle.std.proofs.lemmas.Bool.Decides.{Decides-eqb}
use Rattle.std.proofs.lemmas.Slice.Eq.{slice_eq-Decides}
use Rattle.expanded_array.proofs.BodyLaws.{denied_whole, held_whole, spelled_whole}
use Rattle.expanded_array.proofs.reading.read_text.Goals as goal

pub returns-clause-spelled : goal.returns-clause-spelled
returns-clause-spelled c = spelled_whole c.args.text.now c.read_bounded.result c.read_bounded.ensures.read

pub returns-clause-held : goal.returns-clause-held
returns-clause-held c = held_whole c.args.text.now c.read_bounded.result c.read_bounded.ensures.read c.read_bounded.ensures.few

pub returns-clause-denied : goal.returns-clause-denied
returns-clause-denied c =
    let full : c.args.text.now ≡ codes "{}" → ⊥ = λ e. false≢true (sym c.if-eq.false ∙ (slice_eq-Decides Decides-eqb c.args.text.now c.as_slice.result.now c.eq.result c.eq.ensures).1 (e ∙ sym c.as_slice.ensures)) in
    denied_whole c.args.text.now full c.read_bounded.result c.read_bounded.ensures.denied
