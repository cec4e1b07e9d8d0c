use Rattle.std.proofs.Common.{◌∙◌}
use Rattle.std.specs.Int.{w32}
use Rattle.std.proofs.lemmas.Int.{to_z-of_z}
use Rattle.expanded_array.proofs.Places.{fields_read, fields_array}
use Rattle.expanded_array.proofs.flat_array.fields.Goals as goal

pub returns-clause-read : goal.returns-clause-read
returns-clause-read c =
    fields_read c.args.bytes.now _ _ _ c.requires (λ e. c.if-word_at-eq0.false (c.word_at.ensures ∙ e))
    (to_z-of_z w32 c.int4_at.result (record { sfits = c.int4_at.type_inv }) ∙ c.int4_at.ensures) c.word_at-2.ensures c.start_in.ensures

pub returns-clause-array : goal.returns-clause-array
returns-clause-array c = λ a held e.
    fields_array c.args.bytes.now _ _ _ (λ e. c.if-word_at-eq0.false (c.word_at.ensures ∙ e))
    (to_z-of_z w32 c.int4_at.result (record { sfits = c.int4_at.type_inv }) ∙ c.int4_at.ensures) c.word_at-2.ensures c.start_in.ensures a held e
