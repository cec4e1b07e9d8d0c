use Rattle.std.proofs.Common.{sym, ap, ◌∙◌, ◌++◌, rules, length}
use Rattle.std.specs.Prelude.{FitsSigned}
use Rattle.std.specs.Int.{w32}
use Rattle.std.proofs.lemmas.Int.{to_z-of_z}
use Rattle.expanded_array.specs.Flat.{flat_bytes, header, numbers, data_offset, bitmap, presence, padding}
use Rattle.expanded_array.specs.Layout.{array_of}
use Rattle.expanded_array.proofs.Written.{written_plain, written_sparse, plain_length, sparse_length, nonempty}
use Rattle.expanded_array.proofs.expanded.Expanded.flatten_into.Goals as goal

pub flatten_plain-requires-clause-len : goal.flatten_plain-requires-clause-len
flatten_plain-requires-clause-len c =
    c.requires.len ∙ ap (λ es. length (flat_bytes (array_of c.args.self.now.lower es))) (sym c.as_slice-elements.ensures)
    ∙ plain_length c.args.self.now.lower c.as_slice-elements.result.now c.present.result c.present.ensures.len (nonempty c.as_slice-elements.result.now (sym c.is_empty.ensures ∙ c.if-is_empty.false)) c.if-present-elements.true

pub flatten_sparse-requires-clause-len : goal.flatten_sparse-requires-clause-len
flatten_sparse-requires-clause-len c =
    c.requires.len ∙ ap (λ es. length (flat_bytes (array_of c.args.self.now.lower es))) (sym c.as_slice-elements.ensures)
    ∙ sparse_length c.args.self.now.lower c.as_slice-elements.result.now c.present.result c.present.ensures.len (nonempty c.as_slice-elements.result.now (sym c.is_empty.ensures ∙ c.if-is_empty.false)) c.if-present-elements.false

pub returns-then-present-elements : goal.returns-then-present-elements
returns-then-present-elements c =
    let lower : FitsSigned w32 c.args.self.now.lower = search rules in
    c.flatten_plain.ensures
    ∙ ap (λ l. header 0 (length c.as_slice-elements.result.now) l ++ numbers c.as_slice-elements.result.now) (to_z-of_z w32 c.args.self.now.lower lower)
    ∙ sym (written_plain c.args.self.now.lower c.as_slice-elements.result.now c.present.result c.present.ensures.len (nonempty c.as_slice-elements.result.now (sym c.is_empty.ensures ∙ c.if-is_empty.false)) c.if-present-elements.true)
    ∙ ap (λ es. flat_bytes (array_of c.args.self.now.lower es)) c.as_slice-elements.ensures

pub returns-else-present-elements : goal.returns-else-present-elements
returns-else-present-elements c =
    let lower : FitsSigned w32 c.args.self.now.lower = search rules in
    c.flatten_sparse.ensures
    ∙ ap (λ l. header (data_offset (length c.as_slice-elements.result.now)) (length c.as_slice-elements.result.now) l ++ (bitmap (presence c.as_slice-elements.result.now) ++ (padding (length c.as_slice-elements.result.now) ++ numbers c.as_slice-elements.result.now))) (to_z-of_z w32 c.args.self.now.lower lower)
    ∙ sym (written_sparse c.args.self.now.lower c.as_slice-elements.result.now c.present.result c.present.ensures.len (nonempty c.as_slice-elements.result.now (sym c.is_empty.ensures ∙ c.if-is_empty.false)) c.if-present-elements.false)
    ∙ ap (λ es. flat_bytes (array_of c.args.self.now.lower es)) c.as_slice-elements.ensures
