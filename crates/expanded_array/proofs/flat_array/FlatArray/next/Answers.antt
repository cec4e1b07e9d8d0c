use Rattle.std.proofs.Common.{◌<◌, ◌+◌, arith, sym, ap, ap₂, ◌∙◌, length, Some}
use Rattle.std.specs.Int.{w32}
use Rattle.std.proofs.lemmas.Int.{to_z-of_z}
use Rattle.expanded_array.specs.Layout.{int4_at}
use Rattle.expanded_array.specs.Kept.{flat_flags}
use Rattle.expanded_array.proofs.Places.{number_within, length_flags_in, element_there, element_null, place_there, place_null, rank_le}
use Rattle.expanded_array.proofs.flat_array.FlatArray.next.Goals as goal

pub int4_at-requires : goal.int4_at-requires
int4_at-requires c =
    omega (arith, number_within c.args.self.now.bytes.items c.args.self.now.lower c.args.self.now.count c.args.self.now.start c.args.index c.requires.read c.requires.within (sym c.is_present.ensures ∙ c.if-is_present.true), c.requires.place, ap length c.deref.ensures.value)

pub overflow_add-result : goal.overflow_add-result
overflow_add-result c =
    omega (arith, c.requires.place, c.requires.read.near, c.requires.read.few, rank_le (flat_flags c.args.self.now) c.args.index)

pub returns-then-is_present-clause-element : goal.returns-then-is_present-clause-element
returns-then-is_present-clause-element c =
    let len : c.args.index < length (flat_flags c.args.self.now) = omega (arith, length_flags_in c.args.self.now.bytes.items c.args.self.now.count c.args.self.now.start, c.requires.within) in
    ap Some (to_z-of_z w32 c.int4_at.result (record { sfits = c.int4_at.type_inv }) ∙ c.int4_at.ensures ∙ ap₂ int4_at c.deref.ensures.value c.requires.place)
    ∙ element_there c.args.self.now.bytes.items c.args.self.now.count c.args.self.now.start c.args.index len (sym c.is_present.ensures ∙ c.if-is_present.true)

pub returns-then-is_present-clause-place : goal.returns-then-is_present-clause-place
returns-then-is_present-clause-place c =
    let len : c.args.index < length (flat_flags c.args.self.now) = omega (arith, length_flags_in c.args.self.now.bytes.items c.args.self.now.count c.args.self.now.start, c.requires.within) in
    ap (λ p. p + 4) c.requires.place ∙ place_there (flat_flags c.args.self.now) c.args.self.now.start c.args.index len (sym c.is_present.ensures ∙ c.if-is_present.true)

pub returns-else-is_present-clause-element : goal.returns-else-is_present-clause-element
returns-else-is_present-clause-element c =
    let len : c.args.index < length (flat_flags c.args.self.now) = omega (arith, length_flags_in c.args.self.now.bytes.items c.args.self.now.count c.args.self.now.start, c.requires.within) in
    element_null c.args.self.now.bytes.items c.args.self.now.count c.args.self.now.start c.args.index len (sym c.is_present.ensures ∙ c.if-is_present.false)

pub returns-else-is_present-clause-place : goal.returns-else-is_present-clause-place
returns-else-is_present-clause-place c =
    let len : c.args.index < length (flat_flags c.args.self.now) = omega (arith, length_flags_in c.args.self.now.bytes.items c.args.self.now.count c.args.self.now.start, c.requires.within) in
    c.requires.place ∙ place_null (flat_flags c.args.self.now) c.args.self.now.start c.args.index len (sym c.is_present.ensures ∙ c.if-is_present.false)
