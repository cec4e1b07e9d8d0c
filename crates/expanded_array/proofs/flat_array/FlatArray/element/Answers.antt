use Rattle.std.proofs.Common.{◌<◌, arith, sym, ap, ap₂, ◌∙◌, length, Some}
use Rattle.std.specs.Int.{w32}
use Rattle.std.proofs.lemmas.Int.{to_z-of_z}
use Rattle.expanded_array.specs.Layout.{int4_at}
use Rattle.expanded_array.specs.Kept.{flat_flags}
use Rattle.expanded_array.proofs.Places.{number_within, length_flags_in, element_there, element_null}
use Rattle.expanded_array.proofs.flat_array.FlatArray.element.Goals as goal

pub int4_at-requires : goal.int4_at-requires
int4_at-requires c =
    omega (arith, number_within c.args.self.now.bytes.items c.args.self.now.lower c.args.self.now.count c.args.self.now.start c.args.index c.requires.read c.requires.within (sym c.is_present.ensures ∙ c.if-is_present.true), c.place_of.ensures, ap length c.deref.ensures.value)

pub returns-then-is_present : goal.returns-then-is_present
returns-then-is_present c =
    let len : c.args.index < length (flat_flags c.args.self.now) = omega (arith, length_flags_in c.args.self.now.bytes.items c.args.self.now.count c.args.self.now.start, c.requires.within) in
    ap Some (to_z-of_z w32 c.int4_at.result (record { sfits = c.int4_at.type_inv }) ∙ c.int4_at.ensures ∙ ap₂ int4_at c.deref.ensures.value c.place_of.ensures)
    ∙ element_there c.args.self.now.bytes.items c.args.self.now.count c.args.self.now.start c.args.index len (sym c.is_present.ensures ∙ c.if-is_present.true)

pub returns-else-is_present : goal.returns-else-is_present
returns-else-is_present c =
    let len : c.args.index < length (flat_flags c.args.self.now) = omega (arith, length_flags_in c.args.self.now.bytes.items c.args.self.now.count c.args.self.now.start, c.requires.within) in
    element_null c.args.self.now.bytes.items c.args.self.now.count c.args.self.now.start c.args.index len (sym c.is_present.ensures ∙ c.if-is_present.false)
