use Rattle.std.proofs.Common.{◌≡◌, arith, sym, ap, ap₂, ◌∙◌, take, drop, ◌+◌, ◌-◌, ◌/◌, count_ones}
use Rattle.std.proofs.lemmas.List.{length-take}
use Rattle.expanded_array.specs.Layout.{number_of_bytes, header_len}
use Rattle.expanded_array.proofs.Places.{rank_plain, rank_sparse}
use Rattle.expanded_array.proofs.layout.rank.Goals as goal

pub returns-then-start-eq-HEADER_LEN : goal.returns-then-start-eq-HEADER_LEN
returns-then-start-eq-HEADER_LEN c = sym (rank_plain c.args.bytes.now c.args.count c.args.start c.args.index c.if-start-eq-HEADER_LEN.true (omega arith))

pub overflow_add-result : goal.overflow_add-result
overflow_add-result c = omega (arith, c.set_bits.ensures.few, c.low_set_bits.ensures.few, length-take ((header_len + c.args.index / 8) - header_len) (drop header_len c.args.bytes.now))

pub returns : goal.returns
returns c =
    let place : (header_len + c.args.index / 8) - header_len ≡ c.args.index / 8 = omega arith in
    ap₂ (λ x y. x + y) (c.set_bits.ensures.set ∙ ap (λ j. count_ones (number_of_bytes (take j (drop header_len c.args.bytes.now)))) place) c.low_set_bits.ensures.set
    ∙ sym (rank_sparse c.args.bytes.now c.args.count c.args.start c.args.index (record { each = λ i. omega (arith, c.type_inv.bytes i) }) c.if-start-eq-HEADER_LEN.false c.requires.within (c.requires.bits c.if-start-eq-HEADER_LEN.false))
