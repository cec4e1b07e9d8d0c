use Rattle.std.proofs.Common.{◌+◌, ◌-◌, ◌*◌, arith, sym, ap, ◌∙◌, ◌++◌, ◌∷◌, [], List, ℕ, length, take, drop, append_assoc}
use Rattle.expanded_array.specs.Flat.{presence, number_of_flags, bitmap_len, low_bytes}
use Rattle.expanded_array.proofs.Packing.{bitmap_more}
use Rattle.expanded_array.proofs.expanded.put_bitmap.Goals as goal

pub loop-index-preserved : goal.loop-index-preserved
loop-index-preserved c =
    let es = c.args.elements.now in
    let rest : List ℕ = low_bytes (bitmap_len (length c.args.elements.now) - (c.loop-index.index + 1)) (number_of_flags (presence (drop (8 * (c.loop-index.index + 1)) c.args.elements.now))) in
    let byte = c.presence_byte.ensures ∙ ap (λ m. number_of_flags (presence (take (m - 8 * c.loop-index.index) (drop (8 * c.loop-index.index) c.args.elements.now)))) c.min-last.ensures in (
      omega (arith, c.put-end.ensures.end, c.loop-index.invariant.0),
      ap (λ xs. xs ++ rest) c.put-end.ensures.front
          ∙ append_assoc (take c.loop-index.end c.loop-index.out) (c.presence_byte.result ∷ []) rest
          ∙ ap (λ xs. take c.loop-index.end c.loop-index.out ++ xs) (ap (λ b. b ∷ rest) byte ∙ sym (bitmap_more c.args.elements.now (bitmap_len (length c.args.elements.now)) c.loop-index.index (omega arith)))
          ∙ c.loop-index.invariant.1,
    )
