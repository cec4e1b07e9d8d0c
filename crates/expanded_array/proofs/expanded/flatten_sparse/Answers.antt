use Rattle.std.proofs.Common.{◌≡◌, ◌+◌, ◌-◌, ◌≤◌, arith, ap, ap₂, ◌∙◌, ◌++◌, ℕ, length, take, replicate}
use Rattle.std.specs.Int.{w32}
use Rattle.std.proofs.lemmas.Int.{to_z-of_z}
use Rattle.std.proofs.lemmas.List.{length-replicate}
use Rattle.expanded_array.specs.Flat.{padding, data_offset, bitmap_len, header, bitmap, presence, numbers}
use Rattle.expanded_array.proofs.Written.{four_parts, zeros_front}
use Rattle.expanded_array.proofs.expanded.flatten_sparse.Goals as goal

pub returns : goal.returns
returns c =
    let offset : c.sparse_start-start.result + 4 ≡ data_offset (length c.args.elements.now) = c.sparse_start-start.ensures.offset in
    let gap : c.sparse_start-start.result - c.put_bitmap-place.result ≡ data_offset (length c.args.elements.now) - (24 + bitmap_len (length c.args.elements.now)) = omega arith in
    let short : c.sparse_start-start.result - c.put_bitmap-place.result ≤ 8 = omega arith in
    let zeros = zeros_front (c.sparse_start-start.result - c.put_bitmap-place.result) short in
    let filled = ap length zeros ∙ length-replicate {A = ℕ} (c.sparse_start-start.result - c.put_bitmap-place.result) 0 in
    let end : c.put-place.result ≡ c.sparse_start-start.result = c.put-place.ensures.end ∙ ap (λ k. c.put_bitmap-place.result + k) filled ∙ omega arith in
    four_parts c.put_numbers.new.out c.put-place.new.out c.put_bitmap-place.new.out c.put_header-place.new.out c.put_numbers.result c.put-place.result c.put_bitmap-place.result c.put_header-place.result
    (header (data_offset (length c.args.elements.now)) (length c.args.elements.now) c.args.lower) (bitmap (presence c.args.elements.now)) (padding (length c.args.elements.now)) (numbers c.args.elements.now)
    c.put_numbers.ensures.front
    (c.put-place.ensures.front ∙ ap (λ xs. take c.put_bitmap-place.result c.put_bitmap-place.new.out ++ xs) (zeros ∙ ap (λ k. replicate k 0) gap))
    c.put_bitmap-place.ensures.front
    (ap (λ k. take k c.put_header-place.new.out) c.put_header-place.ensures.end ∙ c.put_header-place.ensures.front ∙ ap₂ (λ o l. header o (length c.args.elements.now) l) offset (to_z-of_z w32 c.args.lower c.ranges.lower))
    (omega (arith, c.put_numbers.ensures.end, c.requires.len))
