use Rattle.std.proofs.Common.{◌≡◌, ◌+◌, ◌-◌, ◌*◌, ◌++◌, length, take, drop}
use Rattle.expanded_array.specs.Flat.{presence, number_of_flags, bitmap, bitmap_len, low_bytes}
use Rattle.expanded_array.proofs.expanded.put_bitmap.Given as goal

abbrev pub invariant-loop-index : goal.invariant-loop-index
invariant-loop-index l =
    (l.end ≡ l.place + l.index)
    × (take l.end l.out ++ low_bytes (bitmap_len (length l.elements) - l.index) (number_of_flags (presence (drop (8 * l.index) l.elements))) ≡ take l.place l.fn.out ++ bitmap (presence l.elements))
