-- Arrays, their changes, flat bytes and texts, computed.
use Rattle.std.proofs.Common.{◌≡◌, pos, negsuc, [], ◌∷◌, Some, None, refl}
use Rattle.std.specs.Prelude.{codes}
use Rattle.std.specs.Fmt.{digits}
use Rattle.expanded_array.specs.Array.{Array, Empty, Bounded, array_set, element_at, excess}
use Rattle.expanded_array.specs.Flat.{flat_bytes}
use Rattle.expanded_array.specs.Layout.{array_in}
use Rattle.expanded_array.specs.Read.{array_of_text}
use Rattle.expanded_array.specs.Text.{array_text}
use Rattle.expanded_array.proofs.ArrayLaws.{excess_is}

one_two : Array
one_two = Bounded (pos 1) (Some (pos 1) ∷ Some (pos 2) ∷ [])

with_gap : Array
with_gap = Bounded (pos 1) (Some (pos 1) ∷ Some (pos 2) ∷ None ∷ None ∷ Some (pos 5) ∷ [])

from_zero : Array
from_zero = Bounded (pos 0) (Some (pos 9) ∷ Some (pos 1) ∷ Some (pos 2) ∷ None ∷ None ∷ Some (pos 5) ∷ [])

extended_upwards : array_set one_two (pos 5) (Some (pos 5)) ≡ with_gap
unfolding one_two with_gap
extended_upwards = refl

extended_downwards : array_set with_gap (pos 0) (Some (pos 9)) ≡ from_zero
unfolding with_gap from_zero
extended_downwards = refl

downwards_with_gap : array_set one_two (negsuc 1) None ≡ Bounded (negsuc 1) (None ∷ None ∷ None ∷ Some (pos 1) ∷ Some (pos 2) ∷ [])
unfolding one_two
downwards_with_gap = refl

first_of_empty : array_set Empty (pos 5) (Some (pos 7)) ≡ Bounded (pos 5) (Some (pos 7) ∷ [])
first_of_empty = refl

null_inside : element_at from_zero (pos 3) ≡ None
unfolding from_zero
null_inside = refl

there_inside : element_at from_zero (pos 5) ≡ Some (pos 5)
unfolding from_zero
there_inside = refl

null_outside : element_at from_zero (negsuc 0) ≡ None
unfolding from_zero
null_outside = refl

-- 01000000 20000000 17000000 05000000 01000000 13 00000000000000 01000000 02000000 05000000
flat_with_gap : flat_bytes with_gap ≡ 1 ∷ 0 ∷ 0 ∷ 0 ∷ 32 ∷ 0 ∷ 0 ∷ 0 ∷ 23 ∷ 0 ∷ 0 ∷ 0 ∷ 5 ∷ 0 ∷ 0 ∷ 0 ∷ 1 ∷ 0 ∷ 0 ∷ 0 ∷ 19 ∷ 0 ∷ 0 ∷ 0 ∷ 0 ∷ 0 ∷ 0 ∷ 0 ∷ 1 ∷ 0 ∷ 0 ∷ 0 ∷ 2 ∷ 0 ∷ 0 ∷ 0 ∷ 5 ∷ 0 ∷ 0 ∷ 0 ∷ []
unfolding with_gap
flat_with_gap = refl

flat_one_two : flat_bytes one_two ≡ 1 ∷ 0 ∷ 0 ∷ 0 ∷ 0 ∷ 0 ∷ 0 ∷ 0 ∷ 23 ∷ 0 ∷ 0 ∷ 0 ∷ 2 ∷ 0 ∷ 0 ∷ 0 ∷ 1 ∷ 0 ∷ 0 ∷ 0 ∷ 1 ∷ 0 ∷ 0 ∷ 0 ∷ 2 ∷ 0 ∷ 0 ∷ 0 ∷ []
unfolding one_two
flat_one_two = refl

flat_empty : flat_bytes Empty ≡ 0 ∷ 0 ∷ 0 ∷ 0 ∷ 0 ∷ 0 ∷ 0 ∷ 0 ∷ 23 ∷ 0 ∷ 0 ∷ 0 ∷ []
flat_empty = refl

text_with_gap : array_text with_gap ≡ codes "{1,2,NULL,NULL,5}"
unfolding with_gap digits
text_with_gap = refl

text_from_zero : array_text from_zero ≡ codes "[0:5]={9,1,2,NULL,NULL,5}"
unfolding from_zero digits
text_from_zero = refl

text_of_one : array_text (Bounded (pos 5) (Some (pos 7) ∷ [])) ≡ codes "[5:5]={7}"
unfolding digits
text_of_one = refl

text_of_empty : array_text Empty ≡ codes "{}"
text_of_empty = refl

-- from 0 to 1048577 are too many
too_far : excess (Bounded (pos 0) (Some (pos 9) ∷ Some (pos 1) ∷ Some (pos 2) ∷ [])) (pos 1048577) ≡ Some 1048578
too_far = excess_is (pos 0) (Some (pos 9) ∷ Some (pos 1) ∷ Some (pos 2) ∷ []) (pos 1048577)

just_within : excess (Bounded (pos 1) (Some (pos 1) ∷ [])) (pos 1048576) ≡ None
just_within = excess_is (pos 1) (Some (pos 1) ∷ []) (pos 1048576)

beyond_last : excess Empty (pos 2147483647) ≡ Some 1048577
beyond_last = refl

at_last : excess Empty (pos 2147483646) ≡ None
at_last = refl

-- ---- texts read

read_with_gap : array_of_text (codes "{1,2,null,NULL,+5}") ≡ Some with_gap
unfolding with_gap digits
read_with_gap = refl

read_from_zero : array_of_text (codes "[0:5]={9,1,2,NULL,NULL,5}") ≡ Some from_zero
unfolding from_zero digits
read_from_zero = refl

read_below : array_of_text (codes "[-1:0]={-7,007}") ≡ Some (Bounded (negsuc 0) (Some (negsuc 6) ∷ Some (pos 7) ∷ []))
unfolding digits
read_below = refl

read_empty : array_of_text (codes "{}") ≡ Some Empty
read_empty = refl

-- no closing brace, no element, a space, an int8, bounds of another number of elements, bounds with a leading zero
not_closed : array_of_text (codes "{1,") ≡ None
not_closed = refl

nothing_between : array_of_text (codes "{1,,2}") ≡ None
nothing_between = refl

a_space : array_of_text (codes "{1, 2}") ≡ None
a_space = refl

too_large : array_of_text (codes "{2147483648}") ≡ None
too_large = refl

other_bounds : array_of_text (codes "[1:3]={1,2}") ≡ None
unfolding digits
other_bounds = refl

bounds_with_zero : array_of_text (codes "[01:2]={1,2}") ≡ None
unfolding digits
bounds_with_zero = refl

-- the last subscript is 2147483646 at most
at_the_last : array_of_text (codes "[2147483646:2147483646]={1}") ≡ Some (Bounded (pos 2147483646) (Some (pos 1) ∷ []))
unfolding digits
at_the_last = refl

behind_the_last : array_of_text (codes "[2147483647:2147483647]={1}") ≡ None
unfolding digits
behind_the_last = refl

-- flat bytes read back
gap_again : array_in (flat_bytes with_gap) ≡ with_gap
unfolding with_gap
gap_again = refl
