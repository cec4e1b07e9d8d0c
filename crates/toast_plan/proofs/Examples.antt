-- Rows worked by hand, computed by the definitions.
use Rattle.std.proofs.Common.{◌≡◌, ℕ, true, false, List, [], ◌∷◌, Option, Some, None, refl}
use Rattle.std.specs.Prelude.{codes}
use Rattle.lo_base.specs.declared.column.Column.{Column}
use Rattle.lo_base.specs.declared.column.ColType.{ColType}
use Rattle.lo_base.specs.declared.column.ColType.TheVariants as types
use Rattle.lo_base.specs.declared.column.Storage.{Storage}
use Rattle.lo_base.specs.declared.column.Storage.TheVariants.{Plain, External, Extended, Main}
use Rattle.toast_plan.specs.Layout.{header_length, data_length}
use Rattle.toast_plan.specs.Choice.{outside_of, planned_length, too_long}

abbrev id : Column
id = record { name = codes "id"; kind = types.Int8; storage = Plain }

abbrev bytes_in : Storage → Column
bytes_in storage = record { name = codes "v"; kind = types.Bytea; storage = storage }

abbrev oid_in : ColType → Column
oid_in kind = record { name = codes "o"; kind = kind; storage = Plain }

-- an id and one value
abbrev one : Storage → List Column
one storage = id ∷ bytes_in storage ∷ []

abbrev of_id : List (Option ℕ) → List (Option ℕ)
of_id ns = Some 8 ∷ ns

external_1996_stays : outside_of (one External) (of_id (Some 1996 ∷ [])) ≡ false ∷ false ∷ []
external_1996_stays = refl

external_1996_fills_the_target : planned_length (one External) (of_id (Some 1996 ∷ [])) ≡ 2032
external_1996_fills_the_target = refl

external_1997_moves : outside_of (one External) (of_id (Some 1997 ∷ [])) ≡ false ∷ true ∷ []
external_1997_moves = refl

external_1997_leaves_a_pointer : planned_length (one External) (of_id (Some 1997 ∷ [])) ≡ 50
external_1997_leaves_a_pointer = refl

of_equal_ones_the_first_moves : outside_of (id ∷ bytes_in External ∷ bytes_in External ∷ []) (of_id (Some 1500 ∷ Some 1500 ∷ [])) ≡ false ∷ true ∷ false ∷ []
of_equal_ones_the_first_moves = refl

main_8124_stays : outside_of (one Main) (of_id (Some 8124 ∷ [])) ≡ false ∷ false ∷ []
main_8124_stays = refl

main_8125_moves : outside_of (one Main) (of_id (Some 8125 ∷ [])) ≡ false ∷ true ∷ []
main_8125_moves = refl

plain_8124_fits : planned_length (one Plain) (of_id (Some 8124 ∷ [])) ≡ 8160
plain_8124_fits = refl

plain_8124_is_not_too_long : too_long (one Plain) (of_id (Some 8124 ∷ [])) ≡ None
plain_8124_is_not_too_long = refl

plain_8125_is_too_long : too_long (one Plain) (of_id (Some 8125 ∷ [])) ≡ Some 8168
plain_8125_is_too_long = refl

-- the longest first, and no more than are needed
the_longest_moves : outside_of (id ∷ bytes_in Extended ∷ bytes_in External ∷ bytes_in Extended ∷ []) (of_id (Some 900 ∷ Some 1000 ∷ Some 950 ∷ [])) ≡ false ∷ false ∷ true ∷ false ∷ []
the_longest_moves = refl

-- a MAIN value moves in the second round alone, after all others that can
both_rounds : outside_of (id ∷ bytes_in Main ∷ bytes_in External ∷ bytes_in Main ∷ []) (of_id (Some 5000 ∷ Some 30 ∷ Some 4000 ∷ [])) ≡ false ∷ true ∷ true ∷ false ∷ []
both_rounds = refl

-- 23 bytes are no candidate, 24 are
small_values_stay : outside_of (id ∷ bytes_in External ∷ bytes_in External ∷ bytes_in Plain ∷ []) (of_id (Some 23 ∷ Some 24 ∷ Some 2000 ∷ [])) ≡ false ∷ false ∷ true ∷ false ∷ []
small_values_stay = refl

short_header_up_to_126 : data_length (bytes_in External ∷ bytes_in External ∷ []) (Some 126 ∷ Some 127 ∷ []) (false ∷ false ∷ []) ≡ 259
short_header_up_to_126 = refl

-- a long header begins at a multiple of 4, which need be none of 8: behind 9 bytes at 12
a_long_header_is_aligned_to_4 : data_length (bytes_in External ∷ bytes_in External ∷ []) (Some 8 ∷ Some 127 ∷ []) (false ∷ false ∷ []) ≡ 143
a_long_header_is_aligned_to_4 = refl

a_plain_header_is_aligned_to_4 : data_length (bytes_in External ∷ bytes_in Plain ∷ []) (Some 8 ∷ Some 1 ∷ []) (false ∷ false ∷ []) ≡ 17
a_plain_header_is_aligned_to_4 = refl

-- so do an oid and a lo
an_oid_is_aligned_to_4 : data_length (bytes_in External ∷ oid_in types.Oid ∷ []) (Some 8 ∷ Some 4 ∷ []) (false ∷ false ∷ []) ≡ 16
an_oid_is_aligned_to_4 = refl

a_lo_is_aligned_to_4 : data_length (bytes_in External ∷ oid_in types.Lo ∷ []) (Some 8 ∷ Some 4 ∷ []) (false ∷ false ∷ []) ≡ 16
a_lo_is_aligned_to_4 = refl

-- a short header and a pointer begin anywhere
a_short_header_is_not_aligned : data_length (bytes_in External ∷ bytes_in External ∷ []) (Some 8 ∷ Some 1 ∷ []) (false ∷ false ∷ []) ≡ 11
a_short_header_is_not_aligned = refl

a_pointer_is_not_aligned : data_length (bytes_in External ∷ bytes_in External ∷ []) (Some 8 ∷ Some 2000 ∷ []) (false ∷ true ∷ []) ≡ 27
a_pointer_is_not_aligned = refl

-- an int8 begins at a multiple of 8: behind 9 bytes at 16
an_int8_is_aligned_to_8 : data_length (bytes_in External ∷ id ∷ []) (Some 8 ∷ Some 8 ∷ []) (false ∷ false ∷ []) ≡ 24
an_int8_is_aligned_to_8 = refl

no_null_bitmap : header_length (Some 8 ∷ Some 8 ∷ []) ≡ 24
no_null_bitmap = refl

a_null_bitmap_of_one_byte : header_length (Some 8 ∷ None ∷ []) ≡ 24
a_null_bitmap_of_one_byte = refl

a_null_bitmap_of_two_bytes : header_length (Some 8 ∷ None ∷ None ∷ None ∷ None ∷ None ∷ None ∷ None ∷ None ∷ []) ≡ 32
a_null_bitmap_of_two_bytes = refl
