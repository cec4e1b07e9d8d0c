-- Small cases of the definitions, which the checker computes.
use Rattle.std.proofs.Common.{◌≡◌, ◌-◌, ◌^◌, ℕ, List, [], ◌∷◌, true, false, Some, None, refl, lit≤}
use Rattle.lo_outside.specs.Files.{size_of, bytes_of}
use Rattle.lo_outside.specs.Faults.{Rose}
use Rattle.lo_outside.specs.FaultPlan.{Planned, no_faults, handed_over, one_more, is_due, after_call}
use Rattle.lo_outside.specs.MemFiles.{MemFolder, file_named, can_put, append_fails, appended, rename_fails}
use Rattle.lo_outside.specs.MemSink.{MemTaken, write_fails, write_count, after_write}

rises_by_one : Rose 0 1
rises_by_one = lit≤ tt

stands_at_the_last_value : Rose (2 ^ 64 - 1) (2 ^ 64 - 1)
stands_at_the_last_value = lit≤ tt

stands_still : one_more (2 ^ 64 - 1) ≡ 2 ^ 64 - 1
stands_still = refl

-- the second and the fourth call are to fail
plan : Planned
plan = handed_over (4 ∷ 2 ∷ []) no_faults

first_is_granted : is_due plan ≡ false
unfolding plan
first_is_granted = refl

second_fails : is_due (after_call false plan) ≡ true
unfolding plan
second_fails = refl

third_is_granted : is_due (after_call true (after_call false plan)) ≡ false
unfolding plan
third_is_granted = refl

one_fault : (after_call true (after_call false plan)).faults ≡ 1
unfolding plan
one_fault = refl

-- two places of four bytes, of which one holds the file `a` with the bytes `xyz`
folder : MemFolder
folder = record { files = record { name = 97 ∷ []; file = record { bytes = 120 ∷ 121 ∷ 122 ∷ []; synced = true } } ∷ []; places = 2; room = 4; plan = no_faults }

size_of_a : size_of (file_named (97 ∷ []) folder.files) ≡ Some 3
unfolding folder
size_of_a = refl

no_file_b : size_of (file_named (98 ∷ []) folder.files) ≡ None
unfolding folder
no_file_b = refl

no_bytes_of_b : bytes_of (file_named (98 ∷ []) folder.files) ≡ []
unfolding folder
no_bytes_of_b = refl

four_bytes_fit : can_put folder (98 ∷ []) (1 ∷ 2 ∷ 3 ∷ 4 ∷ []) ≡ true
unfolding folder
four_bytes_fit = refl

five_bytes_do_not : can_put folder (97 ∷ []) (1 ∷ 2 ∷ 3 ∷ 4 ∷ 5 ∷ []) ≡ false
unfolding folder
five_bytes_do_not = refl

one_byte_has_room : append_fails (97 ∷ []) (119 ∷ []) folder ≡ false
unfolding folder
one_byte_has_room = refl

one_byte_is_added : appended (97 ∷ []) (119 ∷ []) folder ≡ 120 ∷ 121 ∷ 122 ∷ 119 ∷ []
unfolding folder
one_byte_is_added = refl

two_bytes_have_none : append_fails (97 ∷ []) (118 ∷ 119 ∷ []) folder ≡ true
unfolding folder
two_bytes_have_none = refl

half_of_them_is_added : appended (97 ∷ []) (118 ∷ 119 ∷ []) folder ≡ 120 ∷ 121 ∷ 122 ∷ 118 ∷ []
unfolding folder
half_of_them_is_added = refl

nothing_to_append_to : append_fails (98 ∷ []) [] folder ≡ true
unfolding folder
nothing_to_append_to = refl

a_can_be_renamed : rename_fails (97 ∷ []) (98 ∷ []) folder ≡ false
unfolding folder
a_can_be_renamed = refl

b_cannot_be : rename_fails (98 ∷ []) (97 ∷ []) folder ≡ true
unfolding folder
b_cannot_be = refl

-- room for five bytes, two at a time
sink : List ℕ → MemTaken
sink taken = record { taken = taken; room = 5; most = 2; plan = no_faults }

two_at_a_time : (after_write (7 ∷ 8 ∷ 9 ∷ []) (sink [])).taken ≡ 7 ∷ 8 ∷ []
unfolding sink
two_at_a_time = refl

one_is_left : write_count (7 ∷ 8 ∷ 9 ∷ []) (sink (1 ∷ 2 ∷ 3 ∷ 4 ∷ [])) ≡ 1
unfolding sink
one_is_left = refl

full : write_fails (7 ∷ []) (sink (1 ∷ 2 ∷ 3 ∷ 4 ∷ 5 ∷ [])) ≡ true
unfolding sink
full = refl

nothing_fits_when_full : write_fails [] (sink (1 ∷ 2 ∷ 3 ∷ 4 ∷ 5 ∷ [])) ≡ false
unfolding sink
nothing_fits_when_full = refl
