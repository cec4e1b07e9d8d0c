-- Worked rows of the definitions.
use Rattle.std.proofs.Common.{◌≡◌, ℕ, List, [], ◌∷◌, Some, None, refl}
use Rattle.std.specs.Prelude.{pos}
use Rattle.lo_base.specs.declared.refusal.Cause.TheVariants.{NoObject, ObjectExists, BadWrite, BadTruncate, Busy}
use Rattle.lo_model.specs.declared.owner.Owner.TheVariants.{Running, Committed}
use Rattle.lo_model.specs.Edit.{Deed, Create, Write, Cut, Edit}
use Rattle.xact_core.specs.Transactions.{Transactions, beginning}
use Rattle.row_versions.specs.Stands.{after_all}
use Rattle.lo_pages.specs.Content.{after_page, none_yet, after_both, after_there}
use Rattle.lo_pages.specs.Held.{clock_in, last_touching}
use Rattle.lo_pages.specs.Outcome.{create_refused, write_refused, cut_refused, drop_refused}

edit : ℕ → Deed → Edit Deed
edit clock deed = record { clock = clock; owner = Committed clock; deed = deed }

-- a write over a seam of two pages
two : List (Edit Deed)
two = edit 1 (Create 5) ∷ edit 2 (Write 5 2047 (65 ∷ 66 ∷ [])) ∷ []

second_block : after_all (after_page 5 1) None two ≡ Some (record { clock = 2; bytes = 66 ∷ [] })
unfolding two edit
second_block = refl

first_block : clock_in (after_all (after_page 5 0) None two) ≡ Some 2
unfolding two edit
first_block = refl

third_block : after_all (after_page 5 2) None two ≡ None
unfolding two edit
third_block = refl

-- a cut to a seam leaves an empty page at the page of the new end, and none above
seam : List (Edit Deed)
seam = edit 1 (Create 5) ∷ edit 2 (Write 5 4096 (65 ∷ [])) ∷ edit 3 (Cut 5 2048) ∷ []

at_seam : after_all (after_page 5 1) None seam ≡ Some (record { clock = 3; bytes = [] })
unfolding seam edit
at_seam = refl

above_seam : after_all (after_page 5 2) None seam ≡ None
unfolding seam edit
above_seam = refl

below_seam : after_all (after_page 5 0) None seam ≡ None
unfolding seam edit
below_seam = refl

-- a cut of an empty object to nothing leaves an empty page at page 0, which is a held version
emptied : List (Edit Deed)
emptied = edit 1 (Create 5) ∷ edit 2 (Cut 5 0) ∷ []

at_nothing : after_all (after_page 5 0) None emptied ≡ Some (record { clock = 2; bytes = [] })
unfolding emptied edit
at_nothing = refl

is_held : last_touching 5 0 emptied ≡ Some (edit 2 (Cut 5 0))
unfolding emptied edit
is_held = refl

-- a write where no object is would leave a page that no view may read, so that the two folds differ
stray : List (Edit Deed)
stray = edit 1 (Write 5 0 (65 ∷ [])) ∷ []

stray_page : (after_all (after_both 5 0) none_yet stray).page ≡ Some (record { clock = 1; bytes = 65 ∷ [] })
unfolding stray edit
stray_page = refl

no_stray_page : (after_all (after_there 5 0) none_yet stray).page ≡ None
unfolding stray edit
no_stray_page = refl

-- an object of which session 2 has written page 0 in its open transaction, as session 1 and session 2 find it
now : Transactions
now = record beginning { clock = 3 }

written : List (Edit Deed)
written = edit 1 (Create 5) ∷ record { clock = 2; owner = Running 2 1; deed = Write 5 0 (65 ∷ []) } ∷ []

create_of_what_is_there : create_refused now 1 5 written ≡ Some (record { cause = ObjectExists; subject = pos 5 })
unfolding now written edit
create_of_what_is_there = refl

create_of_another : create_refused now 1 6 written ≡ None
unfolding now written edit
create_of_another = refl

write_of_what_is_not_there : write_refused now 1 6 0 (65 ∷ []) written ≡ Some (record { cause = NoObject; subject = pos 6 })
unfolding now written edit
write_of_what_is_not_there = refl

write_of_a_held_page : write_refused now 1 5 2047 (65 ∷ []) written ≡ Some (record { cause = Busy; subject = pos 2 })
unfolding now written edit
write_of_a_held_page = refl

write_of_the_next_page : write_refused now 1 5 2048 (65 ∷ []) written ≡ None
unfolding now written edit
write_of_the_next_page = refl

write_of_ones_own_page : write_refused now 2 5 0 (65 ∷ []) written ≡ None
unfolding now written edit
write_of_ones_own_page = refl

write_to_the_largest_size : write_refused now 1 5 4398046509055 (65 ∷ []) written ≡ None
unfolding now written edit
write_to_the_largest_size = refl

-- session 2 has cut it, and so has all pages open
shorter : List (Edit Deed)
shorter = edit 1 (Create 5) ∷ record { clock = 2; owner = Running 2 1; deed = Cut 5 0 } ∷ []

write_behind_an_open_cut : write_refused now 1 5 900000 (65 ∷ []) shorter ≡ Some (record { cause = Busy; subject = pos 2 })
unfolding now shorter edit
write_behind_an_open_cut = refl

-- that a size is too large is told before who is busy
write_past_the_largest_size : write_refused now 1 5 4398046509055 (65 ∷ 66 ∷ []) shorter ≡ Some (record { cause = BadWrite; subject = pos 2 })
unfolding now shorter edit
write_past_the_largest_size = refl

cut_below_a_held_page : cut_refused now 1 5 0 written ≡ Some (record { cause = Busy; subject = pos 2 })
unfolding now written edit
cut_below_a_held_page = refl

cut_above_a_held_page : cut_refused now 1 5 2048 written ≡ None
unfolding now written edit
cut_above_a_held_page = refl

cut_to_the_largest_size : cut_refused now 1 5 4398046509056 written ≡ None
unfolding now written edit
cut_to_the_largest_size = refl

cut_past_the_largest_size : cut_refused now 1 5 4398046509057 written ≡ Some (record { cause = BadTruncate; subject = pos 4398046509057 })
unfolding now written edit
cut_past_the_largest_size = refl

drop_of_a_held_object : drop_refused now 1 5 written ≡ Some (record { cause = Busy; subject = pos 2 })
unfolding now written edit
drop_of_a_held_object = refl

drop_of_what_is_not_there : drop_refused now 1 6 written ≡ Some (record { cause = NoObject; subject = pos 6 })
unfolding now written edit
drop_of_what_is_not_there = refl
