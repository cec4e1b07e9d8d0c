-- Worked examples of the definitions, each computed by the checker: a wrong one fails the crate.
use Rattle.std.proofs.Common.{◌≡◌, refl, ℕ, pos, true, false, List, [], ◌∷◌, ◌++◌, Some, None, replicate}
use Rattle.lo_base.specs.declared.value.Value.TheVariants.{Int}
use Rattle.lo_model.specs.declared.owner.Owner.{Owner}
use Rattle.lo_model.specs.declared.owner.Owner.TheVariants.{Running, Committed}
use Rattle.lo_model.specs.declared.viewer.Viewer.TheVariants.{Nobody, Whole, Below}
use Rattle.lo_model.specs.Clock.{clock_after}
use Rattle.lo_model.specs.Edit.{Deed, Create, Write, Cut, Unlink, Put, Delete, Edit, edits_by}
use Rattle.lo_model.specs.View.{view}
use Rattle.lo_model.specs.Object.{object_in, object_after_all}
use Rattle.lo_model.specs.Row.{row_in}
use Rattle.lo_model.specs.Stored.{stored_after_update}
use Rattle.lo_model.specs.Touch.{Pages, RowsOf, Nothing, touched, meets, busy_with}
use Rattle.lo_model.specs.Levels.{released, undone, committed, aborted}
use Rattle.lo_model.specs.Opening.{object_deeds}

abbrev made_at : ℕ → Owner → Deed → Edit Deed
made_at clock owner deed = record { clock = clock; owner = owner; deed = deed }

-- the first advance has clock 1
first_clock : clock_after 0 ≡ 1
first_clock = refl

-- Objects

-- a write past the end leaves zeros before it
write_past_the_end : object_after_all 17000 None (Create 17000 ∷ Write 17000 3 (65 ∷ []) ∷ []) ≡ Some (0 ∷ 0 ∷ 0 ∷ 65 ∷ [])
write_past_the_end = refl

-- a write inside keeps what is before and behind it
write_inside : object_after_all 5 None (Create 5 ∷ Write 5 0 (1 ∷ 2 ∷ 3 ∷ 4 ∷ []) ∷ Write 5 1 (8 ∷ 9 ∷ []) ∷ []) ≡ Some (1 ∷ 8 ∷ 9 ∷ 4 ∷ [])
write_inside = refl

-- a cut below the size and up again shows zeros, and not the old bytes
cut_down_and_up : object_after_all 5 None (Create 5 ∷ Write 5 0 (1 ∷ 2 ∷ 3 ∷ 4 ∷ []) ∷ Cut 5 2 ∷ Cut 5 4 ∷ []) ≡ Some (1 ∷ 2 ∷ 0 ∷ 0 ∷ [])
cut_down_and_up = refl

-- an object that was unlinked and created anew is empty
unlinked_and_created_anew : object_after_all 5 None (Create 5 ∷ Write 5 0 (1 ∷ []) ∷ Unlink 5 ∷ Create 5 ∷ []) ≡ Some []
unlinked_and_created_anew = refl

-- an unlink takes its object away, and no other
unlinked : object_after_all 5 None (Create 5 ∷ Create 6 ∷ Unlink 5 ∷ []) ≡ None
unlinked = refl

other_object_stays : object_after_all 6 None (Create 5 ∷ Create 6 ∷ Unlink 5 ∷ []) ≡ Some []
other_object_stays = refl

-- Views

-- an object made at clock 1, and written by session 2 at clock 4, still open
abbrev written_and_open : List (Edit Deed)
written_and_open =
    made_at 1 (Committed 1) (Create 5) ∷ made_at 2 (Committed 2) (Write 5 0 (1 ∷ [])) ∷ made_at 4 (Running 2 1) (Write 5 0 (7 ∷ [])) ∷ []

-- before its commit session 2 sees its own write
seen_by_itself : object_in 5 (view 5 (Whole 2) written_and_open) ≡ Some (7 ∷ [])
seen_by_itself = refl

-- and others do not
not_seen_by_others : object_in 5 (view 5 (Whole 3) written_and_open) ≡ Some (1 ∷ [])
not_seen_by_others = refl

not_seen_by_nobody : object_in 5 (view 5 Nobody written_and_open) ≡ Some (1 ∷ [])
not_seen_by_nobody = refl

-- after the commit at clock 6 everybody sees it from clock 7 on
seen_after_its_commit : object_in 5 (view 7 (Whole 3) (committed 2 6 written_and_open)) ≡ Some (7 ∷ [])
seen_after_its_commit = refl

-- and a view kept at clock 5 does not see that later commit
kept_view_stays : object_in 5 (view 5 (Whole 3) (committed 2 6 written_and_open)) ≡ Some (1 ∷ [])
kept_view_stays = refl

-- its own view from before the write does not have it either
own_later_edit_is_not_seen : object_in 5 (view 4 (Whole 2) written_and_open) ≡ Some (1 ∷ [])
own_later_edit_is_not_seen = refl

-- nor does a view at the very clock of the commit, though the edit was made before it
commit_of_its_own_clock_is_not_seen : object_in 5 (view 6 (Whole 3) (committed 2 6 written_and_open)) ≡ Some (1 ∷ [])
commit_of_its_own_clock_is_not_seen = refl

-- a view kept at clock 2 does not see the edit committed at clock 2 itself
own_clock_is_not_seen : object_in 5 (view 2 Nobody written_and_open) ≡ Some []
own_clock_is_not_seen = refl

-- Levels

-- session 1 wrote at level 1, and over it at level 2 after a savepoint
abbrev two_levels : List (Edit Deed)
two_levels =
    made_at 1 (Committed 1) (Create 5) ∷ made_at 3 (Running 1 1) (Write 5 0 (65 ∷ [])) ∷ made_at 5 (Running 1 2) (Write 5 0 (66 ∷ [])) ∷ []

-- the session's view below level 2 has the bytes of level 1
below_a_level : object_in 5 (view 6 (Below 1 2) two_levels) ≡ Some (65 ∷ [])
below_a_level = refl

-- the view of another session below a level has none of it
below_a_level_of_another : object_in 5 (view 6 (Below 2 9) two_levels) ≡ Some []
below_a_level_of_another = refl

-- undoing level 2 gives the parent's bytes back
undone_level : object_in 5 (view 7 (Whole 1) (undone 1 2 two_levels)) ≡ Some (65 ∷ [])
undone_level = refl

-- a release passes the edits of level 2 down to level 1, whose view below level 2 has them then
released_level : object_in 5 (view 7 (Below 1 2) (released 1 2 two_levels)) ≡ Some (66 ∷ [])
released_level = refl

-- so undoing level 1 takes them all out
released_and_undone : object_in 5 (view 8 (Whole 1) (aborted 1 (released 1 2 two_levels))) ≡ Some []
released_and_undone = refl

-- the end of another session's levels leaves them
others_are_left : undone 2 1 two_levels ≡ two_levels
others_are_left = refl

-- Conflicts

-- 2 bytes from 2047 on touch pages 0 and 1
touches_two_pages : touched (Write 5 2047 (1 ∷ 2 ∷ [])) ≡ Pages 5 0 1
touches_two_pages = refl

-- 1 byte there touches page 0 alone
touches_one_page : touched (Write 5 2047 (1 ∷ [])) ≡ Pages 5 0 0
touches_one_page = refl

touches_nothing : touched (Write 5 2047 []) ≡ Nothing
touches_nothing = refl

-- session 1 has an open write on page 0 of object 5, session 3 on page 4
abbrev open_writes : List (Edit Deed)
open_writes = made_at 3 (Running 1 1) (Write 5 0 (65 ∷ [])) ∷ made_at 4 (Running 3 2) (Write 5 8192 (66 ∷ [])) ∷ []

-- session 2 may not write into page 0, at any offset of it
same_page : busy_with 2 (touched (Write 5 2047 (67 ∷ []))) open_writes ≡ Some 1
same_page = refl

-- but into the neighbouring page, and into page 0 of another object
neighbouring_page : busy_with 2 (touched (Write 5 2048 (67 ∷ []))) open_writes ≡ None
neighbouring_page = refl

other_object : busy_with 2 (touched (Write 6 0 (67 ∷ []))) open_writes ≡ None
other_object = refl

-- session 1 itself may write there
own_page : busy_with 1 (touched (Write 5 0 (67 ∷ []))) open_writes ≡ None
own_page = refl

-- a cut conflicts with a write above it, and not with one below the page of the new end
cut_below_a_write : busy_with 2 (touched (Cut 5 2048)) open_writes ≡ Some 3
cut_below_a_write = refl

cut_above_the_writes : busy_with 2 (touched (Cut 5 10240)) open_writes ≡ None
cut_above_the_writes = refl

-- a cut in the page of a write conflicts with it
cut_in_the_page_of_a_write : busy_with 2 (touched (Cut 5 9000)) open_writes ≡ Some 3
cut_in_the_page_of_a_write = refl

-- an unlink touches the whole object, and the lowest session of several is named
unlink_touches_all : busy_with 2 (touched (Unlink 5)) open_writes ≡ Some 1
unlink_touches_all = refl

-- an object that another session has created, and not committed, is busy at every offset
created_and_open : busy_with 2 (touched (Write 7 9000 (67 ∷ []))) (made_at 3 (Running 1 1) (Create 7) ∷ []) ≡ Some 1
created_and_open = refl

-- committed edits are in nobody's way
committed_is_free : busy_with 2 (touched (Unlink 5)) (committed 1 5 (committed 3 5 open_writes)) ≡ None
committed_is_free = refl

-- a rewrite touches every row of its table
rewrite_touches_rows : meets (RowsOf (116 ∷ [])) (touched (Delete (116 ∷ []) (pos 1))) ≡ true
rewrite_touches_rows = refl

rewrite_spares_other_tables : meets (RowsOf (116 ∷ [])) (touched (Delete (117 ∷ []) (pos 1))) ≡ false
rewrite_spares_other_tables = refl

-- Rows

-- the last put of a row counts
row_put_twice : row_in (116 ∷ []) (pos 1) (edits_by 1 (Committed 1) (Put (116 ∷ []) (pos 1) (Int (pos 1) ∷ []) (None ∷ []) ∷ Put (116 ∷ []) (pos 1) (Int (pos 1) ∷ Int (pos 7) ∷ []) (None ∷ None ∷ []) ∷ []))
    ≡ Some (record { values = Int (pos 1) ∷ Int (pos 7) ∷ []; stored = None ∷ None ∷ [] })
row_put_twice = refl

-- a row that was deleted is not there, and the row of another id is
row_deleted : row_in (116 ∷ []) (pos 1) (edits_by 1 (Committed 1) (Put (116 ∷ []) (pos 1) (Int (pos 1) ∷ []) (None ∷ []) ∷ Delete (116 ∷ []) (pos 1) ∷ [])) ≡ None
row_deleted = refl

other_row_stays : row_in (116 ∷ []) (pos 1) (edits_by 1 (Committed 1) (Put (116 ∷ []) (pos 1) (Int (pos 1) ∷ []) (None ∷ []) ∷ Delete (116 ∷ []) (pos 2) ∷ []))
    ≡ Some (record { values = Int (pos 1) ∷ []; stored = None ∷ [] })
other_row_stays = refl

-- an update at clock 9: a value that moves in, one kept outside, one named that stays outside, one that moves out
updated_entries : stored_after_update 9 (false ∷ true ∷ true ∷ true ∷ []) (false ∷ false ∷ true ∷ false ∷ []) (Some 4 ∷ Some 4 ∷ Some 4 ∷ None ∷ [])
    ≡ None ∷ Some 4 ∷ Some 9 ∷ Some 9 ∷ []
updated_entries = refl

-- Openings

-- an object of 2049 zeros is a creation and a cut, since no page of it has a byte that is not 0
opened_zeros : object_deeds (record { oid = 5; bytes = replicate 2049 0 }) ≡ Create 5 ∷ Cut 5 2049 ∷ []
opened_zeros = refl

-- an object whose last page is written needs no cut
opened_end : object_deeds (record { oid = 5; bytes = replicate 2048 0 ++ (7 ∷ []) }) ≡ Create 5 ∷ Write 5 2048 (7 ∷ []) ∷ []
opened_end = refl

opened_empty : object_deeds (record { oid = 5; bytes = [] }) ≡ Create 5 ∷ []
opened_empty = refl
