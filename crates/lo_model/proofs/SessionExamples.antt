-- Worked examples of openings, sessions, listings, numbering, and of what is held, each computed by the checker: a wrong one
-- fails the crate.
use Rattle.std.proofs.Common.{◌≡◌, refl, ℕ, pos, negsuc, true, false, List, [], ◌∷◌, ◌++◌, Some, None, replicate, length, if◌then◌else◌, ◌==◌}
use Rattle.std.specs.Prelude.{map}
use Rattle.lo_base.specs.declared.column.Column.{Column}
use Rattle.lo_base.specs.declared.column.ColType.TheVariants as types
use Rattle.lo_base.specs.declared.column.Storage.TheVariants as storages
use Rattle.lo_base.specs.declared.value.Value.TheVariants.{Int, Bytes}
use Rattle.lo_model.specs.declared.owner.Owner.{Owner}
use Rattle.lo_model.specs.declared.owner.Owner.TheVariants.{Running, Committed}
use Rattle.lo_model.specs.declared.viewer.Viewer.TheVariants.{Nobody, Whole, Below}
use Rattle.lo_model.specs.Database.{Table}
use Rattle.lo_model.specs.Descriptor.{Reading, Kept, Current, Descriptor, Cursor, descriptor_bytes, free_number}
use Rattle.lo_model.specs.Edit.{Deed, Create, Write, Cut, Unlink, Put, Delete, Edit, edits_by}
use Rattle.lo_model.specs.Held.{PageVersion, ChunkVersion, kept_view, views_kept, versions_in, held_versions, need_of, pages_spanned}
use Rattle.lo_model.specs.Listing.{oids_in, ids_in, tables_in_order}
use Rattle.lo_model.specs.Numbering.{picked_oid}
use Rattle.lo_model.specs.Opening.{object_deeds, id_of, opened}
use Rattle.lo_model.specs.Session.{Session, idle_session, session_begun, session_saved, session_released, session_undone, lowest_open}
use Rattle.lo_model.specs.Touch.{Pages, WholeObject, RowOf, touched, meets, busy_with_any}
use Rattle.lo_model.specs.Transaction.{newest}

abbrev made_at : ℕ → Owner → Deed → Edit Deed
made_at clock owner deed = record { clock = clock; owner = owner; deed = deed }

abbrev table_t : List ℕ
table_t = 116 ∷ []

-- Touched

-- a put touches its own row: neither nothing nor all rows
put_touches_its_row : meets (touched (Put table_t (pos 1) [] [])) (RowOf table_t (pos 1)) ≡ true
put_touches_its_row = refl

put_spares_other_rows : meets (touched (Put table_t (pos 1) [] [])) (RowOf table_t (pos 2)) ≡ false
put_spares_other_rows = refl

-- a creation touches more of an object than a cut to 0 does, and meets a write on any page
creation_meets_a_write : meets (touched (Create 5)) (Pages 5 7 7) ≡ true
creation_meets_a_write = refl

creation_meets_an_unlink : meets (touched (Create 5)) (touched (Unlink 5)) ≡ true
creation_meets_an_unlink = refl

-- of several things the lowest holder of any is named
lowest_of_any : busy_with_any 9 (WholeObject 6 ∷ WholeObject 5 ∷ []) (made_at 1 (Running 2 1) (Create 5) ∷ made_at 2 (Running 4 1) (Create 6) ∷ []) ≡ Some 2
lowest_of_any = refl

-- Openings

-- two pages of which the first alone is written, and one byte of a third, so the end of the last is the size
two_pages : object_deeds (record { oid = 5; bytes = 7 ∷ (replicate 4095 0 ++ 8 ∷ []) }) ≡ Create 5 ∷ Write 5 0 (7 ∷ replicate 2047 0) ∷ Write 5 4096 (8 ∷ []) ∷ []
two_pages = refl

-- where the last page is not written the size is cut
cut_behind_the_written : object_deeds (record { oid = 5; bytes = 7 ∷ replicate 4096 0 }) ≡ Create 5 ∷ Write 5 0 (7 ∷ replicate 2047 0) ∷ Cut 5 4097 ∷ []
cut_behind_the_written = refl

id_is_the_first_value : id_of (Int (negsuc 6) ∷ Int (pos 3) ∷ []) ≡ negsuc 6
id_is_the_first_value = refl

abbrev id_column : Column
id_column = record { name = 105 ∷ 100 ∷ []; kind = types.Int8; storage = storages.Plain }

abbrev body_column : Column
body_column = record { name = 98 ∷ []; kind = types.Bytea; storage = storages.External }

-- a table with one row whose second value lies outside, and an object: edits of clock 0, committed at clock 0, and stored at 0
opened_whole : opened (λ columns row. false ∷ true ∷ []) (record { blocks = 9; counter = 16390; tables = record { name = table_t; columns = id_column ∷ body_column ∷ []; rows = (Int (pos 1) ∷ Bytes (1 ∷ []) ∷ []) ∷ [] } ∷ []; objects = record { oid = 5; bytes = 7 ∷ [] } ∷ [] })
    ≡ record {
      edits = made_at 0 (Committed 0) (Put table_t (pos 1) (Int (pos 1) ∷ Bytes (1 ∷ []) ∷ []) (None ∷ Some 0 ∷ [])) ∷ made_at 0 (Committed 0) (Create 5) ∷ made_at 0 (Committed 0) (Write 5 0 (7 ∷ [])) ∷ [];
      tables = record { name = table_t; columns = id_column ∷ body_column ∷ [] } ∷ [];
      counter = 16390;
    }
opened_whole = refl

-- Listings

abbrev some_edits : List (Edit Deed)
some_edits =
    edits_by 1 (Committed 1)
    (Create 9 ∷ Create 5 ∷ Create 7 ∷ Create 6 ∷ Unlink 7 ∷ Put table_t (pos 3) (Int (pos 3) ∷ []) (None ∷ []) ∷ Put table_t (negsuc 0) (Int (negsuc 0) ∷ []) (None ∷ []) ∷ Put table_t (pos 2) (Int (pos 2) ∷ []) (None ∷ []) ∷ Delete table_t (pos 2) ∷ Put (117 ∷ []) (pos 8) (Int (pos 8) ∷ []) (None ∷ []) ∷ Put table_t (pos 3) (Int (pos 3) ∷ []) (None ∷ []) ∷ [])

objects_ascend : oids_in some_edits ≡ 5 ∷ 6 ∷ 9 ∷ []
objects_ascend = refl

ids_ascend : ids_in table_t some_edits ≡ negsuc 0 ∷ pos 3 ∷ []
ids_ascend = refl

tables_by_name : map (λ (t : Table). t.name) (tables_in_order (record { name = 98 ∷ []; columns = [] } ∷ record { name = 97 ∷ 98 ∷ []; columns = [] } ∷ record { name = 97 ∷ []; columns = [] } ∷ [])) ≡ (97 ∷ []) ∷ (97 ∷ 98 ∷ []) ∷ (98 ∷ []) ∷ []
tables_by_name = refl

-- Numbers for new objects

-- a number that is an object, one that was created and not committed, and one whose object an open transaction unlinked
abbrev numbered : List (Edit Deed)
numbered =
    made_at 1 (Committed 1) (Create 16384) ∷ made_at 2 (Running 1 1) (Create 16385) ∷ made_at 1 (Committed 1) (Create 16386) ∷ made_at 3 (Running 2 1) (Unlink 16386)
    ∷ made_at 1 (Committed 1) (Create 16387) ∷ made_at 2 (Committed 2) (Unlink 16387) ∷ []

picked_number : picked_oid 4 16384 numbered ≡ Some 16387
picked_number = refl

picked_from_the_counter : picked_oid 4 16388 numbered ≡ Some 16388
picked_from_the_counter = refl

none_left : picked_oid 4 4294967296 numbered ≡ None
none_left = refl

the_last_number : picked_oid 4 4294967295 numbered ≡ Some 4294967295
the_last_number = refl

-- Sessions

abbrev descriptor : (number level : ℕ) → Reading → Descriptor
descriptor n l reading = record { number = n; oid = 5; position = 0; level = l; reading = reading }

abbrev cursor : (level : ℕ) → Cursor
cursor l = record { name = 99 ∷ []; table = table_t; id = pos 3; level = l; clock = 4 }

-- levels 1, 2 named a, 3 named b; a descriptor and a cursor of each
abbrev three_levels : Session
three_levels = record {
  transaction = record { levels = None ∷ Some (97 ∷ []) ∷ Some (98 ∷ []) ∷ []; failed = false };
  descriptors = descriptor 0 1 Current ∷ descriptor 1 2 Current ∷ descriptor 2 3 Current ∷ [];
  cursors = cursor 1 ∷ cursor 2 ∷ cursor 3 ∷ [];
}

-- a release of level 2 gives what is of levels 2 and 3 to level 1
released_to_level_1 : session_released 2 three_levels ≡ record {
  transaction = record { levels = None ∷ []; failed = false };
  descriptors = descriptor 0 1 Current ∷ descriptor 1 1 Current ∷ descriptor 2 1 Current ∷ [];
  cursors = cursor 1 ∷ cursor 1 ∷ cursor 1 ∷ [];
}
released_to_level_1 = refl

released_the_top : session_released 3 three_levels ≡ record {
  transaction = record { levels = None ∷ Some (97 ∷ []) ∷ []; failed = false };
  descriptors = descriptor 0 1 Current ∷ descriptor 1 2 Current ∷ descriptor 2 2 Current ∷ [];
  cursors = cursor 1 ∷ cursor 2 ∷ cursor 2 ∷ [];
}
released_the_top = refl

-- an undoing of level 2 ends them, and leaves level 2
undone_from_level_2 : session_undone 2 true three_levels ≡ record {
  transaction = record { levels = None ∷ Some (97 ∷ []) ∷ []; failed = true };
  descriptors = descriptor 0 1 Current ∷ [];
  cursors = cursor 1 ∷ [];
}
undone_from_level_2 = refl

-- a savepoint is one level more
saved_once : session_saved (97 ∷ []) session_begun ≡ record { transaction = record { levels = None ∷ Some (97 ∷ []) ∷ []; failed = false }; descriptors = []; cursors = [] }
saved_once = refl

newest_of_equal_names : newest (97 ∷ []) (None ∷ Some (97 ∷ []) ∷ Some (98 ∷ []) ∷ Some (97 ∷ []) ∷ []) ≡ Some 4
newest_of_equal_names = refl

lowest_free_number : free_number (descriptor 0 1 Current ∷ descriptor 2 1 Current ∷ descriptor 1 1 Current ∷ descriptor 4 1 Current ∷ []) ≡ 3
lowest_free_number = refl

first_free_number : free_number (descriptor 1 1 Current ∷ []) ≡ 0
first_free_number = refl

-- the lowest other session with a block, a failed one too
abbrev players : ℕ → Session
players s = if s == 3 then three_levels else if s == 7 then session_undone 1 true three_levels else idle_session

lowest_is_3 : lowest_open 1 players ≡ Some 3
lowest_is_3 = refl

lowest_other_is_7 : lowest_open 3 players ≡ Some 7
lowest_other_is_7 = refl

none_other : lowest_open 3 (λ s. if s == 3 then three_levels else idle_session) ≡ None
none_other = refl

-- a descriptor reads at the clock of its opening, or now; where its object is gone it has no bytes
abbrev written_twice : List (Edit Deed)
written_twice = made_at 1 (Committed 1) (Create 5) ∷ made_at 2 (Committed 2) (Write 5 0 (1 ∷ [])) ∷ made_at 5 (Committed 5) (Write 5 0 (2 ∷ [])) ∷ made_at 8 (Committed 8) (Unlink 5) ∷ []

reads_as_it_was : descriptor_bytes 9 1 written_twice (descriptor 0 1 (Kept 5)) ≡ 1 ∷ []
reads_as_it_was = refl

reads_as_it_is : descriptor_bytes 8 1 written_twice (descriptor 0 1 Current) ≡ 2 ∷ []
reads_as_it_is = refl

reads_nothing : descriptor_bytes 9 1 written_twice (descriptor 0 1 Current) ≡ []
reads_nothing = refl

-- What is held

-- pages of writes over each other: each page has one version, that of the last edit that touched it
abbrev pages_written : List (Edit Deed)
pages_written = made_at 1 (Committed 1) (Create 5) ∷ made_at 2 (Committed 2) (Write 5 2047 (1 ∷ 2 ∷ [])) ∷ made_at 3 (Committed 3) (Write 5 0 (3 ∷ [])) ∷ []

last_edit_of_each_page : versions_in pages_written ≡ PageVersion 5 1 2 ∷ PageVersion 5 0 3 ∷ []
last_edit_of_each_page = refl

-- a cut keeps a version of the page that the new end falls into, and none above
cut_has_its_page : versions_in (pages_written ++ made_at 4 (Committed 4) (Cut 5 1000) ∷ []) ≡ PageVersion 5 0 4 ∷ []
cut_has_its_page = refl

cut_to_a_page_s_beginning : versions_in (pages_written ++ made_at 4 (Committed 4) (Cut 5 4096) ∷ []) ≡ PageVersion 5 1 2 ∷ PageVersion 5 0 3 ∷ PageVersion 5 2 4 ∷ []
cut_to_a_page_s_beginning = refl

unlinked_has_none : versions_in (pages_written ++ made_at 4 (Committed 4) (Unlink 5) ∷ made_at 5 (Committed 5) (Create 5) ∷ []) ≡ []
unlinked_has_none = refl

-- a row's chunks: 1997 bytes are two, under the clock at which the value was moved out, also after an update that kept it
abbrev row_updated : List (Edit Deed)
row_updated =
    made_at 1 (Committed 1) (Put table_t (pos 1) (Int (pos 1) ∷ Bytes (replicate 1997 9) ∷ Bytes (9 ∷ []) ∷ []) (None ∷ Some 1 ∷ None ∷ []))
    ∷ made_at 4 (Committed 4) (Put table_t (pos 1) (Int (pos 1) ∷ Bytes (replicate 1997 9) ∷ Bytes (8 ∷ []) ∷ []) (None ∷ Some 1 ∷ None ∷ [])) ∷ []

chunks_are_kept : versions_in row_updated ≡ ChunkVersion table_t (pos 1) 1 0 1 ∷ ChunkVersion table_t (pos 1) 1 1 1 ∷ []
chunks_are_kept = refl

deleted_has_none : versions_in (row_updated ++ made_at 5 (Committed 5) (Delete table_t (pos 1)) ∷ []) ≡ []
deleted_has_none = refl

-- the kept views: nobody's, those of readers, a session's whole one and one below each level
views_of_sessions : views_kept 9 (λ s. if s == 2 then record { transaction = record { levels = None ∷ Some (97 ∷ []) ∷ []; failed = false }; descriptors = descriptor 0 1 (Kept 5) ∷ descriptor 1 1 Current ∷ []; cursors = cursor 2 ∷ [] } else idle_session)
    ≡ kept_view 9 Nobody ∷ kept_view 5 (Whole 2) ∷ kept_view 4 (Whole 2) ∷ kept_view 9 (Whole 2) ∷ kept_view 9 (Below 2 1) ∷ kept_view 9 (Below 2 2) ∷ []
views_of_sessions = refl

-- a version that several views have is one, and so one page with a newer open version holds two
abbrev held_by_both : List (Edit Deed)
held_by_both = made_at 1 (Committed 1) (Create 5) ∷ made_at 2 (Committed 2) (Write 5 0 (1 ∷ [])) ∷ made_at 4 (Running 2 1) (Write 5 0 (2 ∷ [])) ∷ []

held_once_each : length (held_versions 5 (λ s. if s == 2 then session_begun else idle_session) held_by_both) ≡ 2
held_once_each = refl

held_by_nobody_else : held_versions 5 (λ s. idle_session) held_by_both ≡ PageVersion 5 0 2 ∷ []
held_by_nobody_else = refl

-- what requests need
need_of_a_write : need_of 9 (Create 5 ∷ Write 5 2047 (1 ∷ 2 ∷ []) ∷ []) ≡ 2
need_of_a_write = refl

need_of_a_cut : need_of 9 (Cut 5 0 ∷ []) ≡ 1
need_of_a_cut = refl

need_of_a_row : need_of 9 (Put table_t (pos 1) (Int (pos 1) ∷ Bytes (replicate 1997 9) ∷ Bytes (replicate 1996 9) ∷ []) (None ∷ Some 9 ∷ Some 4 ∷ []) ∷ []) ≡ 2
need_of_a_row = refl

spans_of_pages : pages_spanned 2047 1 ≡ 1
spans_of_pages = refl

spans_of_three : pages_spanned 2047 2050 ≡ 3
spans_of_three = refl
