-- A row looks at the session's level for that of a new descriptor or cursor alone. A request that writes opens no descriptor, and
-- the release of its own level gives a cursor that it declares to the level below.
use Rattle.std.proofs.Common.{◌≡◌, ◌≤◌, ℕ, ℤ, pos, ◌+◌, ◌-◌, Bool, true, false, List, [], ◌∷◌, ◌++◌, Option, Some, None, refl, ap, ◌∙◌, arith}
use Rattle.std.specs.Prelude.{All, ◌==◌, map, min}
use Rattle.std.proofs.lemmas.Bool.{false≢true}
use Rattle.std.proofs.lemmas.Bool.Decides.{nat_tests}
use Rattle.std.proofs.lemmas.List.{map-append}
use Rattle.std.proofs.lemmas.List.Elements.{All-filter, All-head, All-map, All-tail, All-weaker}
use Rattle.lo_base.specs.declared.reply.Reply.TheVariants.{Number}
use Rattle.lo_base.specs.declared.request.Request.{Request}
use Rattle.lo_base.specs.declared.request.Request.TheVariants.{Declare}
use Rattle.lo_calls.specs.DescriptorRows.{at_descriptor, close_row, cuts_at, open_row, read_at, read_row, seek_at, seek_row, tell_row, truncate_row, write_at, write_row}
use Rattle.lo_calls.specs.Descriptors.{described_at}
use Rattle.lo_calls.specs.ObjectRows.{create_row, get_row, put_row, unlink_row}
use Rattle.lo_calls.specs.Row as objects
use Rattle.lo_model.specs.Descriptor.{Cursor, Descriptor, cursor_released, moved_to, with_position}
use Rattle.lo_machine.specs.CallRow.{call_row, is_call, writes, sets}
use Rattle.lo_machine.specs.Row.{Here, Row, Granted, objects_here, on_objects}
use Rattle.lo_machine.specs.TableRows.{declared}
use Rattle.lo_machine.proofs.CallCases.{each_call, each_set}

-- what is read, at another level
abbrev pub at_level : (level : ℕ) → Here → Here
at_level level here = record {
  now = here.now;
  session = here.session;
  level = level;
  descriptors = here.descriptors;
  cursors = here.cursors;
  variables = here.variables;
  edits = here.edits;
  counter = here.counter;
  tables = here.tables;
  other = here.other;
}

-- two rows that differ in descriptors and cursors at most
pub record IsAlike (a b : Row) : Type 0 where
  pub refusals : a.refusals ≡ b.refusals
  pub reply : a.granted.reply ≡ b.granted.reply
  pub deeds : a.granted.deeds ≡ b.granted.deeds
  pub variables : a.granted.variables ≡ b.granted.variables
  pub counter : a.granted.counter ≡ b.granted.counter
  pub tables : a.granted.tables ≡ b.granted.tables

-- two grants on large objects that do
record AreGranted (a b : objects.Granted) : Type 0 where
  reply : a.reply ≡ b.reply
  deeds : a.deeds ≡ b.deeds
  counter : a.counter ≡ b.counter

on_both : (row : objects.Here → objects.Row) (here : Here) (level level' : ℕ) → (row (objects_here (at_level level here))).refusals ≡ (row (objects_here (at_level level' here))).refusals → AreGranted (row (objects_here (at_level level here))).granted (row (objects_here (at_level level' here))).granted → IsAlike (on_objects row (at_level level here)) (on_objects row (at_level level' here))
on_both row here level level' refusals granted = record {
  refusals = refusals;
  reply = granted.reply;
  deeds = granted.deeds;
  variables = refl;
  counter = granted.counter;
  tables = refl;
}

at_both : (here : Here) (level level' : ℕ) (f g : Descriptor → objects.Granted) → ((d : Descriptor) → AreGranted (f d) (g d)) → (o : Option Descriptor) → AreGranted (at_descriptor (objects_here (at_level level here)) f o) (at_descriptor (objects_here (at_level level' here)) g o)
at_both here level level' f g each None = record { reply = refl; deeds = refl; counter = refl }
at_both here level level' f g each (Some d) = each d

abbrev pub IsLevelFree : Request → Type 0
IsLevelFree r = (here : Here) (level level' : ℕ) → IsAlike (call_row r (at_level level here)) (call_row r (at_level level' here))

pub level_free : (r : Request) → is_call r ≡ true → IsLevelFree r
level_free = each_call IsLevelFree record {
  creat = λ mode. create_free 0 [];
  create = λ o. create_free o [];
  open' = open_free;
  close = close_free;
  read = read_free;
  write = write_free;
  seek = seek_free false;
  seek64 = seek_free true;
  tell = tell_free false;
  tell64 = tell_free true;
  truncate = truncate_free;
  truncate64 = truncate_free;
  unlink = unlink_free;
  get = get_free;
  put = put_free;
  from_bytea = create_free;
  create_table = λ name columns here level level'. record { refusals = refl; reply = refl; deeds = refl; variables = refl; counter = refl; tables = refl };
  insert = λ t values here level level'. record { refusals = refl; reply = refl; deeds = refl; variables = refl; counter = refl; tables = refl };
  update = λ t i changes here level level'. record { refusals = refl; reply = refl; deeds = refl; variables = refl; counter = refl; tables = refl };
  delete = λ t i here level level'. record { refusals = refl; reply = refl; deeds = refl; variables = refl; counter = refl; tables = refl };
  get_row = λ t i here level level'. record { refusals = refl; reply = refl; deeds = refl; variables = refl; counter = refl; tables = refl };
  ids = λ t here level level'. record { refusals = refl; reply = refl; deeds = refl; variables = refl; counter = refl; tables = refl };
  slice = λ t i column from count here level level'. record { refusals = refl; reply = refl; deeds = refl; variables = refl; counter = refl; tables = refl };
  declare = λ cursor t i here level level'. record { refusals = refl; reply = refl; deeds = refl; variables = refl; counter = refl; tables = refl };
  fetch = λ cursor column from count here level level'. record { refusals = refl; reply = refl; deeds = refl; variables = refl; counter = refl; tables = refl };
  close_cursor = λ cursor here level level'. record { refusals = refl; reply = refl; deeds = refl; variables = refl; counter = refl; tables = refl };
  rewrite = λ t storages here level level'. record { refusals = refl; reply = refl; deeds = refl; variables = refl; counter = refl; tables = refl };
  load = λ name t i column here level level'. record { refusals = refl; reply = refl; deeds = refl; variables = refl; counter = refl; tables = refl };
}
  where
    create_free : (o : ℕ) (bytes : List ℕ) (here : Here) (level level' : ℕ) → IsAlike (on_objects (create_row o bytes) (at_level level here)) (on_objects (create_row o bytes) (at_level level' here))
    create_free o bytes here level level' = on_both (create_row o bytes) here level level' refl record { reply = refl; deeds = refl; counter = refl }

    open_free : (o : ℕ) (mode : ℤ) (here : Here) (level level' : ℕ) → IsAlike (on_objects (open_row o mode) (at_level level here)) (on_objects (open_row o mode) (at_level level' here))
    open_free o mode here level level' = on_both (open_row o mode) here level level' refl record { reply = refl; deeds = refl; counter = refl }

    close_free : (fd : ℤ) (here : Here) (level level' : ℕ) → IsAlike (on_objects (close_row fd) (at_level level here)) (on_objects (close_row fd) (at_level level' here))
    close_free fd here level level' = on_both (close_row fd) here level level' refl record { reply = refl; deeds = refl; counter = refl }

    read_free : (fd count : ℤ) (here : Here) (level level' : ℕ) → IsAlike (on_objects (read_row fd count) (at_level level here)) (on_objects (read_row fd count) (at_level level' here))
    read_free fd count here level level' = on_both (read_row fd count) here level level' refl (at_both here level level' (read_at (objects_here (at_level level here)) count) (read_at (objects_here (at_level level' here)) count) (λ d. record { reply = refl; deeds = refl; counter = refl }) (described_at fd here.descriptors))

    write_free : (fd : ℤ) (bytes : List ℕ) (here : Here) (level level' : ℕ) → IsAlike (on_objects (write_row fd bytes) (at_level level here)) (on_objects (write_row fd bytes) (at_level level' here))
    write_free fd bytes here level level' = on_both (write_row fd bytes) here level level' refl (at_both here level level' (write_at (objects_here (at_level level here)) bytes) (write_at (objects_here (at_level level' here)) bytes) (λ d. record { reply = refl; deeds = refl; counter = refl }) (described_at fd here.descriptors))

    seek_free : (wide : Bool) (fd offset whence : ℤ) (here : Here) (level level' : ℕ) → IsAlike (on_objects (seek_row wide fd offset whence) (at_level level here)) (on_objects (seek_row wide fd offset whence) (at_level level' here))
    seek_free wide fd offset whence here level level' = on_both (seek_row wide fd offset whence) here level level' refl (at_both here level level' (seek_at (objects_here (at_level level here)) offset whence) (seek_at (objects_here (at_level level' here)) offset whence) (λ d. record { reply = refl; deeds = refl; counter = refl }) (described_at fd here.descriptors))

    tell_free : (wide : Bool) (fd : ℤ) (here : Here) (level level' : ℕ) → IsAlike (on_objects (tell_row wide fd) (at_level level here)) (on_objects (tell_row wide fd) (at_level level' here))
    tell_free wide fd here level level' = on_both (tell_row wide fd) here level level' refl (at_both here level level' (λ d. objects.answered (objects_here (at_level level here)) (Number (pos d.position))) (λ d. objects.answered (objects_here (at_level level' here)) (Number (pos d.position))) (λ d. record { reply = refl; deeds = refl; counter = refl }) (described_at fd here.descriptors))

    truncate_free : (fd size : ℤ) (here : Here) (level level' : ℕ) → IsAlike (on_objects (truncate_row fd size) (at_level level here)) (on_objects (truncate_row fd size) (at_level level' here))
    truncate_free fd size here level level' = on_both (truncate_row fd size) here level level' refl (at_both here level level' (λ d. objects.edited (objects_here (at_level level here)) (Number (pos 0)) (cuts_at size d)) (λ d. objects.edited (objects_here (at_level level' here)) (Number (pos 0)) (cuts_at size d)) (λ d. record { reply = refl; deeds = refl; counter = refl }) (described_at fd here.descriptors))

    unlink_free : (o : ℕ) (here : Here) (level level' : ℕ) → IsAlike (on_objects (unlink_row o) (at_level level here)) (on_objects (unlink_row o) (at_level level' here))
    unlink_free o here level level' = on_both (unlink_row o) here level level' refl record { reply = refl; deeds = refl; counter = refl }

    get_free : (o : ℕ) (from : ℤ) (count : Option ℤ) (here : Here) (level level' : ℕ) → IsAlike (on_objects (get_row o from count) (at_level level here)) (on_objects (get_row o from count) (at_level level' here))
    get_free o from count here level level' = on_both (get_row o from count) here level level' refl record { reply = refl; deeds = refl; counter = refl }

    put_free : (o : ℕ) (at : ℤ) (bytes : List ℕ) (here : Here) (level level' : ℕ) → IsAlike (on_objects (put_row o at bytes) (at_level level here)) (on_objects (put_row o at bytes) (at_level level' here))
    put_free o at bytes here level level' = on_both (put_row o at bytes) here level level' refl record { reply = refl; deeds = refl; counter = refl }

-- descriptors of no level above one

abbrev pub AreWithin : (level : ℕ) → List Descriptor → Type 0
AreWithin n ds = All (λ (d : Descriptor). d.level ≤ n) ds

moved_within : (n number p : ℕ) (ds : List Descriptor) → AreWithin n ds → AreWithin n (with_position number p ds)
moved_within n number p ds all = All-map (λ (d : Descriptor). d.level ≤ n) (moved_to number p) ds (All-weaker (λ (d : Descriptor). d.level ≤ n) (λ (d : Descriptor). (moved_to number p d).level ≤ n) by ds all)
  where
    by : (d : Descriptor) → d.level ≤ n → (moved_to number p d).level ≤ n
    by d low = test (d.number == number) refl
      where
        test : (b : Bool) → (d.number == number) ≡ b → (moved_to number p d).level ≤ n
        test true is = rw is low
        test false is = rw is low

-- a request that writes does not look at its level, and leaves descriptors of the levels that were there

abbrev pub WritesAlike : Request → Type 0
WritesAlike r = writes r ≡ true → (here : Here) (level level' : ℕ) → (call_row r (at_level level here)).granted.descriptors ≡ (call_row r (at_level level' here)).granted.descriptors

pub writes_level : (r : Request) → is_call r ≡ true → WritesAlike r
writes_level = each_call WritesAlike record {
  creat = λ mode is here level level'. refl;
  create = λ o is here level level'. refl;
  open' = λ o mode is. absurd (false≢true is);
  close = λ fd is. absurd (false≢true is);
  read = λ fd count is. absurd (false≢true is);
  write = λ fd bytes is here level level'. moved_same here level level' bytes (described_at fd here.descriptors);
  seek = λ fd offset whence is. absurd (false≢true is);
  seek64 = λ fd offset whence is. absurd (false≢true is);
  tell = λ fd is. absurd (false≢true is);
  tell64 = λ fd is. absurd (false≢true is);
  truncate = λ fd size is here level level'. cut_same here level level' size (described_at fd here.descriptors);
  truncate64 = λ fd size is here level level'. cut_same here level level' size (described_at fd here.descriptors);
  unlink = λ o is here level level'. refl;
  get = λ o from count is. absurd (false≢true is);
  put = λ o at bytes is here level level'. refl;
  from_bytea = λ o bytes is here level level'. refl;
  create_table = λ name columns is here level level'. refl;
  insert = λ t values is here level level'. refl;
  update = λ t i changes is here level level'. refl;
  delete = λ t i is here level level'. refl;
  get_row = λ t i is. absurd (false≢true is);
  ids = λ t is. absurd (false≢true is);
  slice = λ t i column from count is. absurd (false≢true is);
  declare = λ cursor t i is here level level'. refl;
  fetch = λ cursor column from count is. absurd (false≢true is);
  close_cursor = λ cursor is. absurd (false≢true is);
  rewrite = λ t storages is here level level'. refl;
  load = λ name t i column is. absurd (false≢true is);
}
  where
    moved_same : (here : Here) (level level' : ℕ) (bytes : List ℕ) (o : Option Descriptor) → (at_descriptor (objects_here (at_level level here)) (write_at (objects_here (at_level level here)) bytes) o).descriptors ≡ (at_descriptor (objects_here (at_level level' here)) (write_at (objects_here (at_level level' here)) bytes) o).descriptors
    moved_same here level level' bytes None = refl
    moved_same here level level' bytes (Some d) = refl

    cut_same : (here : Here) (level level' : ℕ) (size : ℤ) (o : Option Descriptor) → (at_descriptor (objects_here (at_level level here)) (λ d. objects.edited (objects_here (at_level level here)) (Number (pos 0)) (cuts_at size d)) o).descriptors ≡ (at_descriptor (objects_here (at_level level' here)) (λ d. objects.edited (objects_here (at_level level' here)) (Number (pos 0)) (cuts_at size d)) o).descriptors
    cut_same here level level' size None = refl
    cut_same here level level' size (Some d) = refl

abbrev pub WritesWithin : Request → Type 0
WritesWithin r = writes r ≡ true → (n : ℕ) (here : Here) → AreWithin n here.descriptors → AreWithin n (call_row r here).granted.descriptors

pub writes_within : (r : Request) → is_call r ≡ true → WritesWithin r
writes_within = each_call WritesWithin record {
  creat = λ mode is n here all. all;
  create = λ o is n here all. all;
  open' = λ o mode is. absurd (false≢true is);
  close = λ fd is. absurd (false≢true is);
  read = λ fd count is. absurd (false≢true is);
  write = λ fd bytes is n here all. moved n here bytes all (described_at fd here.descriptors);
  seek = λ fd offset whence is. absurd (false≢true is);
  seek64 = λ fd offset whence is. absurd (false≢true is);
  tell = λ fd is. absurd (false≢true is);
  tell64 = λ fd is. absurd (false≢true is);
  truncate = λ fd size is n here all. cut n here size all (described_at fd here.descriptors);
  truncate64 = λ fd size is n here all. cut n here size all (described_at fd here.descriptors);
  unlink = λ o is n here all. All-filter _ (λ (d : Descriptor). d.level ≤ n) here.descriptors all;
  get = λ o from count is. absurd (false≢true is);
  put = λ o at bytes is n here all. all;
  from_bytea = λ o bytes is n here all. all;
  create_table = λ name columns is n here all. all;
  insert = λ t values is n here all. all;
  update = λ t i changes is n here all. all;
  delete = λ t i is n here all. all;
  get_row = λ t i is. absurd (false≢true is);
  ids = λ t is. absurd (false≢true is);
  slice = λ t i column from count is. absurd (false≢true is);
  declare = λ cursor t i is n here all. all;
  fetch = λ cursor column from count is. absurd (false≢true is);
  close_cursor = λ cursor is. absurd (false≢true is);
  rewrite = λ t storages is n here all. all;
  load = λ name t i column is. absurd (false≢true is);
}
  where
    moved : (n : ℕ) (here : Here) (bytes : List ℕ) → AreWithin n here.descriptors → (o : Option Descriptor) → AreWithin n (at_descriptor (objects_here here) (write_at (objects_here here) bytes) o).descriptors
    moved n here bytes all None = all
    moved n here bytes all (Some d) = moved_within n d.number _ here.descriptors all

    cut : (n : ℕ) (here : Here) (size : ℤ) → AreWithin n here.descriptors → (o : Option Descriptor) → AreWithin n (at_descriptor (objects_here here) (λ d. objects.edited (objects_here here) (Number (pos 0)) (cuts_at size d)) o).descriptors
    cut n here size all None = all
    cut n here size all (Some d) = all

-- cursors of no level above one: the release of the level above leaves them, and gives a new cursor of its own to the level below

abbrev pub StandWithin : (level : ℕ) → List Cursor → Type 0
StandWithin n cs = All (λ (c : Cursor). c.level ≤ n) cs

pub cursors_released : (n : ℕ) (cs : List Cursor) → StandWithin n cs → map (cursor_released (n + 1)) cs ≡ cs
cursors_released n [] all = refl
cursors_released n (c ∷ cs) all =
    let low : c.level ≤ n = All-head (λ (e : Cursor). e.level ≤ n) c cs all in
    let same : min c.level (n + 1 - 1) ≡ c.level = grind (arith, nat_tests, low) in
    rw (same, cursors_released n cs (All-tail (λ (e : Cursor). e.level ≤ n) c cs all)) refl

abbrev pub ReleasesCursors : Request → Type 0
ReleasesCursors r = writes r ≡ true → (n : ℕ) (here : Here) → StandWithin n here.cursors → map (cursor_released (n + 1)) (call_row r (at_level (n + 1) here)).granted.cursors ≡ (call_row r (at_level n here)).granted.cursors

pub releases_cursors : (r : Request) → is_call r ≡ true → ReleasesCursors r
releases_cursors = each_call ReleasesCursors record {
  creat = λ mode is n here all. cursors_released n here.cursors all;
  create = λ o is n here all. cursors_released n here.cursors all;
  open' = λ o mode is. absurd (false≢true is);
  close = λ fd is. absurd (false≢true is);
  read = λ fd count is. absurd (false≢true is);
  write = λ fd bytes is n here all. cursors_released n here.cursors all;
  seek = λ fd offset whence is. absurd (false≢true is);
  seek64 = λ fd offset whence is. absurd (false≢true is);
  tell = λ fd is. absurd (false≢true is);
  tell64 = λ fd is. absurd (false≢true is);
  truncate = λ fd size is n here all. cursors_released n here.cursors all;
  truncate64 = λ fd size is n here all. cursors_released n here.cursors all;
  unlink = λ o is n here all. cursors_released n here.cursors all;
  get = λ o from count is. absurd (false≢true is);
  put = λ o at bytes is n here all. cursors_released n here.cursors all;
  from_bytea = λ o bytes is n here all. cursors_released n here.cursors all;
  create_table = λ name columns is n here all. cursors_released n here.cursors all;
  insert = λ t values is n here all. cursors_released n here.cursors all;
  update = λ t i changes is n here all. cursors_released n here.cursors all;
  delete = λ t i is n here all. cursors_released n here.cursors all;
  get_row = λ t i is. absurd (false≢true is);
  ids = λ t is. absurd (false≢true is);
  slice = λ t i column from count is. absurd (false≢true is);
  declare = declared_released;
  fetch = λ cursor column from count is. absurd (false≢true is);
  close_cursor = λ cursor is. absurd (false≢true is);
  rewrite = λ t storages is n here all. cursors_released n here.cursors all;
  load = λ name t i column is. absurd (false≢true is);
}
  where
    declared_released : (cursor t : List ℕ) (i : ℤ) → ReleasesCursors (Declare cursor t i)
    declared_released cursor t i is n here all =
        let same : min (n + 1) (n + 1 - 1) ≡ n = grind (arith, nat_tests) in
        map-append (cursor_released (n + 1)) here.cursors (declared (at_level (n + 1) here) cursor t i ∷ [])
        ∙ (ap (λ (k : ℕ). map (cursor_released (n + 1)) here.cursors ++ record { name = cursor; table = t; id = i; level = k; clock = here.now } ∷ []) same
        ∙ ap (λ (cs : List Cursor). cs ++ declared (at_level n here) cursor t i ∷ []) (cursors_released n here.cursors all))

-- one on array variables makes no edit, and leaves descriptors and cursors

pub record LeavesOthers (here : Here) (granted : Granted) : Type 0 where
  pub deeds : granted.deeds ≡ []
  pub descriptors : granted.descriptors ≡ here.descriptors
  pub cursors : granted.cursors ≡ here.cursors

abbrev pub SetsAlone : Request → Type 0
SetsAlone r = (here : Here) → LeavesOthers here (call_row r here).granted

pub sets_alone : (r : Request) → sets r ≡ true → SetsAlone r
sets_alone = each_set SetsAlone record {
  array = λ name text here. record { deeds = refl; descriptors = refl; cursors = refl };
  set = λ name sub value here. record { deeds = refl; descriptors = refl; cursors = refl };
  elem' = λ name sub here. record { deeds = refl; descriptors = refl; cursors = refl };
  show = λ name here. record { deeds = refl; descriptors = refl; cursors = refl };
}
