-- A row answers alike where it sees the present clock and where it does not, since no edit was made at that clock.
use Rattle.std.proofs.Common.{◌≡◌, ℕ, zero, suc, ℤ, pos, negsuc, ◌+◌, Bool, true, false, List, [], ◌∷◌, ◌++◌, Option, Some, None, length, refl, ap, sym, subst, ◌∙◌}
use Rattle.std.specs.Prelude.{◌-◌, ◌||◌, All, filter, not, ◌==◌, option_map, if◌then◌else◌}
use Rattle.std.specs.List.{find}
use Rattle.std.proofs.lemmas.List.{map-append, length-map}
use Rattle.std.proofs.lemmas.List.Elements.{All-head, All-tail}
use Rattle.std.specs.Option.{IfSome}
use Rattle.lo_calls.specs.DescriptorRows.{may_write, open_row, close_row, read_row, write_row, seek_row, tell_row, truncate_row, bytes_at}
use Rattle.lo_calls.specs.Descriptors.{described_at}
use Rattle.lo_calls.specs.ObjectRows.{create_row, unlink_row, get_row, put_row, picked, number_for, writes}
use Rattle.lo_calls.specs.Row.{Here, Row, view_of}
use Rattle.lo_calls.specs.Terms.{when, no_oids, busy_for, count_of}
use Rattle.lo_base.specs.declared.refusal.Cause.TheVariants.{ObjectExists}
use Rattle.lo_base.specs.declared.refusal.Refusal.{Refusal}
use Rattle.lo_model.specs.Listing.{has_object}
use Rattle.lo_model.specs.declared.viewer.Viewer.TheVariants.{Nobody, Whole}
use Rattle.lo_model.specs.Descriptor.{Reading, Kept, Current, Descriptor, free_number, free_number_from, is_number_taken, with_position, moved_to, is_current}
use Rattle.lo_model.specs.Edit.{Deed, Create, Edit}
use Rattle.lo_model.specs.Numbering.{picked_oid, may_be_picked, least_from, oid_end}
use Rattle.lo_model.specs.View.{view}
use Rattle.lo_machine.specs.Alike.{SeesNone, ReadsNone, AreAlike, IsSameRow}
use Rattle.lo_machine.specs.Later.{later, later_reading, all_later}
use Rattle.lo_machine.proofs.ObjectDeeds.{AreOfObjects, close_deeds, create_deeds, get_deeds, open_deeds, put_deeds, read_deeds, seek_deeds, tell_deeds, truncate_deeds, unlink_deeds, write_deeds}

-- descriptors of later views

found_later : (test : ℕ → Bool) (ds : List Descriptor) → find (λ (d : Descriptor). test d.number) (all_later ds) ≡ option_map later (find (λ (d : Descriptor). test d.number) ds)
found_later test [] = refl
found_later test (d ∷ ds) = by (test d.number) refl (found_later test ds)
  where
    by : (b : Bool) → test d.number ≡ b → find (λ (e : Descriptor). test e.number) (all_later ds) ≡ option_map later (find (λ (e : Descriptor). test e.number) ds) → find (λ (e : Descriptor). test e.number) (all_later (d ∷ ds)) ≡ option_map later (find (λ (e : Descriptor). test e.number) (d ∷ ds))
    by true is rest = rw is refl
    by false is rest = rw is rest

pub at_later : (fd : ℤ) (ds : List Descriptor) → described_at fd (all_later ds) ≡ option_map later (described_at fd ds)
at_later (pos n) ds = found_later (λ m. m == n) ds
at_later (negsuc n) ds = refl

taken_later : (ds : List Descriptor) (n : ℕ) → is_number_taken (all_later ds) n ≡ is_number_taken ds n
taken_later [] n = refl
taken_later (d ∷ ds) n = ap (λ (b : Bool). (d.number == n) || b) (taken_later ds n)

free_later : (count from : ℕ) (ds : List Descriptor) → free_number_from count from (all_later ds) ≡ free_number_from count from ds
free_later zero from ds = refl
free_later (suc more) from ds = rw (taken_later ds from) (ap (λ (n : ℕ). if is_number_taken ds from then n else from) (free_later more (from + 1) ds))

pub number_later : (ds : List Descriptor) → free_number (all_later ds) ≡ free_number ds
number_later ds = rw (length-map ds later) (free_later (length ds) 0 ds)

moved_later : (n p : ℕ) (d : Descriptor) → moved_to n p (later d) ≡ later (moved_to n p d)
moved_later n p d = by (d.number == n) refl
  where
    by : (b : Bool) → (d.number == n) ≡ b → moved_to n p (later d) ≡ later (moved_to n p d)
    by true is = rw is refl
    by false is = rw is refl

pub position_later : (n p : ℕ) (ds : List Descriptor) → with_position n p (all_later ds) ≡ all_later (with_position n p ds)
position_later n p [] = refl
position_later n p (d ∷ ds) = rw (moved_later n p d, position_later n p ds) refl

-- a test that does not look at what is read leaves the same
pub filter_later : (test : Descriptor → Bool) → ((d : Descriptor) → test (later d) ≡ test d) → (ds : List Descriptor) → filter test (all_later ds) ≡ all_later (filter test ds)
filter_later test same [] = refl
filter_later test same (d ∷ ds) = by (test d) refl (filter_later test same ds)
  where
    by : (b : Bool) → test d ≡ b → filter test (all_later ds) ≡ all_later (filter test ds) → filter test (all_later (d ∷ ds)) ≡ all_later (filter test (d ∷ ds))
    by true is rest = rw (same d, is) (ap (λ (left : List Descriptor). later d ∷ left) rest)
    by false is rest = rw (same d, is) rest

-- what holds of all holds of the one that is found
found_all : (P : Descriptor → Type 0) (test : ℕ → Bool) (ds : List Descriptor) → All P ds → IfSome (find (λ (d : Descriptor). test d.number) ds) P
found_all P test [] all = tt
found_all P test (d ∷ ds) all = by (test d.number) refl (found_all P test ds (All-tail P d ds all))
  where
    by : (b : Bool) → test d.number ≡ b → IfSome (find (λ (e : Descriptor). test e.number) ds) P → IfSome (find (λ (e : Descriptor). test e.number) (d ∷ ds)) P
    by true is rest = rw is (All-head P d ds all)
    by false is rest = rw is rest

at_all : (P : Descriptor → Type 0) (fd : ℤ) (ds : List Descriptor) → All P ds → IfSome (described_at fd ds) P
at_all P (pos n) ds all = found_all P (λ m. m == n) ds all
at_all P (negsuc n) ds all = tt

current_later : (r : Reading) → is_current (later_reading r) ≡ is_current r
current_later (Kept c) = refl
current_later Current = refl

-- the number that is picked

least_same : (b : Bool) (more from : ℕ) (test test' : ℕ → Bool) → ((n : ℕ) → test n ≡ test' n) → least_from b more from test ≡ least_from b more from test'
least_same true more from test test' same = refl
least_same false zero from test test' same = refl
least_same false (suc more) from test test' same = rw (same (from + 1)) (least_same (test' (from + 1)) more (from + 1) test test' same)

picked_same : (n counter : ℕ) (es : List (Edit Deed)) → SeesNone es n → picked_oid (n + 1) counter es ≡ picked_oid n counter es
picked_same n counter es views =
    ap (λ (b : Bool). least_from b (oid_end - counter) counter (may_be_picked (n + 1) es)) (free counter)
    ∙ least_same (may_be_picked n es counter) (oid_end - counter) counter (may_be_picked (n + 1) es) (may_be_picked n es) free
  where
    free : (o : ℕ) → may_be_picked (n + 1) es o ≡ may_be_picked n es o
    free o = rw (views Nobody) refl

module _ (n s l l' counter : ℕ) (ds : List Descriptor) (es : List (Edit Deed)) (views : SeesNone es n) (kept : All (λ (d : Descriptor). ReadsNone es d.reading) ds) where
  abbrev here : Here
  here = record { now = n; session = s; level = l; descriptors = ds; edits = es; counter = counter }

  abbrev above : Here
  above = record { now = n + 1; session = s; level = l'; descriptors = all_later ds; edits = es; counter = counter }

  view_same : view (n + 1) (Whole s) es ≡ view n (Whole s) es
  view_same = views (Whole s)

  reads_same : (d : Descriptor) → ReadsNone es d.reading → bytes_at above (later d) ≡ bytes_at here d
  reads_same d none = by d.reading none
    where
      by : (r : Reading) → ReadsNone es r → bytes_at above (later (record { number = d.number; oid = d.oid; position = d.position; level = d.level; reading = r })) ≡ bytes_at here (record { number = d.number; oid = d.oid; position = d.position; level = d.level; reading = r })
      by (Kept c) none' = rw (none' (Whole s)) refl
      by Current none' = rw view_same refl

  abbrev create_terms : (o : ℕ) (bytes : List ℕ) → Option ℕ → (number : ℕ) → List (Edit Deed) → List (Option Refusal)
  create_terms o bytes p m v =
      (if o == 0 then no_oids p else None)
      ∷ when (has_object v m) ObjectExists (pos m)
      ∷ busy_for here (Create m ∷ writes m 0 bytes)
      ∷ []

  create : (o : ℕ) (bytes : List ℕ) → IsSameRow (create_row o bytes) above here
  create o bytes =
      let pick = picked_same n counter es views in
      let number : number_for above o ≡ number_for here o = rw pick refl in
      record {
        refusals =
            ap (λ (p : Option ℕ). create_terms o bytes p (number_for above o) (view_of above)) pick
            ∙ (ap (λ (m : ℕ). create_terms o bytes (picked here) m (view_of above)) number
            ∙ ap (create_terms o bytes (picked here) (number_for here o)) view_same);
        reply = rw pick refl;
        deeds = rw number refl;
        counter = rw pick refl;
        descriptors = λ same. refl;
      }

  unlink : (o : ℕ) → IsSameRow (unlink_row o) above here
  unlink o = record {
    refusals = rw view_same refl;
    reply = refl;
    deeds = refl;
    counter = refl;
    descriptors = λ same. filter_later (λ (d : Descriptor). not (d.oid == o)) (λ d. refl) ds;
  }

  get : (o : ℕ) (from : ℤ) (length' : Option ℤ) → IsSameRow (get_row o from length') above here
  get o from length' = record { refusals = rw view_same refl; reply = rw view_same refl; deeds = refl; counter = refl; descriptors = λ same. refl }

  put : (o : ℕ) (at : ℤ) (bytes : List ℕ) → IsSameRow (put_row o at bytes) above here
  put o at bytes = record { refusals = rw view_same refl; reply = refl; deeds = refl; counter = refl; descriptors = λ same. refl }

  open' : (o : ℕ) (mode : ℤ) → IsSameRow (open_row o mode) above here
  open' o mode = record {
    refusals = rw (view_same, length-map ds later) refl;
    reply = rw (number_later ds) refl;
    deeds = refl;
    counter = refl;
    descriptors = λ same. rw (number_later ds, same) (opened (may_write mode));
  }
    where
      opened : (b : Bool) → all_later ds ++ record { number = free_number ds; oid = o; position = 0; level = l; reading = if b then Current else Kept (n + 1) } ∷ [] ≡ all_later (ds ++ record { number = free_number ds; oid = o; position = 0; level = l; reading = if b then Current else Kept n } ∷ [])
      opened true = sym (map-append later ds _)
      opened false = sym (map-append later ds _)

  abbrev Quiet : Option Descriptor → Type 0
  Quiet o = IfSome o (λ d. ReadsNone es d.reading)

  close : (fd : ℤ) → IsSameRow (close_row fd) above here
  close fd = by (described_at fd ds) refl
    where
      by : (o : Option Descriptor) → described_at fd ds ≡ o → IsSameRow (close_row fd) above here
      by None is = record { refusals = rw (at_later fd ds, is) refl; reply = refl; deeds = refl; counter = refl; descriptors = λ same. filter_later (λ (d : Descriptor). not (d.number == count_of fd)) (λ d. refl) ds }
      by (Some d) is = record { refusals = rw (at_later fd ds, is) refl; reply = refl; deeds = refl; counter = refl; descriptors = λ same. filter_later (λ (d : Descriptor). not (d.number == count_of fd)) (λ d. refl) ds }

  read : (fd length' : ℤ) → IsSameRow (read_row fd length') above here
  read fd length' = by (described_at fd ds) refl (at_all (λ (d : Descriptor). ReadsNone es d.reading) fd ds kept)
    where
      by : (o : Option Descriptor) → described_at fd ds ≡ o → Quiet o → IsSameRow (read_row fd length') above here
      by None is none = record { refusals = rw (at_later fd ds, is) refl; reply = rw (at_later fd ds, is) refl; deeds = rw (at_later fd ds, is) refl; counter = rw (at_later fd ds, is) refl; descriptors = λ same. rw (at_later fd ds, is) refl }
      by (Some d) is none =
          let bytes = reads_same d none in
          record { refusals = rw (at_later fd ds, is, bytes) refl; reply = rw (at_later fd ds, is, bytes) refl; deeds = rw (at_later fd ds, is) refl; counter = rw (at_later fd ds, is) refl; descriptors = λ same. rw (at_later fd ds, is, bytes) (position_later d.number _ ds) }

  write : (fd : ℤ) (bytes : List ℕ) → IsSameRow (write_row fd bytes) above here
  write fd bytes = by (described_at fd ds) refl
    where
      by : (o : Option Descriptor) → described_at fd ds ≡ o → IsSameRow (write_row fd bytes) above here
      by None is = record { refusals = rw (at_later fd ds, is) refl; reply = rw (at_later fd ds, is) refl; deeds = rw (at_later fd ds, is) refl; counter = rw (at_later fd ds, is) refl; descriptors = λ same. rw (at_later fd ds, is) refl }
      by (Some d) is = record { refusals = rw (at_later fd ds, is, view_same, current_later d.reading) refl; reply = rw (at_later fd ds, is) refl; deeds = rw (at_later fd ds, is) refl; counter = rw (at_later fd ds, is) refl; descriptors = λ same. rw (at_later fd ds, is) (position_later d.number _ ds) }

  seek : (wide : Bool) (fd offset whence : ℤ) → IsSameRow (seek_row wide fd offset whence) above here
  seek wide fd offset whence = by (described_at fd ds) refl (at_all (λ (d : Descriptor). ReadsNone es d.reading) fd ds kept)
    where
      by : (o : Option Descriptor) → described_at fd ds ≡ o → Quiet o → IsSameRow (seek_row wide fd offset whence) above here
      by None is none = record { refusals = rw (at_later fd ds, is) refl; reply = rw (at_later fd ds, is) refl; deeds = rw (at_later fd ds, is) refl; counter = rw (at_later fd ds, is) refl; descriptors = λ same. rw (at_later fd ds, is) refl }
      by (Some d) is none =
          let bytes = reads_same d none in
          record { refusals = rw (at_later fd ds, is, bytes) refl; reply = rw (at_later fd ds, is, bytes) refl; deeds = rw (at_later fd ds, is) refl; counter = rw (at_later fd ds, is) refl; descriptors = λ same. rw (at_later fd ds, is, bytes) (position_later d.number _ ds) }

  tell : (wide : Bool) (fd : ℤ) → IsSameRow (tell_row wide fd) above here
  tell wide fd = by (described_at fd ds) refl
    where
      by : (o : Option Descriptor) → described_at fd ds ≡ o → IsSameRow (tell_row wide fd) above here
      by None is = record { refusals = rw (at_later fd ds, is) refl; reply = rw (at_later fd ds, is) refl; deeds = rw (at_later fd ds, is) refl; counter = rw (at_later fd ds, is) refl; descriptors = λ same. rw (at_later fd ds, is) refl }
      by (Some d) is = record { refusals = rw (at_later fd ds, is) refl; reply = rw (at_later fd ds, is) refl; deeds = rw (at_later fd ds, is) refl; counter = rw (at_later fd ds, is) refl; descriptors = λ same. rw (at_later fd ds, is) refl }

  truncate : (fd size : ℤ) → IsSameRow (truncate_row fd size) above here
  truncate fd size = by (described_at fd ds) refl
    where
      by : (o : Option Descriptor) → described_at fd ds ≡ o → IsSameRow (truncate_row fd size) above here
      by None is = record { refusals = rw (at_later fd ds, is) refl; reply = rw (at_later fd ds, is) refl; deeds = rw (at_later fd ds, is) refl; counter = rw (at_later fd ds, is) refl; descriptors = λ same. rw (at_later fd ds, is) refl }
      by (Some d) is = record { refusals = rw (at_later fd ds, is, view_same, current_later d.reading) refl; reply = rw (at_later fd ds, is) refl; deeds = rw (at_later fd ds, is) refl; counter = rw (at_later fd ds, is) refl; descriptors = λ same. rw (at_later fd ds, is) refl }

-- a row that answers alike, and whose edits are of objects
pub record IsObjectsRow (row : Here → Row) : Type 0 where
  pub alike : (above here : Here) → AreAlike above here → IsSameRow row above here
  pub deeds : (here : Here) → AreOfObjects (row here).granted.deeds

-- what a server reads answers as what a state has
alike_by : (row : Here → Row) → ((n s l l' counter : ℕ) (ds : List Descriptor) (es : List (Edit Deed)) (views : SeesNone es n) (kept : All (λ (d : Descriptor). ReadsNone es d.reading) ds) → IsSameRow row (record { now = n + 1; session = s; level = l'; descriptors = all_later ds; edits = es; counter = counter }) (record { now = n; session = s; level = l; descriptors = ds; edits = es; counter = counter })) → (above here : Here) → AreAlike above here → IsSameRow row above here
alike_by row same above here alike =
    subst (λ (h : Here). IsSameRow row h here) (sym (built above here alike)) (same here.now here.session here.level above.level here.counter here.descriptors here.edits alike.views alike.kept)
  where
    built : (a h : Here) → AreAlike a h → a ≡ record { now = h.now + 1; session = h.session; level = a.level; descriptors = all_later h.descriptors; edits = h.edits; counter = h.counter }
    built a h alike = rw (← alike.now, ← alike.session, ← alike.descriptors, ← alike.edits, ← alike.counter) refl

pub create_alike : (o : ℕ) (bytes : List ℕ) → IsObjectsRow (create_row o bytes)
create_alike o bytes = record { alike = alike_by (create_row o bytes) (λ n s l l' counter ds es views kept. create n s l l' counter ds es views kept o bytes); deeds = λ here. create_deeds here o bytes }

pub unlink_alike : (o : ℕ) → IsObjectsRow (unlink_row o)
unlink_alike o = record { alike = alike_by (unlink_row o) (λ n s l l' counter ds es views kept. unlink n s l l' counter ds es views kept o); deeds = λ here. unlink_deeds here o }

pub get_alike : (o : ℕ) (from : ℤ) (count : Option ℤ) → IsObjectsRow (get_row o from count)
get_alike o from count = record { alike = alike_by (get_row o from count) (λ n s l l' counter ds es views kept. get n s l l' counter ds es views kept o from count); deeds = λ here. get_deeds here o from count }

pub put_alike : (o : ℕ) (at : ℤ) (bytes : List ℕ) → IsObjectsRow (put_row o at bytes)
put_alike o at bytes = record { alike = alike_by (put_row o at bytes) (λ n s l l' counter ds es views kept. put n s l l' counter ds es views kept o at bytes); deeds = λ here. put_deeds here o at bytes }

pub open_alike : (o : ℕ) (mode : ℤ) → IsObjectsRow (open_row o mode)
open_alike o mode = record { alike = alike_by (open_row o mode) (λ n s l l' counter ds es views kept. open' n s l l' counter ds es views kept o mode); deeds = λ here. open_deeds here o mode }

pub close_alike : (fd : ℤ) → IsObjectsRow (close_row fd)
close_alike fd = record { alike = alike_by (close_row fd) (λ n s l l' counter ds es views kept. close n s l l' counter ds es views kept fd); deeds = λ here. close_deeds here fd }

pub read_alike : (fd count : ℤ) → IsObjectsRow (read_row fd count)
read_alike fd count = record { alike = alike_by (read_row fd count) (λ n s l l' counter ds es views kept. read n s l l' counter ds es views kept fd count); deeds = λ here. read_deeds here fd count }

pub write_alike : (fd : ℤ) (bytes : List ℕ) → IsObjectsRow (write_row fd bytes)
write_alike fd bytes = record { alike = alike_by (write_row fd bytes) (λ n s l l' counter ds es views kept. write n s l l' counter ds es views kept fd bytes); deeds = λ here. write_deeds here fd bytes }

pub seek_alike : (wide : Bool) (fd offset whence : ℤ) → IsObjectsRow (seek_row wide fd offset whence)
seek_alike wide fd offset whence = record { alike = alike_by (seek_row wide fd offset whence) (λ n s l l' counter ds es views kept. seek n s l l' counter ds es views kept wide fd offset whence); deeds = λ here. seek_deeds here wide fd offset whence }

pub tell_alike : (wide : Bool) (fd : ℤ) → IsObjectsRow (tell_row wide fd)
tell_alike wide fd = record { alike = alike_by (tell_row wide fd) (λ n s l l' counter ds es views kept. tell n s l l' counter ds es views kept wide fd); deeds = λ here. tell_deeds here wide fd }

pub truncate_alike : (fd size : ℤ) → IsObjectsRow (truncate_row fd size)
truncate_alike fd size = record { alike = alike_by (truncate_row fd size) (λ n s l l' counter ds es views kept. truncate n s l l' counter ds es views kept fd size); deeds = λ here. truncate_deeds here fd size }
