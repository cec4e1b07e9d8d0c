-- What each changing call does to the three stores, and the searches in them for other sessions.
use Rattle.std.specs.Prelude.{◌≡◌, ◌≢◌, ◌≤◌, ◌<◌, ◌+◌, ◌-◌, ◌*◌, ◌/◌, ℕ, zero, suc, Bool, true, false, ◌==◌, ◌||◌, List, [], ◌∷◌, ◌++◌, length, filter, Option, Some, None, ◌⊎◌}
use Rattle.lo_model.specs.declared.viewer.Viewer.{Viewer}
use Rattle.lo_model.specs.declared.viewer.Viewer.TheVariants.{Whole}
use Rattle.lo_model.specs.Edit.{Deed, Create, Write, Cut, Unlink, Put, Delete, Edit}
use Rattle.lo_model.specs.Touch.{Touched, Part, Page, Object, RowAt, covers, touched, meets, lower_of, busy_with}
use Rattle.xact_core.specs.declared.snapshot.Snapshot.{Snapshot}
use Rattle.xact_core.specs.Kept.{view_at}
use Rattle.xact_core.specs.Transactions.{Transactions, levels_of}
use Rattle.xact_core.specs.Kept.{HoldsWholeViews}
use Rattle.row_versions.specs.Vacuum.{any_open}
use Rattle.row_versions.specs.Stands.{Version, standing, IsNew, made_now, lowest_other}
use Rattle.lo_model.specs.Object.{at_size, laid_over}
use Rattle.lo_pages.specs.Content.{Content, bytes_of, piece_of, is_written, touches_page, touches_object, cuts_at, after_page, after_head}
use Rattle.lo_pages.specs.Object.{IsProper}
use Rattle.lo_pages.specs.Stores.{Stores, PagesStand, there, no_value, head_at, page_at, cut_open}

-- the current view of a session, as it will see what it makes now
abbrev pub own : Transactions → (session : ℕ) → Snapshot
own x s = view_at (x.clock + 1) (Whole s)

-- A session puts one version at a key, which gives a value.
pub record PutsOne {D S : Type 0} (x : Transactions) (s : ℕ) (value : ℕ → D → S) (want : S) (old new : List (Version D)) : Type 0 where
  pub put : Version D
  pub is_new : IsNew x s put
  pub gives : value x.clock put.deed ≡ want
  pub is : new ≡ old ++ put ∷ []

-- Nothing is put, since what is found there is what is wanted.
pub record Leaves {D S : Type 0} (found want : S) (old new : List (Version D)) : Type 0 where
  pub stays : found ≡ want
  pub is : new ≡ old

-- a put, or where it need not be one, nothing
abbrev pub Next : {D S : Type 0} → (must : Bool) → Transactions → (session : ℕ) → (value : ℕ → D → S) → (found want : S) → (old new : List (Version D)) → Type 0
Next true x s value found want old new = PutsOne x s value want old new
Next false x s value found want old new = PutsOne x s value want old new ⊎ Leaves found want old new

-- whether each touched page must get a version of a page: a cut, a creation and an unlinking are told by other keys
abbrev pub is_write : Deed → Bool
is_write (Create p) = false
is_write (Write p at new) = true
is_write (Cut p n) = false
is_write (Unlink p) = false
is_write (Put table id values stored) = false
is_write (Delete table id) = false

-- whether a deed is done in an object that has to be there
abbrev pub is_inside : (oid : ℕ) → Deed → Bool
is_inside o (Create p) = false
is_inside o (Write p at new) = p == o
is_inside o (Cut p n) = p == o
is_inside o (Unlink p) = false
is_inside o (Put table id values stored) = false
is_inside o (Delete table id) = false

-- What a changing call does to the three stores, in words of the stores alone.
pub record Makes {P : Type 0} (value : ℕ → P → Option Content) (x : Transactions) (s : ℕ) (deed : Deed) (old new : Stores P) : Type 0 where
  pub number : 1 ≤ s
  pub some : 0 < length (levels_of x s)
  pub whole : HoldsWholeViews x
  pub proper : IsProper deed
  pub inside : (o : ℕ) → is_inside o deed ≡ true → head_at x (own x s) old o ≡ true
  pub objects : (o : ℕ) → touches_object o deed ≡ true → PutsOne x s there (after_head o (head_at x (own x s) old o) x.clock deed) (old.objects o) (new.objects o)
  pub other_objects : (o : ℕ) → touches_object o deed ≡ false → new.objects o ≡ old.objects o
  pub pages : (o b : ℕ) → touches_page o b deed ≡ true → Next (is_write deed) x s value (page_at value x (own x s) old o b) (after_page o b (page_at value x (own x s) old o b) x.clock deed) (old.pages o b) (new.pages o b)
  pub other_pages : (o b : ℕ) → touches_page o b deed ≡ false → new.pages o b ≡ old.pages o b
  pub cuts : (o b : ℕ) → cuts_at o b deed ≡ true → PutsOne x s no_value tt (old.cuts o b) (new.cuts o b)
  pub other_cuts : (o b : ℕ) → cuts_at o b deed ≡ false → new.cuts o b ≡ old.cuts o b

-- The three searches for another session's open versions: of an object, of its pages in a span, of its cuts below a number.

abbrev pub pages_open : {P : Type 0} → Viewer → Transactions → Stores P → (oid first count : ℕ) → Bool
pages_open viewer x stores o first zero = false
pages_open viewer x stores o first (suc n) = any_open viewer (standing x (stores.pages o first)) || pages_open viewer x stores o (first + 1) n

abbrev pub searched : {P : Type 0} → Viewer → Transactions → Stores P → (oid first count cuts : ℕ) → Bool
searched viewer x stores o first count cuts = any_open viewer (standing x (stores.objects o)) || (pages_open viewer x stores o first count || cut_open viewer x stores o cuts)

abbrev pub pages_lowest : {P : Type 0} → (session : ℕ) → Transactions → Stores P → (oid first count : ℕ) → Option ℕ
pages_lowest s x stores o first zero = None
pages_lowest s x stores o first (suc n) = lower_of (lowest_other s (standing x (stores.pages o first))) (pages_lowest s x stores o (first + 1) n)

abbrev pub cuts_lowest : {P : Type 0} → (session : ℕ) → Transactions → Stores P → (oid count : ℕ) → Option ℕ
cuts_lowest s x stores o zero = None
cuts_lowest s x stores o (suc n) = lower_of (cuts_lowest s x stores o n) (lowest_other s (standing x (stores.cuts o n)))

-- the lowest session that the three searches find
abbrev pub search : {P : Type 0} → (session : ℕ) → Transactions → Stores P → (oid first count cuts : ℕ) → Option ℕ
search s x stores o first count cuts = lower_of (lowest_other s (standing x (stores.objects o))) (lower_of (pages_lowest s x stores o first count) (cuts_lowest s x stores o cuts))

-- The edits that a request would meet.
abbrev pub meeting : Touched → List (Edit Deed) → List (Edit Deed)
meeting wanted ys = filter (λ (e : Edit Deed). meets wanted (touched e.deed)) ys

pub record NothingAbove {P : Type 0} (stores : Stores P) (o last : ℕ) : Type 0 where
  pub pages : (b : ℕ) → last < b → stores.pages o b ≡ []
  pub cuts : (b : ℕ) → last < b → stores.cuts o b ≡ []

abbrev pub IsFrom : (oid first : ℕ) → Part → Type 0
IsFrom o first (Page p b) = (p ≡ o) × (first ≤ b)
IsFrom o first (Object p) = p ≡ o
IsFrom o first (RowAt table id) = ⊥

-- What a request would touch is the pages of an object from a first to a last one, or to where nothing is kept above.
pub record Spans {P : Type 0} (stores : Stores P) (wanted : Touched) (o first last : ℕ) : Type 0 where
  pub order : first ≤ last
  pub within : (b : ℕ) → first ≤ b → b ≤ last → covers wanted (Page o b) ≡ true
  pub from : (part : Part) → covers wanted part ≡ true → IsFrom o first part
  pub above : (b : ℕ) → last < b → covers wanted (Page o b) ≡ true → NothingAbove stores o last

-- What the body of each changing call does, object by object and page by page.

-- who makes an edit now
pub record IsMaker (x : Transactions) (s : ℕ) : Type 0 where
  pub number : 1 ≤ s
  pub some : 0 < length (levels_of x s)
  pub whole : HoldsWholeViews x

-- nothing changes at other objects
pub record OtherObjects {P : Type 0} (o : ℕ) (old new : Stores P) : Type 0 where
  pub objects : (p : ℕ) → p ≢ o → new.objects p ≡ old.objects p
  pub pages : (p b : ℕ) → p ≢ o → new.pages p b ≡ old.pages p b
  pub cuts : (p b : ℕ) → p ≢ o → new.cuts p b ≡ old.cuts p b

-- create: one version of the object, and no page
pub record Creates {P : Type 0} (x : Transactions) (s o : ℕ) (old new : Stores P) : Type 0 where
  pub absent : head_at x (own x s) old o ≡ false
  pub object : PutsOne x s there true (old.objects o) (new.objects o)
  pub pages : (b : ℕ) → new.pages o b ≡ old.pages o b
  pub cuts : (b : ℕ) → new.cuts o b ≡ old.cuts o b
  pub others : OtherObjects o old new

-- write: a version at each page of the span, over the bytes found there
pub record Writes {P : Type 0} (value : ℕ → P → Option Content) (x : Transactions) (s o at : ℕ) (bytes : List ℕ) (old new : Stores P) : Type 0 where
  pub some : 0 < length bytes
  pub present : head_at x (own x s) old o ≡ true
  pub object : new.objects o ≡ old.objects o
  pub written : (b : ℕ) → is_written b at (length bytes) ≡ true → PutsOne x s value (Some (record { clock = x.clock; bytes = laid_over (at - 2048 * b) (piece_of b at bytes) (bytes_of (page_at value x (own x s) old o b)) })) (old.pages o b) (new.pages o b)
  pub spared : (b : ℕ) → is_written b at (length bytes) ≡ false → new.pages o b ≡ old.pages o b
  pub cuts : (b : ℕ) → new.cuts o b ≡ old.cuts o b
  pub others : OtherObjects o old new

-- cut: the page and the mark at the page of the new end, and an erasure of each page found above
pub record Cuts {P : Type 0} (value : ℕ → P → Option Content) (x : Transactions) (s o n : ℕ) (old new : Stores P) : Type 0 where
  pub present : head_at x (own x s) old o ≡ true
  pub object : new.objects o ≡ old.objects o
  pub end : PutsOne x s value (Some (record { clock = x.clock; bytes = at_size (n - 2048 * (n / 2048)) (bytes_of (page_at value x (own x s) old o (n / 2048))) })) (old.pages o (n / 2048)) (new.pages o (n / 2048))
  pub above : (b : ℕ) → n / 2048 < b → Next false x s value (page_at value x (own x s) old o b) None (old.pages o b) (new.pages o b)
  pub below : (b : ℕ) → b < n / 2048 → new.pages o b ≡ old.pages o b
  pub mark : PutsOne x s no_value tt (old.cuts o (n / 2048)) (new.cuts o (n / 2048))
  pub marks : (b : ℕ) → b ≢ (n / 2048) → new.cuts o b ≡ old.cuts o b
  pub others : OtherObjects o old new

-- drop_object: an erasure of the object and of each page found
pub record Drops {P : Type 0} (value : ℕ → P → Option Content) (x : Transactions) (s o : ℕ) (old new : Stores P) : Type 0 where
  pub object : PutsOne x s there false (old.objects o) (new.objects o)
  pub pages : (b : ℕ) → Next false x s value (page_at value x (own x s) old o b) None (old.pages o b) (new.pages o b)
  pub cuts : (b : ℕ) → new.cuts o b ≡ old.cuts o b
  pub others : OtherObjects o old new

-- What a changing call says of whatever edits the stores stood for: that it was not busy and has added its edit, or by whom
-- it was busy.
pub record AddsEdit {P : Type 0} (value : ℕ → P → Option Content) (x : Transactions) (s : ℕ) (deed : Deed) (old new : Stores P) : Type 0 where
  pub step : (ys : List (Edit Deed)) → PagesStand value x old ys → (busy_with s (touched deed) ys ≡ None) × PagesStand value x new (ys ++ made_now x s deed ∷ [])

pub record IsBusy {P : Type 0} (value : ℕ → P → Option Content) (x : Transactions) (s : ℕ) (deed : Deed) (stores : Stores P) (t : ℕ) : Type 0 where
  pub held : (ys : List (Edit Deed)) → PagesStand value x stores ys → busy_with s (touched deed) ys ≡ Some t

-- The loops of bodies, page by page.

-- a write is done in the pages below one
pub record WrittenTo {P : Type 0} (value : ℕ → P → Option Content) (x : Transactions) (s o at : ℕ) (bytes : List ℕ) (i : ℕ) (old new : Stores P) : Type 0 where
  pub written : (b : ℕ) → b < i → is_written b at (length bytes) ≡ true → PutsOne x s value (Some (record { clock = x.clock; bytes = laid_over (at - 2048 * b) (piece_of b at bytes) (bytes_of (page_at value x (own x s) old o b)) })) (old.pages o b) (new.pages o b)
  pub spared : (b : ℕ) → is_written b at (length bytes) ≡ false → new.pages o b ≡ old.pages o b
  pub rest : (b : ℕ) → i ≤ b → new.pages o b ≡ old.pages o b

-- the pages from one page on are erased as far as another, where they were found
pub record ErasedTo {P : Type 0} (value : ℕ → P → Option Content) (x : Transactions) (s o first i : ℕ) (old new : Stores P) : Type 0 where
  pub erased : (b : ℕ) → first ≤ b → b < i → Next false x s value (page_at value x (own x s) old o b) None (old.pages o b) (new.pages o b)
  pub below : (b : ℕ) → b < first → new.pages o b ≡ old.pages o b
  pub rest : (b : ℕ) → i ≤ b → new.pages o b ≡ old.pages o b

-- one key of pages of an object has one version more, or becomes another list, and no other key changes
pub record OtherPages {P : Type 0} (o j : ℕ) (old new : Stores P) : Type 0 where
  pub pages : (b : ℕ) → b ≢ j → new.pages o b ≡ old.pages o b
