-- What an edit makes of one page, of the head of an object and of a mark of a cut.
use Rattle.std.specs.Prelude.{ℕ, ◌+◌, ◌-◌, ◌*◌, ◌/◌, Bool, true, false, ◌==◌, ◌&&◌, nat_lt, List, [], length, take, drop, filter, Option, Some, None, if◌then◌else◌}
use Rattle.lo_model.specs.Edit.{Deed, Create, Write, Cut, Unlink, Put, Delete, Edit}
use Rattle.lo_model.specs.Object.{at_size, laid_over}
use Rattle.lo_model.specs.Touch.{Page, covers, touched}

-- A page of an object: what a page has, and the clock of the edit that made it so.
pub record Content : Type 0 where
  pub clock : ℕ
  pub bytes : List ℕ

-- whether a deed touches a page
abbrev pub touches_page : (oid number : ℕ) → Deed → Bool
touches_page o b deed = covers (touched deed) (Page o b)

-- whether a deed makes an object or takes it away
abbrev pub touches_object : (oid : ℕ) → Deed → Bool
touches_object o (Create p) = p == o
touches_object o (Write p at new) = false
touches_object o (Cut p n) = false
touches_object o (Unlink p) = p == o
touches_object o (Put table id values stored) = false
touches_object o (Delete table id) = false

-- whether a deed cuts an object in a page
abbrev pub cuts_at : (oid number : ℕ) → Deed → Bool
cuts_at o b (Create p) = false
cuts_at o b (Write p at new) = false
cuts_at o b (Cut p n) = (p == o) && ((n / 2048) == b)
cuts_at o b (Unlink p) = false
cuts_at o b (Put table id values stored) = false
cuts_at o b (Delete table id) = false

-- the edits of one part
abbrev pub at_page : (oid number : ℕ) → List (Edit Deed) → List (Edit Deed)
at_page o b edits = filter (λ (e : Edit Deed). touches_page o b e.deed) edits

abbrev pub at_object : (oid : ℕ) → List (Edit Deed) → List (Edit Deed)
at_object o edits = filter (λ (e : Edit Deed). touches_object o e.deed) edits

abbrev pub at_cut : (oid number : ℕ) → List (Edit Deed) → List (Edit Deed)
at_cut o b edits = filter (λ (e : Edit Deed). cuts_at o b e.deed) edits

-- What an edit made at a clock makes of a part.

abbrev pub bytes_of : Option Content → List ℕ
bytes_of None = []
bytes_of (Some page) = page.bytes

-- the part of a write that falls into a page
abbrev pub piece_of : (number at : ℕ) → List ℕ → List ℕ
piece_of b at new = take (2048 - (at - 2048 * b)) (drop (2048 * b - at) new)

abbrev pub is_written : (number at count : ℕ) → Bool
is_written b at count = nat_lt at (2048 * b + 2048) && nat_lt (2048 * b) (at + count)

abbrev pub written_page : (number clock at : ℕ) → List ℕ → Option Content → Option Content
written_page b c at new old =
    if is_written b at (length new) then Some (record { clock = c; bytes = laid_over (at - 2048 * b) (piece_of b at new) (bytes_of old) }) else old

abbrev pub cut_page : (number clock size : ℕ) → Option Content → Option Content
cut_page b c n old =
    if nat_lt n (2048 * b) then None else (if nat_lt n (2048 * b + 2048) then Some (record { clock = c; bytes = at_size (n - 2048 * b) (bytes_of old) }) else old)

abbrev pub after_page : (oid number : ℕ) → Option Content → (clock : ℕ) → Deed → Option Content
after_page o b old c (Create p) = if p == o then None else old
after_page o b old c (Write p at new) = if p == o then written_page b c at new old else old
after_page o b old c (Cut p n) = if p == o then cut_page b c n old else old
after_page o b old c (Unlink p) = if p == o then None else old
after_page o b old c (Put table id values stored) = old
after_page o b old c (Delete table id) = old

-- whether an object is there
abbrev pub after_head : (oid : ℕ) → Bool → (clock : ℕ) → Deed → Bool
after_head o old c (Create p) = if p == o then true else old
after_head o old c (Write p at new) = old
after_head o old c (Cut p n) = old
after_head o old c (Unlink p) = if p == o then false else old
after_head o old c (Put table id values stored) = old
after_head o old c (Delete table id) = old

-- of a mark of a cut nothing is read
abbrev pub after_cut : Unit {0} → (clock : ℕ) → Deed → Unit {0}
after_cut old c deed = old

-- Both together, each by itself, and so that nothing is written where no object is.
pub record Both : Type 0 where
  pub head : Bool
  pub page : Option Content

abbrev pub none_yet : Both
none_yet = record { head = false; page = None }

abbrev pub after_both : (oid number : ℕ) → Both → (clock : ℕ) → Deed → Both
after_both o b old c deed = record { head = after_head o old.head c deed; page = after_page o b old.page c deed }

abbrev pub page_if : Bool → Option Content → Option Content
page_if true page = page
page_if false page = None

abbrev pub after_there : (oid number : ℕ) → Both → (clock : ℕ) → Deed → Both
after_there o b old c deed = record { head = after_head o old.head c deed; page = page_if (after_head o old.head c deed) (after_page o b old.page c deed) }
