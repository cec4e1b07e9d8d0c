-- A cursor is declared on a row of the session's current view: what refuses it, and what it grants and keeps.
use Rattle.std.proofs.Common.{Bor, ◌≡◌, ◌≢◌, ◌+◌, ℕ, ℤ, pos, Bool, true, false, List, [], ◌∷◌, ◌++◌, length, map, Option, Some, None, refl, ap, sym, subst, ◌∙◌, arith, append_assoc, append-nil}
use Rattle.std.specs.Option.{option_copied}
use Rattle.std.specs.Prelude.{not, is_none, is_some, option_map, filter, cond, IsPermutation}
use Rattle.std.proofs.lemmas.Bool.Decides.{nat_tests}
use Rattle.std.proofs.lemmas.List.{map-append}
use Rattle.std.proofs.lemmas.List.Elements.{All-push, filter-append}
use Rattle.std.proofs.lemmas.List.Sorted.{IsPermutation-append_comm, IsPermutation-append_left, IsPermutation-append_right, IsPermutation-trans}
use Rattle.lo_base.specs.declared.refusal.Cause.TheVariants.{CursorExists, NoRow, NoTable}
use Rattle.lo_base.specs.declared.refusal.Denied.{Denied}
use Rattle.lo_base.specs.declared.refusal.Denied.TheVariants.{By}
use Rattle.lo_base.specs.declared.reply.Reply.TheVariants.{Word}
use Rattle.lo_base.specs.declared.reply.Word.TheVariants as words
use Rattle.lo_base.specs.declared.value.Cell.{Cell}
use Rattle.lo_model.specs.declared.viewer.Viewer.TheVariants.{Whole}
use Rattle.lo_model.specs.Descriptor as model
use Rattle.lo_model.specs.Edit.{Deed, Edit}
use Rattle.lo_model.specs.Listing.{has_row}
use Rattle.lo_model.specs.Row.{row_in}
use Rattle.lo_model.specs.View.{view}
use Rattle.xact_core.specs.declared.snapshot.Snapshot.{Snapshot}
use Rattle.xact_core.specs.Kept.{current, kept_views, HoldsOthers, HoldsWholeViews}
use Rattle.xact_core.specs.Transactions.{Transactions, levels_of}
use Rattle.row_versions.specs.Looks.{IsLook}
use Rattle.row_tables.specs.declared.cursors.Cursor.{Cursor}
use Rattle.row_tables.specs.declared.cursors.Cursors.{Cursors}
use Rattle.row_tables.specs.declared.tables.Tables.{Tables}
use Rattle.row_tables.specs.Calls.{IsTable}
use Rattle.row_tables.specs.Catalog.{table_in}
use Rattle.row_tables.specs.CursorRules.{declare_row}
use Rattle.row_tables.specs.Cursors.{FindsCursor, HoldsOwn, cursor_by, cursors_of, hold_of, holds_in, holds_of, is_own, own_cursors}
use Rattle.row_tables.specs.Keys.{row_key}
use Rattle.row_tables.specs.Laws.{row_told}
use Rattle.row_tables.specs.Standing.{StandFor, cells_at}
use Rattle.row_tables.specs.Terms.{first_of, refusal}
use Rattle.row_tables.specs.World.{Denies, Grants, HasTable, IsGranted, IsReady, Keeps, World, here_of, world}
use Rattle.row_tables.proofs.Keeping.{fails, goes_on, holds, skip, stands_on, stop, with_cursors}
use Rattle.row_tables.proofs.ReadRows.{reads_rows}

pub some_mapped : {X Y : Type 0} (f : X → Y) (o : Option X) → is_some (option_map f o) ≡ is_some o
some_mapped f None = refl
some_mapped f (Some x) = refl

none_some : {X : Type 0} (o : Option X) (x : X) → o ≡ Some x → is_none o ≡ false
none_some o x is = rw is

-- the row that a view has of a table's name is what it finds at the table's number
pub row_read : (w : World) (v : Snapshot) → IsLook w.xacts v → (t : List ℕ) (number : ℕ) → IsTable w.tables t number → (i : ℤ) (ys : List (Edit Deed)) (stand : StandFor w.xacts w.tables ys) → row_in t i (view v.clock v.viewer ys) ≡ option_map (row_told stand.kept.told) (cells_at w.xacts v w.tables (row_key number i))
row_read w v look t number is i ys stand = subst (λ (name : List ℕ). row_in name i (view v.clock v.viewer ys) ≡ option_map (row_told stand.kept.told) (cells_at w.xacts v w.tables (row_key number i))) is.named ((reads_rows w.xacts v w.tables ys stand look).rows (row_key number i) is.table is.there)

pub has_found : (w : World) (v : Snapshot) → IsLook w.xacts v → (t : List ℕ) (number : ℕ) → IsTable w.tables t number → (i : ℤ) (found : Bool) → is_some (cells_at w.xacts v w.tables (row_key number i)) ≡ found → (ys : List (Edit Deed)) → StandFor w.xacts w.tables ys → has_row (view v.clock v.viewer ys) t i ≡ found
has_found w v look t number is i found finds ys stand = ap is_some (row_read w v look t number is i ys stand) ∙ (some_mapped (row_told stand.kept.told) (cells_at w.xacts v w.tables (row_key number i)) ∙ finds)

module _ (w : World) (look : IsLook w.xacts (current w.xacts w.session)) (name t : List ℕ) (i : ℤ) (number : ℕ) (is : IsTable w.tables t number) where
  pub no_row_denies : is_some (cells_at w.xacts (current w.xacts w.session) w.tables (row_key number i)) ≡ false → (d : Denied) → d ≡ By (refusal NoRow i) → Denies (declare_row name t i) w w d
  no_row_denies none d at = subst (Denies (declare_row name t i) w w) (sym at) (record { first = refused; same = refl })
    where
      refused : (ys : List (Edit Deed)) → StandFor w.xacts w.tables ys → first_of (declare_row name t i (here_of w ys)).refusals ≡ Some (refusal NoRow i)
      refused ys stand = skip _ _ (fails (is_none (table_in t w.tables.catalog)) NoTable (pos 0) (none_some (table_in t w.tables.catalog) is.table is.found)) ∙ stop _ _ (refusal NoRow i) (holds (not (has_row (here_of w ys).view t i)) NoRow i (ap not (has_found w (current w.xacts w.session) look t number is i false none ys stand)))

  module _ (found : is_some (cells_at w.xacts (current w.xacts w.session) w.tables (row_key number i)) ≡ true) where
    pub exists_denies : is_some (model.cursor_in name (cursors_of w.session w.tables.cursors)) ≡ true → (d : Denied) → d ≡ By (refusal CursorExists (pos 0)) → Denies (declare_row name t i) w w d
    exists_denies exists d at = subst (Denies (declare_row name t i) w w) (sym at) (record { first = refused; same = refl })
      where
        refused : (ys : List (Edit Deed)) → StandFor w.xacts w.tables ys → first_of (declare_row name t i (here_of w ys)).refusals ≡ Some (refusal CursorExists (pos 0))
        refused ys stand =
            skip _ _ (fails (is_none (table_in t w.tables.catalog)) NoTable (pos 0) (none_some (table_in t w.tables.catalog) is.table is.found))
            ∙ (skip _ _ (fails (not (has_row (here_of w ys).view t i)) NoRow i (ap not (has_found w (current w.xacts w.session) look t number is i true found ys stand)))
            ∙ stop _ _ (refusal CursorExists (pos 0)) (holds (is_some (model.cursor_in name (cursors_of w.session w.tables.cursors))) CursorExists (pos 0) exists))

    pub declare_unrefused : is_some (model.cursor_in name (cursors_of w.session w.tables.cursors)) ≡ false → (ys : List (Edit Deed)) → StandFor w.xacts w.tables ys → first_of (declare_row name t i (here_of w ys)).refusals ≡ None
    declare_unrefused free ys stand =
        skip _ _ (fails (is_none (table_in t w.tables.catalog)) NoTable (pos 0) (none_some (table_in t w.tables.catalog) is.table is.found))
        ∙ (skip _ _ (fails (not (has_row (here_of w ys).view t i)) NoRow i (ap not (has_found w (current w.xacts w.session) look t number is i true found ys stand)))
        ∙ skip _ _ (fails (is_some (model.cursor_in name (cursors_of w.session w.tables.cursors))) CursorExists (pos 0) free))

-- one view more is held, by one cursor more
one_more : (holds' others held : List Snapshot) (v : Snapshot) → IsPermutation held (holds' ++ others) → IsPermutation (held ++ v ∷ []) ((holds' ++ v ∷ []) ++ others)
one_more holds' others held v all =
    let behind = IsPermutation-append_left (v ∷ []) held (holds' ++ others) all in
    let moved = IsPermutation-append_right holds' (others ++ v ∷ []) (v ∷ others) (IsPermutation-append_comm others (v ∷ [])) in
    IsPermutation-trans (held ++ v ∷ []) (holds' ++ (others ++ v ∷ [])) ((holds' ++ v ∷ []) ++ others) (rw append_assoc at behind) (rw append_assoc moved)

-- A cursor was declared behind the others.
module _ (w : World) (ready : IsReady w) (x : Transactions) (cursors : Cursors) (c : Cursor) (last : cursors.entries.items ≡ w.tables.cursors.entries.items ++ c ∷ []) (session : c.session ≡ w.session) (hold : c.hold ≡ current w.xacts w.session) (others : HoldsOthers w.xacts x) (held : x.held ≡ w.xacts.held ++ c.hold ∷ []) where
  own_last : own_cursors w.session cursors.entries.items ≡ own_cursors w.session w.tables.cursors.entries.items ++ cursor_by c ∷ []
  own_last =
      ap (own_cursors w.session) last
      ∙ (ap (map cursor_by) (filter-append (is_own w.session) w.tables.cursors.entries.items (c ∷ [])
      ∙ ap (λ (b : Bool). filter (is_own w.session) w.tables.cursors.entries.items ++ cond b (c ∷ []) []) own)
      ∙ map-append cursor_by (filter (is_own w.session) w.tables.cursors.entries.items) (c ∷ []))
    where
      own : is_own w.session c ≡ true
      own = grind (arith, nat_tests, session)

  others_last : (t : ℕ) → t ≢ w.session → own_cursors t cursors.entries.items ≡ own_cursors t w.tables.cursors.entries.items
  others_last t apart = ap (own_cursors t) last ∙ ap (map cursor_by) (filter-append (is_own t) w.tables.cursors.entries.items (c ∷ []) ∙ (ap (λ (b : Bool). filter (is_own t) w.tables.cursors.entries.items ++ cond b (c ∷ []) []) other ∙ append-nil (filter (is_own t) w.tables.cursors.entries.items)))
    where
      other : is_own t c ≡ false
      other = grind (arith, nat_tests, session, apart)

  holds_last : holds_of cursors ≡ holds_of w.tables.cursors ++ c.hold ∷ []
  holds_last = ap holds_in last ∙ map-append hold_of w.tables.cursors.entries.items (c ∷ [])

  held_more : (rest : List Snapshot) → IsPermutation w.xacts.held (holds_of w.tables.cursors ++ rest) → IsPermutation x.held (holds_of cursors ++ rest)
  held_more rest all = rw (held, holds_last) (one_more (holds_of w.tables.cursors) rest w.xacts.held c.hold all)

  own_hold : HoldsOwn c
  own_hold = ap (λ (v : Snapshot). v.viewer) hold ∙ ap Whole (sym session)

  pub declare_done : (name t : List ℕ) (i : ℤ) → cursor_by c ≡ record { name = name; table = t; id = i; level = length (levels_of w.xacts w.session); clock = w.xacts.clock + 1 } → ((ys : List (Edit Deed)) → StandFor w.xacts w.tables ys → first_of (declare_row name t i (here_of w ys)).refusals ≡ None) → Grants (declare_row name t i) w (world x (with_cursors w.tables cursors) w.session) (Word words.Declare)
  declare_done name t i is unrefused = record { granted = by }
    where
      by : (ys : List (Edit Deed)) → StandFor w.xacts w.tables ys → IsGranted (declare_row name t i (here_of w ys)) w (world x (with_cursors w.tables cursors) w.session) (Word words.Declare) ys
      by ys stand = record {
        unrefused = unrefused ys stand;
        answer = refl;
        edits = stands_on w.xacts x w.tables cursors ys others stand;
        tables = refl;
        cursors = own_last ∙ ap (λ (d : model.Cursor). cursors_of w.session w.tables.cursors ++ d ∷ []) is;
      }

  pub declare_keeps : HoldsWholeViews x → length (kept_views x) ≡ length (kept_views w.xacts) + 1 → HasTable w.tables c → Keeps w (world x (with_cursors w.tables cursors) w.session)
  declare_keeps whole views there = record {
    ready = record {
      whole = whole;
      goes = goes_on w.xacts x w.tables cursors others ready.goes;
      cursors = record {
        own = rw last (All-push HoldsOwn w.tables.cursors.entries.items c ready.cursors.own own_hold);
        held = record { rest = ready.cursors.held.rest; all = held_more ready.cursors.held.rest ready.cursors.held.all };
      };
      named = rw last (All-push (HasTable w.tables) w.tables.cursors.entries.items c ready.named there);
    };
    session = refl;
    cursors = others_last;
    others = others;
    holds = record { rest = held_more };
    views = omega (arith, views);
  }

-- what a body's steps tell of these

pub row_there : (x : Transactions) (tables : Tables) (found : Option (Bor (List Cell))) (v w : Snapshot) (n : ℕ) (i j : ℤ) (there : Bool) → option_copied found ≡ cells_at x v tables (row_key n j) → v ≡ w → j ≡ i → is_some found ≡ there → is_some (cells_at x w tables (row_key n i)) ≡ there
row_there x tables found v w n i j there finds look same is = subst (λ (u : Snapshot). is_some (cells_at x u tables (row_key n i)) ≡ there) look (subst (λ (k : ℤ). is_some (cells_at x v tables (row_key n k)) ≡ there) same (sym (ap is_some finds) ∙ (some_mapped (λ (b : Bor (List Cell)). b.now) found ∙ is)))

pub cursor_there : (s : ℕ) (name : List ℕ) (cursors : Cursors) (found : Option (Bor Cursor)) (there : Bool) → FindsCursor s name cursors (option_copied found) → is_some found ≡ there → is_some (model.cursor_in name (cursors_of s cursors)) ≡ there
cursor_there s name cursors found there finds is = sym (ap is_some finds.is) ∙ (some_mapped cursor_by (option_copied found) ∙ (some_mapped (λ (b : Bor Cursor). b.now) found ∙ is))

pub last_after : (all room items : List Cursor) (c : Cursor) → room ≡ items → all ≡ room ++ c ∷ [] → all ≡ items ++ c ∷ []
last_after all room items c same is = is ∙ ap (λ (cs : List Cursor). cs ++ c ∷ []) same

pub is_declared : (c : Cursor) (name t : List ℕ) (i : ℤ) (level clock : ℕ) → c.name ≡ name → c.table ≡ t → c.id ≡ i → c.level ≡ level → c.hold.clock ≡ clock → cursor_by c ≡ record { name = name; table = t; id = i; level = level; clock = clock }
is_declared c name t i level clock named in-table id-is at now = rw (named, in-table, id-is, at, now)
