-- Cursors that a release gives to the level below: a session's own get their level, and all others stay.
use Rattle.std.proofs.Common.{ℕ, ◌≡◌, ◌≢◌, Bool, true, false, List, [], ◌∷◌, map, refl, ap, arith}
use Rattle.std.specs.Prelude.{if◌then◌else◌}
use Rattle.std.proofs.lemmas.Bool.Decides.{nat_tests}
use Rattle.std.proofs.lemmas.List.Elements.{All-map, All-weaker}
use Rattle.xact_core.specs.Transactions.{Transactions}
use Rattle.lo_model.specs.Descriptor as model
use Rattle.row_tables.specs.declared.cursors.Cursor.{Cursor}
use Rattle.row_tables.specs.declared.cursors.Cursors.{Cursors}
use Rattle.row_tables.specs.Cursors.{cursor_by, is_own, own_cursors, holds_in, HoldsOwn, AreOpen}

-- a cursor at the level that a release gives it
abbrev pub at_level : (level : ℕ) → Cursor → Cursor
at_level k c = record { session = c.session; name = c.name; table = c.table; id = c.id; level = model.level_released k c.level; hold = c.hold }

abbrev pub entry_released : (session level : ℕ) → Cursor → Cursor
entry_released s k c = if is_own s c then at_level k c else c

pub released_one : (s k : ℕ) (c : Cursor) → is_own s c ≡ true → entry_released s k c ≡ at_level k c
released_one s k c own = rw own

pub released_other : (s k : ℕ) (c : Cursor) → is_own s c ≡ false → entry_released s k c ≡ c
released_other s k c other = rw other

pub own_released : (s k : ℕ) (entries : List Cursor) → own_cursors s (map (entry_released s k) entries) ≡ map (model.cursor_released k) (own_cursors s entries)
own_released s k [] = refl
own_released s k (c ∷ entries) = by_test (is_own s c) refl (own_released s k entries)
  where
    by_test : (own : Bool) → is_own s c ≡ own → own_cursors s (map (entry_released s k) entries) ≡ map (model.cursor_released k) (own_cursors s entries) → own_cursors s (map (entry_released s k) (c ∷ entries)) ≡ map (model.cursor_released k) (own_cursors s (c ∷ entries))
    by_test true is rest = rw (is, is) (ap (λ (cs : List model.Cursor). model.cursor_released k (cursor_by c) ∷ cs) rest)
    by_test false is rest = rw (is, is) rest

pub others_released : (s t k : ℕ) → t ≢ s → (entries : List Cursor) → own_cursors t (map (entry_released s k) entries) ≡ own_cursors t entries
others_released s t k apart [] = refl
others_released s t k apart (c ∷ entries) = by_tests (is_own s c) (is_own t c) refl refl (others_released s t k apart entries)
  where
    by_tests : (own other : Bool) → is_own s c ≡ own → is_own t c ≡ other → own_cursors t (map (entry_released s k) entries) ≡ own_cursors t entries → own_cursors t (map (entry_released s k) (c ∷ entries)) ≡ own_cursors t (c ∷ entries)
    by_tests true true is is' rest = absurd (apart (grind (arith, nat_tests)))
    by_tests true false is is' rest = rw (is, is') rest
    by_tests false true is is' rest = rw (is, is') (ap (λ (cs : List model.Cursor). cursor_by c ∷ cs) rest)
    by_tests false false is is' rest = rw (is, is') rest

released_hold : (s k : ℕ) (c : Cursor) → (entry_released s k c).hold ≡ c.hold
released_hold s k c = by_test (is_own s c) refl
  where
    by_test : (own : Bool) → is_own s c ≡ own → (entry_released s k c).hold ≡ c.hold
    by_test true is = rw is
    by_test false is = rw is

pub same_holds : (s k : ℕ) (entries : List Cursor) → holds_in (map (entry_released s k) entries) ≡ holds_in entries
same_holds s k [] = refl
same_holds s k (c ∷ entries) = rw (released_hold s k c, same_holds s k entries)

released_own : (s k : ℕ) (c : Cursor) → HoldsOwn c → HoldsOwn (entry_released s k c)
released_own s k c own = by_test (is_own s c) refl
  where
    by_test : (is : Bool) → is_own s c ≡ is → HoldsOwn (entry_released s k c)
    by_test true is = rw is own
    by_test false is = rw is own

pub stay_open : (x : Transactions) (s k : ℕ) (old new : Cursors) → new.entries.items ≡ map (entry_released s k) old.entries.items → AreOpen x old → AreOpen x new
stay_open x s k old new is before = record {
  own = rw is (All-map HoldsOwn (entry_released s k) old.entries.items (All-weaker HoldsOwn (λ (c : Cursor). HoldsOwn (entry_released s k c)) (released_own s k) old.entries.items before.own));
  held = record { rest = before.held.rest; all = rw (is, same_holds s k old.entries.items) before.held.all };
}
