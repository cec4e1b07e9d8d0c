-- The cursor that a search by session and name stops at: the session's first of that name.
use Rattle.std.proofs.Common.{ℕ, ◌≡◌, Bool, true, false, List, [], ◌∷◌, Option, Some, None, refl, ap, sym, subst, ◌∙◌, arith}
use Rattle.std.specs.Prelude.{◌&&◌, Contains, option_map, bytes_eq}
use Rattle.std.specs.List.{find}
use Rattle.std.proofs.lemmas.Bool.Decides.{nat_tests}
use Rattle.row_versions.proofs.Keeping.{cons_rest, cons_first}
use Rattle.lo_model.specs.Descriptor as model
use Rattle.row_tables.specs.declared.cursors.Cursor.{Cursor}
use Rattle.row_tables.specs.declared.cursors.Cursors.{Cursors}
use Rattle.row_tables.specs.Cursors.{cursor_by, is_own, own_cursors, StandsAmong, FindsCursor}

abbrev pub is_named : (session : ℕ) → (name : List ℕ) → Cursor → Bool
is_named s name c = is_own s c && bytes_eq c.name name

own_found : (s : ℕ) (name : List ℕ) (entries : List Cursor) → option_map cursor_by (find (is_named s name) entries) ≡ model.cursor_in name (own_cursors s entries)
own_found s name [] = refl
own_found s name (c ∷ entries) = by_tests (is_own s c) (bytes_eq c.name name) refl refl (own_found s name entries)
  where
    by_tests : (own alike : Bool) → is_own s c ≡ own → bytes_eq c.name name ≡ alike → option_map cursor_by (find (is_named s name) entries) ≡ model.cursor_in name (own_cursors s entries) → option_map cursor_by (find (is_named s name) (c ∷ entries)) ≡ model.cursor_in name (own_cursors s (c ∷ entries))
    by_tests true true is named rest = rw (is, named)
    by_tests true false is named rest = rw (is, named) rest
    by_tests false alike is named rest = rw is rest

record Stops (s : ℕ) (entries : List Cursor) (c : Cursor) : Type 0 where
  here : Contains entries c
  own : is_own s c ≡ true

stops : (s : ℕ) (name : List ℕ) (entries : List Cursor) (c : Cursor) → find (is_named s name) entries ≡ Some c → Stops s entries c
stops s name [] c is = absurd (cc)
stops s name (e ∷ entries) c is = by_tests (is_own s e) (bytes_eq e.name name) refl refl (stops s name entries c)
  where
    later : (find (is_named s name) entries ≡ Some c → Stops s entries c) → is_named s name e ≡ false → Stops s (e ∷ entries) c
    later rest other = let there = rest (rw other at is) in record { here = cons_rest e c entries there.here; own = there.own }

    by_tests : (own alike : Bool) → is_own s e ≡ own → bytes_eq e.name name ≡ alike → (find (is_named s name) entries ≡ Some c → Stops s entries c) → Stops s (e ∷ entries) c
    by_tests true true own named rest = let first : e ≡ c = (let both : Some e ≡ Some c = rw (own, named) at is in cc) in record { here = subst (Contains (e ∷ entries)) first (cons_first e entries); own = ap (is_own s) (sym first) ∙ own }
    by_tests true false own named rest = later rest (rw (own, named))
    by_tests false alike own named rest = later rest (rw own)

pub finds_cursor : (s : ℕ) (name : List ℕ) (cursors : Cursors) (found : Option Cursor) → found ≡ find (is_named s name) cursors.entries.items → FindsCursor s name cursors found
finds_cursor s name cursors found is = record {
  is = ap (option_map cursor_by) is ∙ own_found s name cursors.entries.items;
  stands = by_found found is;
}
  where
    by_found : (o : Option Cursor) → o ≡ find (is_named s name) cursors.entries.items → StandsAmong s cursors o
    by_found None at = tt
    by_found (Some c) at = let there = stops s name cursors.entries.items c (sym at) in (there.here, let own = there.own in grind (arith, nat_tests))
