-- Who holds a row of a table: the lowest of those who hold one of its rows.
use Rattle.std.proofs.Common.{◌≡◌, ℕ, zero, suc, ℤ, ◌<◌, ◌≤◌, ◌⊎◌, inl, inr, Bool, true, false, cond, List, [], ◌∷◌, length, map, Option, Some, None, refl, ap, sym, subst, ◌∙◌, arith}
use Rattle.std.specs.Prelude.{◌&&◌, FitsSigned, bytes_eq, is_some}
use Rattle.std.specs.Int.{w64}
use Rattle.std.specs.Ordering.{int_eq}
use Rattle.std.proofs.lemmas.Bool.{cases_lt, false≢true}
use Rattle.std.proofs.lemmas.Bool.Decides.{Decides-int_eq}
use Rattle.lo_base.specs.declared.refusal.Refusal.{Refusal}
use Rattle.lo_model.specs.Edit.{Deed, Create, Write, Cut, Unlink, Put, Delete, Edit}
use Rattle.lo_model.specs.Touch.{RowOf, RowsOf, busy_with, holder_of, lower_of, meets, other_session, pages_of, touched}
use Rattle.row_versions.specs.Stands.{lowest_other}
use Rattle.xact_core.specs.Transactions.{Transactions}
use Rattle.row_tables.specs.declared.tables.Tables.{Tables}
use Rattle.row_tables.specs.Calls.{IsTable}
use Rattle.row_tables.specs.Keys.{row_key}
use Rattle.row_tables.specs.Rewriting.{IsFreeTable, IsHeldTable}
use Rattle.row_tables.specs.Standing.{StandFor, at_row, edit_told}
use Rattle.row_tables.specs.Terms.{held_by_session}
use Rattle.row_tables.proofs.IdLists.{fits_or_not}
use Rattle.row_tables.proofs.Seeing.{busy_of_row, busy_seen}

-- a session that is there and no higher than a number

abbrev IsUpTo : Option ℕ → ℕ → Type 0
IsUpTo None n = ⊥
IsUpTo (Some m) n = m ≤ n

up_first : (a b : Option ℕ) (n : ℕ) → IsUpTo a n → IsUpTo (lower_of a b) n
up_first None b n is = absurd is
up_first (Some m) None n is = is
up_first (Some m) (Some k) n is = omega (arith, is)

up_second : (a b : Option ℕ) (n : ℕ) → IsUpTo b n → IsUpTo (lower_of a b) n
up_second None b n is = is
up_second (Some m) None n is = absurd is
up_second (Some m) (Some k) n is = omega (arith, is)

up_either : (a b : Option ℕ) (n : ℕ) → IsUpTo (lower_of a b) n → IsUpTo a n ⊎ IsUpTo b n
up_either None b n is = inr is
up_either (Some m) None n is = inl is
up_either (Some m) (Some k) n is = by_order (cases_lt m k)
  where
    by_order : (m < k) ⊎ (k ≤ m) → (m ≤ n) ⊎ (k ≤ n)
    by_order (inl less) = inl (omega (arith, is, less))
    by_order (inr more) = inr (omega (arith, is, more))

none_up : (o : Option ℕ) → ((n : ℕ) → IsUpTo o n → ⊥) → o ≡ None
none_up None never = refl
none_up (Some m) never = absurd (never m (omega arith))

exact_up : (o : Option ℕ) (t : ℕ) → IsUpTo o t → ((n : ℕ) → IsUpTo o n → t ≤ n) → o ≡ Some t
exact_up None t is low = absurd is
exact_up (Some m) t is low = let least : t ≤ m = low m (omega arith) in ap (λ (n : ℕ). Some n) (omega (arith, is, least))

-- an edit of a row of the table is one of the table

module _ (name : List ℕ) (s : ℕ) where
  both_row : (a b : Bool) → (a && b) ≡ true → a ≡ true
  both_row true b is = refl
  both_row false b is = is

  row_of_table : (id : ℤ) (d : Deed) → meets (RowOf name id) (touched d) ≡ true → meets (RowsOf name) (touched d) ≡ true
  row_of_table id (Create o) is = absurd (false≢true is)
  row_of_table id (Write o at bytes) is = absurd (by_count (length bytes) is)
    where
      by_count : (count : ℕ) → meets (RowOf name id) (pages_of o at count) ≡ true → ⊥
      by_count zero is = false≢true is
      by_count (suc more) is = false≢true is
  row_of_table id (Cut o size) is = absurd (false≢true is)
  row_of_table id (Unlink o) is = absurd (false≢true is)
  row_of_table id (Put u j values stored) is = both_row (bytes_eq name u) (int_eq id j) is
  row_of_table id (Delete u j) is = both_row (bytes_eq name u) (int_eq id j) is

  -- and the other way, for the row's id
  record HasRow (d : Deed) : Type 0 where
    id : ℤ
    own : meets (RowOf name id) (touched d) ≡ true

  table_of_row : (d : Deed) → meets (RowsOf name) (touched d) ≡ true → HasRow d
  table_of_row (Create o) is = absurd (false≢true is)
  table_of_row (Write o at bytes) is = absurd (by_count (length bytes) is)
    where
      by_count : (count : ℕ) → meets (RowsOf name) (pages_of o at count) ≡ true → ⊥
      by_count zero is = false≢true is
      by_count (suc more) is = false≢true is
  table_of_row (Cut o size) is = absurd (false≢true is)
  table_of_row (Unlink o) is = absurd (false≢true is)
  table_of_row (Put u j values stored) is = record { id = j; own = ap (λ (b : Bool). b && int_eq j j) is ∙ (Decides-int_eq j j).1 refl }
  table_of_row (Delete u j) is = record { id = j; own = ap (λ (b : Bool). b && int_eq j j) is ∙ (Decides-int_eq j j).1 refl }

  up_more : (a b : Bool) (o : Option ℕ) (n : ℕ) → (a ≡ true → b ≡ true) → IsUpTo (cond a o None) n → IsUpTo (cond b o None) n
  up_more true b o n more is = subst (λ (c : Bool). IsUpTo (cond c o None) n) (sym (more refl)) is
  up_more false b o n more is = absurd is

  up_test : (a : Bool) (o : Option ℕ) (n : ℕ) → IsUpTo (cond a o None) n → a ≡ true
  up_test true o n is = refl
  up_test false o n is = absurd is

  row_up : (id : ℤ) (es : List (Edit Deed)) (n : ℕ) → IsUpTo (busy_with s (RowOf name id) es) n → IsUpTo (busy_with s (RowsOf name) es) n
  row_up id [] n is = is
  row_up id (e ∷ es) n is = by (up_either (holder_of s (RowOf name id) e) (busy_with s (RowOf name id) es) n is) (row_up id es n)
    where
      by : IsUpTo (holder_of s (RowOf name id) e) n ⊎ IsUpTo (busy_with s (RowOf name id) es) n → (IsUpTo (busy_with s (RowOf name id) es) n → IsUpTo (busy_with s (RowsOf name) es) n) → IsUpTo (busy_with s (RowsOf name) (e ∷ es)) n
      by (inl here) rest = up_first (holder_of s (RowsOf name) e) (busy_with s (RowsOf name) es) n (up_more (meets (RowOf name id) (touched e.deed)) (meets (RowsOf name) (touched e.deed)) (other_session s e.owner) n (row_of_table id e.deed) here)
      by (inr later) rest = up_second (holder_of s (RowsOf name) e) (busy_with s (RowsOf name) es) n (rest later)

  record HeldAt (es : List (Edit Deed)) (n : ℕ) : Type 0 where
    at : ℤ
    up : IsUpTo (busy_with s (RowOf name at) es) n

  table_up : (es : List (Edit Deed)) (n : ℕ) → IsUpTo (busy_with s (RowsOf name) es) n → HeldAt es n
  table_up [] n is = absurd is
  table_up (e ∷ es) n is = by (up_either (holder_of s (RowsOf name) e) (busy_with s (RowsOf name) es) n is) (table_up es n)
    where
      by : IsUpTo (holder_of s (RowsOf name) e) n ⊎ IsUpTo (busy_with s (RowsOf name) es) n → (IsUpTo (busy_with s (RowsOf name) es) n → HeldAt es n) → HeldAt (e ∷ es) n
      by (inl here) rest =
          let row = table_of_row e.deed (up_test (meets (RowsOf name) (touched e.deed)) (other_session s e.owner) n here) in
          record { at = row.id; up = up_first (holder_of s (RowOf name row.id) e) (busy_with s (RowOf name row.id) es) n (up_more (meets (RowsOf name) (touched e.deed)) (meets (RowOf name row.id) (touched e.deed)) (other_session s e.owner) n (λ same. row.own) here) }
      by (inr later) rest =
          let left = rest later in
          record { at = left.at; up = up_second (holder_of s (RowOf name left.at) e) (busy_with s (RowOf name left.at) es) n left.up }

-- by what the stores answer

module _ (x : Transactions) (tables : Tables) (s : ℕ) (name : List ℕ) (number : ℕ) (is : IsTable tables name number) (ys : List (Edit Deed)) (stand : StandFor x tables ys) where
  -- an id that is none of 64 bits has no row
  none_outside : (id : ℤ) → (FitsSigned w64 id → ⊥) → busy_with s (RowOf name id) ys ≡ None
  none_outside id unfit =
      busy_of_row x tables ys stand name number is id s ys
      ∙ ap (lowest_other s) (subst (λ (t : List ℕ). at_row t id ys ≡ map (edit_told stand.kept.told t id) (stand.kept.edits (row_key number id))) is.named (stand.reads.rows (row_key number id) is.table is.there) ∙ ap (map (edit_told stand.kept.told name id)) (stand.kept.none (row_key number id) (inr unfit)))

  no_up : (o : Option ℕ) (n : ℕ) → o ≡ None → IsUpTo o n → ⊥
  no_up None n same is = is
  no_up (Some m) n same is = false≢true (sym (ap is_some same))

  pub table_free : IsFreeTable x s tables number → held_by_session (busy_with s (RowsOf name) ys) ≡ None
  table_free free = ap held_by_session (none_up (busy_with s (RowsOf name) ys) (λ n up. let row = table_up name s ys n up in by row.at (fits_or_not row.at) n row.up))
    where
      by : (id : ℤ) → FitsSigned w64 id ⊎ (FitsSigned w64 id → ⊥) → (n : ℕ) → IsUpTo (busy_with s (RowOf name id) ys) n → ⊥
      by id (inl fits) n up = no_up (busy_with s (RowOf name id) ys) n (busy_seen x tables ys stand name number is id s ∙ free.free id fits) up
      by id (inr unfit) n up = no_up (busy_with s (RowOf name id) ys) n (none_outside id unfit) up

  pub table_held : (r : Refusal) → IsHeldTable x s tables number r → held_by_session (busy_with s (RowsOf name) ys) ≡ Some r
  table_held r held = ap held_by_session (exact_up (busy_with s (RowsOf name) ys) held.holder (row_up name s held.id ys held.holder (subst (λ (o : Option ℕ). IsUpTo o held.holder) (sym (busy_seen x tables ys stand name number is held.id s ∙ held.here)) (omega arith))) (λ n up. let row = table_up name s ys n up in by row.at (fits_or_not row.at) n (busy_with s (RowOf name row.at) ys) refl row.up)) ∙ ap (λ (q : Refusal). Some q) (sym held.says)
    where
      by : (id : ℤ) → FitsSigned w64 id ⊎ (FitsSigned w64 id → ⊥) → (n : ℕ) (o : Option ℕ) → busy_with s (RowOf name id) ys ≡ o → IsUpTo o n → held.holder ≤ n
      by id fit n None same up = absurd up
      by id (inl fits) n (Some t) same up = let low = held.lowest id t fits (sym (busy_seen x tables ys stand name number is id s) ∙ same) in omega (arith, low, up)
      by id (inr unfit) n (Some t) same up = absurd (false≢true (ap is_some (sym (none_outside id unfit) ∙ same)))
