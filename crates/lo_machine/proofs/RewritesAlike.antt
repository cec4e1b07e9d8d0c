-- The row of a rewrite matches the row of its call: where nobody else holds a row of the table, each put of one is free.
use Rattle.std.proofs.Common.{◌≡◌, ℕ, ℤ, Bool, true, false, List, [], ◌∷◌, ◌++◌, length, Option, Some, None, refl, ap, sym, subst, arith, append-nil, append_assoc}
use Rattle.std.specs.Prelude.{◌==◌, ◌&&◌, is_some, bytes_eq, if◌then◌else◌}
use Rattle.std.proofs.lemmas.Bool.{false≢true}
use Rattle.std.proofs.lemmas.Bool.Decides.{nat_tests}
use Rattle.lo_base.specs.declared.column.Column.{Column}
use Rattle.lo_base.specs.declared.refusal.Refusal.{Refusal}
use Rattle.lo_model.specs.declared.owner.Owner.{Owner}
use Rattle.lo_model.specs.declared.owner.Owner.TheVariants.{Running}
use Rattle.lo_model.specs.Edit.{Deed, Create, Write, Cut, Unlink, Put, Delete, Edit, edits_by}
use Rattle.lo_model.specs.Listing.{ids_in}
use Rattle.lo_model.specs.Touch.{RowOf, RowsOf, Touched, busy_with, holder_of, lower_of, meets, other_session, touched}
use Rattle.lo_pages.specs.declared.pages.Pages.{Pages}
use Rattle.lo_pages.specs.Calls.{IsMaker}
use Rattle.lo_pages.specs.Standing.{StandFor}
use Rattle.lo_pages.proofs.Standing.{stand_put}
use Rattle.row_tables.specs.RewriteRules.{columns_rewritten, puts_anew, rewrite_row, some_too_big, storage_refusals, values_of}
use Rattle.row_tables.specs.RowRules.{columns_here, put_anew}
use Rattle.row_tables.specs.Row as tables
use Rattle.row_tables.specs.Terms.{busy_for, first_of, no_table}
use Rattle.row_tables.specs.Values.{id_of}
use Rattle.row_versions.specs.Stands.{made_now}
use Rattle.xact_core.specs.Transactions.{Transactions, levels_of}
use Rattle.lo_machine.specs.Row.{Here, on_tables}
use Rattle.lo_machine.proofs.TableCalls.{IsMatch, first_same, later_here}
use Rattle.lo_machine.proofs.TablesAlike.{held_none, last_none}

-- nobody is the lower of two

pub lower_first : (a b : Option ℕ) → lower_of a b ≡ None → a ≡ None
lower_first None b is = refl
lower_first (Some a) None is = absurd (false≢true (sym (ap is_some is)))
lower_first (Some a) (Some b) is = absurd (false≢true (sym (ap is_some is)))

pub lower_second : (a b : Option ℕ) → lower_of a b ≡ None → b ≡ None
lower_second None b is = is
lower_second (Some a) None is = refl
lower_second (Some a) (Some b) is = absurd (false≢true (sym (ap is_some is)))

lower_none : (a b : Option ℕ) → a ≡ None → b ≡ None → lower_of a b ≡ None
lower_none a b first second = rw (first, second) refl

-- who holds no row of a table holds none of its rows

abbrev within : Bool → Bool → Option ℕ → Option ℕ
within same alike other = if same && alike then other else None

row_within : (same alike : Bool) (other : Option ℕ) → (if same then other else None) ≡ None → within same alike other ≡ None
row_within false alike other is = refl
row_within true false other is = refl
row_within true true other is = is

holds_row : (s : ℕ) (t : List ℕ) (i : ℤ) (e : Edit Deed) → holder_of s (RowsOf t) e ≡ None → holder_of s (RowOf t i) e ≡ None
holds_row s t i e is = by_deed e.deed is
  where
    by_deed : (d : Deed) → (if meets (RowsOf t) (touched d) then other_session s e.owner else None) ≡ None → (if meets (RowOf t i) (touched d) then other_session s e.owner else None) ≡ None
    by_deed (Create o) is = refl
    by_deed (Write o at []) is = refl
    by_deed (Write o at (b ∷ bytes)) is = refl
    by_deed (Cut o size) is = refl
    by_deed (Unlink o) is = refl
    by_deed (Put u j values stored) is = row_within (bytes_eq t u) _ (other_session s e.owner) is
    by_deed (Delete u j) is = row_within (bytes_eq t u) _ (other_session s e.owner) is

pub row_free : (s : ℕ) (t : List ℕ) (i : ℤ) (ys : List (Edit Deed)) → busy_with s (RowsOf t) ys ≡ None → busy_with s (RowOf t i) ys ≡ None
row_free s t i [] is = refl
row_free s t i (e ∷ es) is =
    lower_none (holder_of s (RowOf t i) e) (busy_with s (RowOf t i) es) (holds_row s t i e (lower_first (holder_of s (RowsOf t) e) (busy_with s (RowsOf t) es) is)) (row_free s t i es (lower_second (holder_of s (RowsOf t) e) (busy_with s (RowsOf t) es) is))

-- an edit of its own is in nobody's way

own_holds : (s : ℕ) (wanted : Touched) (e : Edit Deed) → other_session s e.owner ≡ None → holder_of s wanted e ≡ None
own_holds s wanted e own = by_test (meets wanted (touched e.deed)) own
  where
    by_test : (test : Bool) → other_session s e.owner ≡ None → (if test then other_session s e.owner else None) ≡ None
    by_test true own = own
    by_test false own = refl

pub still_free : (s : ℕ) (wanted : Touched) (ys : List (Edit Deed)) (e : Edit Deed) → other_session s e.owner ≡ None → busy_with s wanted ys ≡ None → busy_with s wanted (ys ++ e ∷ []) ≡ None
still_free s wanted [] e own is = lower_none (holder_of s wanted e) None (own_holds s wanted e own) refl
still_free s wanted (one ∷ ys) e own is = lower_none (holder_of s wanted one) (busy_with s wanted (ys ++ e ∷ [])) (lower_first (holder_of s wanted one) (busy_with s wanted ys) is) (still_free s wanted ys e own (lower_second (holder_of s wanted one) (busy_with s wanted ys) is))

own_session : (s l : ℕ) → other_session s (Running s l) ≡ None
own_session s l = let same : (s == s) ≡ true = grind (arith, nat_tests) in rw same refl

-- puts of rows of the table, one after another

module _ (x : Transactions) (s : ℕ) (store : Pages) (maker : IsMaker x s) (t : List ℕ) (columns : List Column) (here : tables.Here) where
  abbrev owner : Owner
  owner = Running s (length (levels_of x s))

  pub rows_put : (ids : List ℤ) (ys : List (Edit Deed)) → busy_with s (RowsOf t) ys ≡ None → StandFor x store ys → StandFor x store (ys ++ edits_by x.clock owner (puts_anew t columns here ids))
  rows_put [] ys free stands = subst (StandFor x store) (sym (append-nil ys)) stands
  rows_put (i ∷ ids) ys free stands =
      let put : Deed = put_anew here.clock t columns (values_of t here i) in
      let first = stand_put x s store ys t (id_of (values_of t here i)) _ _ maker (row_free s t (id_of (values_of t here i)) ys free) stands in
      let rest = rows_put ids (ys ++ made_now x s put ∷ []) (still_free s (RowsOf t) ys (made_now x s put) (own_session s (length (levels_of x s))) free) first in
      subst (StandFor x store) (append_assoc ys (made_now x s put ∷ []) (edits_by x.clock owner (puts_anew t columns here ids))) rest

last_of_more : (terms : List (Option Refusal)) (m t : Option Refusal) → first_of (terms ++ m ∷ t ∷ []) ≡ None → t ≡ None
last_of_more [] m t is = last_none (m ∷ []) t is
last_of_more (None ∷ terms) m t is = last_of_more terms m t is
last_of_more (Some r ∷ terms) m t is = absurd (false≢true (sym (ap is_some is)))

pub rewrite_match : (here : Here) (t : List ℕ) (storages : List Column) → IsMatch here (on_tables (rewrite_row t storages) here) (rewrite_row t storages (later_here here))
rewrite_match here t storages = record {
  refusals = sym (first_same (rewrite_row t storages (later_here here)).refusals);
  reply = refl;
  deeds = refl;
  tables = refl;
  cursors = refl;
  leveled = λ level own. own;
  descriptors = refl;
  variables = refl;
  counter = refl;
  pages = λ x store maker none stands.
      rows_put x here.session store maker t (columns_rewritten t storages (later_here here)) (later_here here) (ids_in t (later_here here).view) here.edits
      (held_none _ (last_of_more (no_table (later_here here) t ∷ storage_refusals 1 (columns_here (later_here here) t) storages) (some_too_big t (columns_rewritten t storages (later_here here)) (later_here here) (ids_in t (later_here here).view)) (busy_for (later_here here) (RowsOf t)) none)) stands;
}
