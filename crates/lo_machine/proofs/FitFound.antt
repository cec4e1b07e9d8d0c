-- A row of a view is a row of its table. A view that is read now has all that is committed, and of a table whose rows no other
-- session holds all that there is.
use Rattle.std.proofs.Common.{◌≡◌, ◌<◌, ℕ, ℤ, Bool, true, false, List, [], ◌∷◌, Option, Some, None, refl, ap, sym, subst, ◌∙◌, arith}
use Rattle.std.specs.Prelude.{All, ◌&&◌, ◌==◌, bytes_eq, is_some, nat_le, nat_lt, if◌then◌else◌}
use Rattle.std.specs.Ordering.{int_eq}
use Rattle.std.proofs.lemmas.Bool.{false≢true, true≢false}
use Rattle.std.proofs.lemmas.Bool.Decides.{Decides-int_eq, nat_tests}
use Rattle.std.proofs.lemmas.List.Elements.{All-nil, All-cons, All-head, All-tail, All-weaker}
use Rattle.std.proofs.lemmas.Slice.Eq.{bytes_eq-Decides}
use Rattle.lo_base.specs.declared.value.Value.{Value}
use Rattle.lo_model.specs.declared.owner.Owner.{Owner}
use Rattle.lo_model.specs.declared.owner.Owner.TheVariants.{Running, Committed}
use Rattle.lo_model.specs.declared.viewer.Viewer.{Viewer}
use Rattle.lo_model.specs.declared.viewer.Viewer.TheVariants.{Whole}
use Rattle.lo_model.specs.Database.{Table}
use Rattle.lo_model.specs.Edit.{Deed, Create, Write, Cut, Unlink, Put, Delete, Edit, deeds}
use Rattle.lo_model.specs.Levels.{is_from_level}
use Rattle.lo_model.specs.Numbering.{is_running}
use Rattle.lo_model.specs.Row.{Row, is_row, row_after, row_after_all, row_in}
use Rattle.lo_model.specs.Session.{Session}
use Rattle.lo_model.specs.Touch.{RowsOf, busy_with, holder_of, meets, other_session, touched}
use Rattle.lo_model.specs.View.{has_owner, sees_edit}
use Rattle.lo_machine.specs.Fitting.{FitsTable, IsRow, columns_among}
use Rattle.lo_machine.specs.Well.{IsOwner, IsPast}
use Rattle.lo_machine.proofs.OpenEdits.{all_none}
use Rattle.lo_machine.proofs.PlanEdits.{IsSettled, SeesCommits, both_parts}
use Rattle.lo_machine.proofs.RewritesAlike.{lower_first, lower_second}

-- the rows of a view

module _ (tables : List Table) (t : List ℕ) (i : ℤ) where
  abbrev pub IsRowIfThere : Option Row → Type 0
  IsRowIfThere None = Unit {0}
  IsRowIfThere (Some row) = IsRow (columns_among tables t) i row.values

  put_row : (u : List ℕ) (j : ℤ) (values : List Value) → is_row t i u j ≡ true → IsRow (columns_among tables u) j values → IsRow (columns_among tables t) i values
  put_row u j values same is =
      let parts = both_parts (bytes_eq t u) (int_eq i j) same in
      subst (λ (v : List ℕ). IsRow (columns_among tables v) i values) (sym ((bytes_eq-Decides t u).0 parts.0))
      (subst (λ (k : ℤ). IsRow (columns_among tables u) k values) (sym ((Decides-int_eq i j).0 parts.1)) is)

  after_row : (old : Option Row) (d : Deed) → IsRowIfThere old → FitsTable tables d → IsRowIfThere (row_after t i old d)
  after_row old (Create o) before is = before
  after_row old (Write o at bytes) before is = before
  after_row old (Cut o size) before is = before
  after_row old (Unlink o) before is = before
  after_row old (Put u j values stored) before is = by (is_row t i u j) refl
    where
      by : (b : Bool) → is_row t i u j ≡ b → IsRowIfThere (if b then Some (record { values = values; stored = stored }) else old)
      by true same = put_row u j values same is
      by false other = before
  after_row old (Delete u j) before is = by (is_row t i u j)
    where
      by : (b : Bool) → IsRowIfThere (if b then None else old)
      by true = tt
      by false = before

  all_after_row : (old : Option Row) (es : List (Edit Deed)) → IsRowIfThere old → All (λ (e : Edit Deed). FitsTable tables e.deed) es → IsRowIfThere (row_after_all t i old (deeds es))
  all_after_row old [] before all = before
  all_after_row old (e ∷ es) before all =
      all_after_row (row_after t i old e.deed) es
      (after_row old e.deed before (All-head (λ (f : Edit Deed). FitsTable tables f.deed) e es all))
      (All-tail (λ (f : Edit Deed). FitsTable tables f.deed) e es all)

  pub row_is : (es : List (Edit Deed)) → All (λ (e : Edit Deed). FitsTable tables e.deed) es → IsRowIfThere (row_in t i es)
  row_is es all = all_after_row None es tt all

-- what a view that is read now has

module _ (now : ℕ) (sessions : ℕ → Session) where
  owner_seen : (viewer : Viewer) (o : Owner) → IsOwner now sessions o → is_running o ≡ false → has_owner now viewer o ≡ true
  owner_seen viewer (Running s l) is ended = absurd (false≢true (sym ended))
  owner_seen viewer (Committed c) is ended = grind (arith, nat_tests, is)

  both_so : (a b : Bool) → a ≡ true → b ≡ true → (a && b) ≡ true
  both_so a b first second = rw (first, second) refl

  commit_seen : (viewer : Viewer) (e : Edit Deed) → IsPast now sessions e → is_running e.owner ≡ false → sees_edit now viewer e ≡ true
  commit_seen viewer e past ended =
      let made : e.clock < now = past.made in
      both_so (nat_lt e.clock now) (has_owner now viewer e.owner) (grind (arith, nat_tests, made)) (owner_seen viewer e.owner past.owner ended)

  pub commits_seen : (viewer : Viewer) (es : List (Edit Deed)) → All (IsPast now sessions) es → SeesCommits (sees_edit now viewer) es
  commits_seen viewer es all = All-weaker (IsPast now sessions) (λ (e : Edit Deed). is_running e.owner ≡ false → sees_edit now viewer e ≡ true) (commit_seen viewer) es all

  -- an edit of nobody else and not of the session

  committed_one : (s : ℕ) (o : Owner) → is_from_level s 0 o ≡ false → other_session s o ≡ None → is_running o ≡ false
  committed_one s (Committed c) mine other = refl
  committed_one s (Running u l) mine other = by (u == s) mine other
    where
      by : (b : Bool) → (b && nat_le 0 l) ≡ false → (if b then None else Some u) ≡ None → true ≡ false
      by true own none = let all : nat_le 0 l ≡ true = grind (arith, nat_tests) in absurd (true≢false (sym all ∙ own))
      by false own none = absurd (false≢true (sym (ap is_some none)))

  module _ (s : ℕ) (t : List ℕ) (idle : (sessions s).transaction.levels ≡ []) where
    held_one : (b : Bool) (other : Option ℕ) → b ≡ true → (if b then other else None) ≡ None → other ≡ None
    held_one true other is none = none
    held_one false other is none = absurd (false≢true is)

    settled_one : (e : Edit Deed) → IsPast now sessions e → is_from_level s 0 e.owner ≡ false → holder_of s (RowsOf t) e ≡ None → IsSettled (sees_edit now (Whole s)) t e
    settled_one e past mine none = record {
      committed = λ of_table. is_committed of_table;
      seen = λ of_table. commit_seen (Whole s) e past (is_committed of_table);
    }
      where
        is_committed : meets (RowsOf t) (touched e.deed) ≡ true → is_running e.owner ≡ false
        is_committed of_table = committed_one s e.owner mine (held_one (meets (RowsOf t) (touched e.deed)) (other_session s e.owner) of_table none)

    all_settled : (es : List (Edit Deed)) → All (IsPast now sessions) es → All (λ (e : Edit Deed). is_from_level s 0 e.owner ≡ false) es → busy_with s (RowsOf t) es ≡ None → All (IsSettled (sees_edit now (Whole s)) t) es
    all_settled [] past mine none = All-nil (IsSettled (sees_edit now (Whole s)) t)
    all_settled (e ∷ es) past mine none =
        All-cons (IsSettled (sees_edit now (Whole s)) t) e es
        (settled_one e (All-head (IsPast now sessions) e es past) (All-head (λ (f : Edit Deed). is_from_level s 0 f.owner ≡ false) e es mine) (lower_first (holder_of s (RowsOf t) e) (busy_with s (RowsOf t) es) none))
        (all_settled es (All-tail (IsPast now sessions) e es past) (All-tail (λ (f : Edit Deed). is_from_level s 0 f.owner ≡ false) e es mine) (lower_second (holder_of s (RowsOf t) e) (busy_with s (RowsOf t) es) none))

    pub settled : (es : List (Edit Deed)) → All (IsPast now sessions) es → busy_with s (RowsOf t) es ≡ None → All (IsSettled (sees_edit now (Whole s)) t) es
    settled es past none = all_settled es past (all_none now s sessions es past idle) none
