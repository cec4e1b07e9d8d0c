-- A store at its beginning, in which one session has begun its transaction, can take tables.
use Rattle.std.proofs.Common.{◌≡◌, ◌≢◌, ℕ, zero, suc, Bool, true, false, cond, List, [], ◌∷◌, length, Some, None, refl, ap, ◌∙◌, arith, length-append}
use Rattle.std.specs.Prelude.{not, ◌&&◌, ◌==◌, replicate, slice_index_or}
use Rattle.std.specs.List.{find}
use Rattle.std.proofs.lemmas.Bool.Decides.{nat_tests}
use Rattle.lo_model.specs.Session.{session_numbers}
use Rattle.lo_model.specs.Transaction.{has_levels}
use Rattle.xact_core.specs.Ends.{Opens}
use Rattle.xact_core.specs.Transactions.{Transactions, beginning, levels_of}
use Rattle.row_versions.proofs.Benching.{whole_none}
use Rattle.row_tables.specs.declared.tables.Tables.{Tables}
use Rattle.row_tables.specs.Cursors.{AreOpen, holds_of}
use Rattle.row_tables.specs.Standing.{GoWith, StandFor, cursors_in, tables_in}
use Rattle.row_tables.proofs.Benching.{ready_new}
use Rattle.lo_restore.specs.TablesRestored.{HaveDone, IsAlone}

all_alike : {A : Type 0} (count i : ℕ) (x : A) → slice_index_or (replicate count x) i x ≡ x
all_alike zero i x = refl
all_alike (suc count) zero x = refl
all_alike (suc count) (suc i) x = all_alike count i x

no_levels : (s : ℕ) → levels_of beginning s ≡ []
no_levels zero = refl
no_levels (suc i) = all_alike 16 i []

module _ (s : ℕ) (x : Transactions) (opens : Opens s None beginning x) where
  no_other : (ns : List ℕ) → find (λ t. not (t == s) && has_levels (levels_of x t)) ns ≡ None
  no_other [] = refl
  no_other (t ∷ ts) = by (t == s) refl (no_other ts)
    where
      by : (same : Bool) → (t == s) ≡ same → find (λ u. not (u == s) && has_levels (levels_of x u)) ts ≡ None → cond (not (t == s) && has_levels (levels_of x t)) (Some t) (find (λ u. not (u == s) && has_levels (levels_of x u)) ts) ≡ None
      by true is rest = rw is rest
      by false is rest =
          let other : t ≢ s = λ same. grind (arith, nat_tests, is, same) in
          let none : levels_of x t ≡ [] = opens.levels.others t other ∙ no_levels t in
          rw (is, none) rest

  pub alone_begun : IsAlone x s
  alone_begun = record {
    begun = omega (arith, ap length opens.levels.own, length-append (levels_of beginning s) (None ∷ []));
    time = opens.clock;
    others = no_other session_numbers;
  }

  pub tables_begun : (tables : Tables) → tables_in tables ≡ [] → StandFor x tables [] → GoWith x tables → AreOpen x (cursors_in tables) → holds_of (cursors_in tables) ≡ [] → HaveDone x s tables [] []
  tables_begun tables none stand goes opened holds = record {
    stand = stand;
    catalog = none;
    ready = ready_new x tables s (whole_none x opens.held) goes opened holds;
    cursors = holds;
  }
