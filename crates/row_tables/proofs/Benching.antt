-- What the bench of the tests keeps: a world that is ready stays so through the calls on tables and those of the transactions.
use Rattle.std.proofs.Common.{◌≡◌, ◌≢◌, ◌≤◌, ◌<◌, ℕ, ◌+◌, Bool, List, [], ◌∷◌, ◌++◌, length, map, filter, Option, None, ◌⊎◌, inl, inr, refl, ap, sym, subst, ◌∙◌, arith}
use Rattle.std.specs.Prelude.{All, Result, Ok, Err, OnOk, IfOk, IfErr, is_some, true, false, nat_lt, ◌==◌, cond}
use Rattle.std.proofs.lemmas.Bool.{cases_eq}
use Rattle.std.proofs.lemmas.Bool.Decides.{nat_tests}
use Rattle.std.proofs.lemmas.List.Elements.{All-nil, All-cons, All-head, All-tail, All-map, All-filter, All-weaker}
use Rattle.lo_base.specs.declared.refusal.Denied.{Denied}
use Rattle.lo_base.specs.declared.refusal.Denied.TheVariants.{By, NoMemory}
use Rattle.lo_model.specs.Database.{Table}
use Rattle.lo_model.specs.Descriptor as model
use Rattle.xact_core.specs.declared.snapshot.Snapshot.{Snapshot}
use Rattle.xact_core.specs.Ends.{Opens}
use Rattle.xact_core.specs.Kept.{HoldsWholeViews, HoldsOthers}
use Rattle.xact_core.specs.Transactions.{Transactions, levels_of}
use Rattle.row_versions.proofs.Benching.{whole_same}
use Rattle.row_tables.specs.declared.cursors.Cursor.{Cursor}
use Rattle.row_tables.specs.declared.cursors.Cursors.{Cursors}
use Rattle.row_tables.specs.declared.tables.Tables.{Tables}
use Rattle.row_tables.specs.Catalog.{table_in}
use Rattle.row_tables.specs.Cursors.{AreHeld, AreOpen, Ends, cursor_by, cursors_of, holds_of, is_own, own_cursors}
use Rattle.row_tables.specs.Row.{Here, Row}
use Rattle.row_tables.specs.Standing.{GoWith}
use Rattle.row_tables.specs.Tries.{HadMemory}
use Rattle.row_tables.specs.World.{World, world, IsReady, HasTable, Keeps, Denies, SameRows}
use Rattle.row_tables.proofs.Laws.{with_opened, with_ticked, with_held}
use Rattle.row_tables.proofs.Resting.{goes_same}
use Rattle.row_tables.proofs.Granting.{same_named}
use Rattle.row_tables.proofs.Ends.{holds_same}

-- what a call that succeeded says of its result
pub said : {A E : Type 0} (P : A → Type 0) (r : Result A E) (a : A) → r ≡ Ok a → IfOk r P → P a
said {A} {E} P r a is all = subst (λ (q : Result A E). IfOk q P) is all

-- a call that had memory
pub had_ready : {A : Type 0} (row : Here → Row) (old new : World) (r : Result A Denied) → HadMemory r → OnOk r (Keeps old new) → IfErr r (Denies row old new) → IsReady old → IsReady new
had_ready {A} row old new (Ok a) had keeps denies ready = keeps.ready
had_ready {A} row old new (Err (By r)) had keeps denies ready = subst IsReady (sym denies.same) ready
had_ready {A} row old new (Err NoMemory) had keeps denies ready = absurd had

-- tables without what no view needs
pub ready_vacuumed : (x x' : Transactions) (old new : Tables) (s : ℕ) → x' ≡ x → GoWith x new → new.catalog ≡ old.catalog → new.cursors ≡ old.cursors → IsReady (world x old s) → IsReady (world x' new s)
ready_vacuumed x x' old new s is goes catalog cursors ready = subst (λ (u : Transactions). IsReady (world u new s)) (sym is) (record {
  whole = ready.whole;
  goes = goes;
  cursors = subst (AreOpen x) (sym cursors) ready.cursors;
  named = same_named old new catalog (ap (λ (c : Cursors). c.entries.items) cursors) ready.named;
})

-- another session that acts
pub ready_for : (x : Transactions) (tables : Tables) (s t : ℕ) → IsReady (world x tables s) → IsReady (world x tables t)
ready_for x tables s t ready = record { whole = ready.whole; goes = ready.goes; cursors = ready.cursors; named = ready.named }

-- open cursors, where other transactions hold the same views
open_same : (x x' : Transactions) (cursors : Cursors) → x'.held ≡ x.held → AreOpen x cursors → AreOpen x' cursors
open_same x x' cursors same before = record { own = before.own; held = record { rest = before.held.rest; all = rw same before.held.all } }

-- the transactions alone go on
pub ready_on : (x x' : Transactions) (tables : Tables) (s : ℕ) → x'.held ≡ x.held → (GoWith x tables → GoWith x' tables) → IsReady (world x tables s) → IsReady (world x' tables s)
ready_on x x' tables s same go ready = record {
  whole = whole_same x x' same ready.whole;
  goes = go ready.goes;
  cursors = open_same x x' tables.cursors same ready.cursors;
  named = ready.named;
}

pub ready_opened : (x x' : Transactions) (tables : Tables) (s t : ℕ) (name : Option (List ℕ)) → Opens t name x x' → IsReady (world x tables s) → IsReady (world x' tables s)
ready_opened x x' tables s t name by ready = ready_on x x' tables s by.held (with_opened tables t name x x' by) ready

pub ready_ticked : (x x' : Transactions) (tables : Tables) (s : ℕ) → x' ≡ record x { clock = x.clock + 1 } → IsReady (world x tables s) → IsReady (world x' tables s)
ready_ticked x x' tables s is ready = ready_on x x' tables s (ap (λ (u : Transactions). u.held) is) (with_ticked tables x x' (record { is = is })) ready

-- new tables
pub ready_new : (x : Transactions) (tables : Tables) (s : ℕ) → HoldsWholeViews x → GoWith x tables → AreOpen x tables.cursors → holds_of tables.cursors ≡ [] → IsReady (world x tables s)
ready_new x tables s whole goes cursors none = record {
  whole = whole;
  goes = goes;
  cursors = cursors;
  named = no_names tables.cursors.entries.items none;
}
  where
    no_names : (entries : List Cursor) → map (λ (c : Cursor). c.hold) entries ≡ [] → All (HasTable tables) entries
    no_names [] isnt = All-nil (HasTable tables)
    no_names (c ∷ cs) isnt = absurd (omega (arith, ap (λ (views : List Snapshot). length views) isnt))

-- Cursors whose tables are there, told by those of each session

abbrev IsNamed : (catalog : List Table) → model.Cursor → Type 0
IsNamed catalog m = is_some (table_in m.table catalog) ≡ true

own_named : (catalog : List Table) (s : ℕ) (entries : List Cursor) → All (λ (c : Cursor). IsNamed catalog (cursor_by c)) entries → All (IsNamed catalog) (own_cursors s entries)
own_named catalog s entries all = All-map (IsNamed catalog) cursor_by (filter (is_own s) entries) (All-filter (is_own s) (λ (c : Cursor). IsNamed catalog (cursor_by c)) entries all)

all_named : (catalog : List Table) (entries : List Cursor) → ((s : ℕ) → All (IsNamed catalog) (own_cursors s entries)) → All (λ (c : Cursor). IsNamed catalog (cursor_by c)) entries
all_named catalog [] each = All-nil (λ (c : Cursor). IsNamed catalog (cursor_by c))
all_named catalog (c ∷ cs) each = All-cons (λ (d : Cursor). IsNamed catalog (cursor_by d)) c cs (first (each c.session)) (all_named catalog cs rest)
  where
    own : (c.session == c.session) ≡ true
    own = grind (arith, nat_tests)

    first : All (IsNamed catalog) (own_cursors c.session (c ∷ cs)) → IsNamed catalog (cursor_by c)
    first all = All-head (IsNamed catalog) (cursor_by c) (own_cursors c.session cs) (subst (λ (test : Bool). All (IsNamed catalog) (map cursor_by (cond test (c ∷ filter (is_own c.session) cs) (filter (is_own c.session) cs)))) own all)

    tail : (s : ℕ) (test : Bool) → All (IsNamed catalog) (map cursor_by (cond test (c ∷ filter (is_own s) cs) (filter (is_own s) cs))) → All (IsNamed catalog) (own_cursors s cs)
    tail s true all = All-tail (IsNamed catalog) (cursor_by c) (own_cursors s cs) all
    tail s false all = all

    rest : (s : ℕ) → All (IsNamed catalog) (own_cursors s cs)
    rest s = tail s (is_own s c) (each s)

-- cursors of the session that acts ended, or moved to other levels, and rows stay
pub ready_mid : (x x' : Transactions) (old new : Tables) (s : ℕ) → SameRows old new → HoldsOthers x x' → (HoldsWholeViews x → HoldsWholeViews x') → (AreOpen x old.cursors → AreOpen x' new.cursors) → ((t : ℕ) → All (IsNamed old.catalog) (cursors_of t old.cursors) → All (IsNamed old.catalog) (cursors_of t new.cursors)) → IsReady (world x old s) → IsReady (world x' new s)
ready_mid x x' old new s same others whole stay each ready = record {
  whole = whole ready.whole;
  goes = goes_same x' old new same (with_held old x x' others ready.goes);
  cursors = stay ready.cursors;
  named = subst (λ (catalog : List Table). All (λ (c : Cursor). is_some (table_in c.table catalog) ≡ true) new.cursors.entries.items) (sym same.catalog) (all_named old.catalog new.cursors.entries.items (λ t. each t (own_named old.catalog t old.cursors.entries.items ready.named)));
}

-- the cursors of a level and of those above ended
pub ready_undone : (x x' : Transactions) (old new : Tables) (s level : ℕ) → SameRows old new → Ends x x' old.cursors new.cursors → cursors_of s new.cursors ≡ model.cursors_below level (cursors_of s old.cursors) → ((t : ℕ) → t ≢ s → cursors_of t new.cursors ≡ cursors_of t old.cursors) → IsReady (world x old s) → IsReady (world x' new s)
ready_undone x x' old new s level same ends own others ready = ready_mid x x' old new s same ends.others ends.whole ends.remain each ready
  where
    each : (t : ℕ) → All (IsNamed old.catalog) (cursors_of t old.cursors) → All (IsNamed old.catalog) (cursors_of t new.cursors)
    each t all = by_number (cases_eq t s)
      where
        by_number : (t ≡ s) ⊎ (t ≢ s) → All (IsNamed old.catalog) (cursors_of t new.cursors)
        by_number (inl is) = subst (λ (u : ℕ). All (IsNamed old.catalog) (cursors_of u new.cursors)) (sym is) (subst (All (IsNamed old.catalog)) (sym own) (All-filter (λ (c : model.Cursor). nat_lt c.level level) (IsNamed old.catalog) (cursors_of s old.cursors) (subst (λ (u : ℕ). All (IsNamed old.catalog) (cursors_of u old.cursors)) is all)))
        by_number (inr other) = subst (All (IsNamed old.catalog)) (sym (others t other)) all

-- they went to the level below
pub ready_released : (x x' : Transactions) (old new : Tables) (s level : ℕ) → SameRows old new → x' ≡ x → (AreOpen x old.cursors → AreOpen x new.cursors) → cursors_of s new.cursors ≡ map (model.cursor_released level) (cursors_of s old.cursors) → ((t : ℕ) → t ≢ s → cursors_of t new.cursors ≡ cursors_of t old.cursors) → IsReady (world x old s) → IsReady (world x' new s)
ready_released x x' old new s level same is stay own others ready = subst (λ (u : Transactions). IsReady (world u new s)) (sym is) (ready_mid x x old new s same (holds_same x) (λ whole. whole) stay each ready)
  where
    each : (t : ℕ) → All (IsNamed old.catalog) (cursors_of t old.cursors) → All (IsNamed old.catalog) (cursors_of t new.cursors)
    each t all = by_number (cases_eq t s)
      where
        by_number : (t ≡ s) ⊎ (t ≢ s) → All (IsNamed old.catalog) (cursors_of t new.cursors)
        by_number (inl here) = subst (λ (u : ℕ). All (IsNamed old.catalog) (cursors_of u new.cursors)) (sym here) (subst (All (IsNamed old.catalog)) (sym own) (All-map (IsNamed old.catalog) (model.cursor_released level) (cursors_of s old.cursors) (subst (λ (u : ℕ). All (IsNamed old.catalog) (cursors_of u old.cursors)) here all)))
        by_number (inr other) = subst (All (IsNamed old.catalog)) (sym (others t other)) all
