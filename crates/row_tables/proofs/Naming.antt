-- What the number of a name says: the table that stands there has the name, and is the one that the name finds.
use Rattle.std.proofs.Common.{◌≡◌, ◌≢◌, ◌<◌, ℕ, zero, suc, ◌+◌, Bool, true, false, cond, List, [], ◌∷◌, length, map, Option, Some, None, refl, ap, sym, subst, ◌∙◌, arith}
use Rattle.std.specs.Prelude.{bytes_eq, is_some, slice_get, if◌then◌else◌}
use Rattle.std.specs.List.{AllByRecursion}
use Rattle.std.specs.Option.{unwrap_or}
use Rattle.std.proofs.lemmas.Bool.{false≢true, true≢false}
use Rattle.std.proofs.lemmas.Option.{slice_get_within}
use Rattle.std.proofs.lemmas.Slice.Eq.{bytes_eq-Decides}
use Rattle.lo_model.specs.Database.{Table}
use Rattle.toast_plan.specs.Columns.{AreDistinct}
use Rattle.row_tables.specs.Catalog.{name_of, number_from, number_in, table_in}

-- the table of a name stands at a place, counted on from a first number
pub record StandsFrom (first : ℕ) (tables : List Table) (name : List ℕ) (number : ℕ) : Type 0 where
  pub table : Table
  pub place : ℕ
  pub is : number ≡ first + place
  pub there : slice_get tables place ≡ Some table
  pub named : table.name ≡ name
  pub found : table_in name tables ≡ Some table

pub stands_from : (first : ℕ) (name : List ℕ) (tables : List Table) (number : ℕ) → number_from first name tables ≡ Some number → StandsFrom first tables name number
stands_from first name [] number is = absurd (false≢true (ap is_some is))
stands_from first name (t ∷ ts) number is = by (bytes_eq t.name name) refl is (stands_from (first + 1) name ts number)
  where
    by : (same : Bool) → bytes_eq t.name name ≡ same → (if same then Some first else number_from (first + 1) name ts) ≡ Some number → (number_from (first + 1) name ts ≡ Some number → StandsFrom (first + 1) ts name number) → StandsFrom first (t ∷ ts) name number
    by true same here rest = record {
      table = t;
      place = 0;
      is = sym (ap (λ (o : Option ℕ). unwrap_or o 0) here) ∙ omega arith;
      there = refl;
      named = (bytes_eq-Decides t.name name).0 same;
      found = ap (λ b. cond b (Some t) (table_in name ts)) same;
    }
    by false same here rest =
        let r = rest here in
        record {
          table = r.table;
          place = suc r.place;
          is = r.is ∙ omega arith;
          there = r.there;
          named = r.named;
          found = ap (λ b. cond b (Some t) (table_in name ts)) same ∙ r.found;
        }

-- the table of a name stands at a number
pub record StandsAt (tables : List Table) (name : List ℕ) (number : ℕ) : Type 0 where
  pub table : Table
  pub there : slice_get tables number ≡ Some table
  pub named : table.name ≡ name
  pub found : table_in name tables ≡ Some table
  pub within : number < length tables

pub stands_at : (name : List ℕ) (tables : List Table) (number : ℕ) → number_in name tables ≡ Some number → StandsAt tables name number
stands_at name tables number is =
    let s = stands_from 0 name tables number is in
    let place : s.place ≡ number = omega (arith, s.is) in
    let there : slice_get tables number ≡ Some s.table = subst (λ n. slice_get tables n ≡ Some s.table) place s.there in
    record { table = s.table; there = there; named = s.named; found = s.found; within = slice_get_within tables number s.table there }

-- a name has a number where it has a table
pub numbered : (first : ℕ) (name : List ℕ) (tables : List Table) → is_some (number_from first name tables) ≡ is_some (table_in name tables)
numbered first name [] = refl
numbered first name (t ∷ ts) = by (bytes_eq t.name name) (numbered (first + 1) name ts)
  where
    by : (same : Bool) → is_some (number_from (first + 1) name ts) ≡ is_some (table_in name ts) → is_some (cond same (Some first) (number_from (first + 1) name ts)) ≡ is_some (cond same (Some t) (table_in name ts))
    by true rest = refl
    by false rest = rest

pub none_there : {X : Type 0} (o : Option X) → is_some o ≡ false → o ≡ None
none_there None is = refl
none_there (Some x) is = absurd (true≢false is)

pub no_table_in : (name : List ℕ) (tables : List Table) → number_in name tables ≡ None → table_in name tables ≡ None
no_table_in name tables is = none_there (table_in name tables) (sym (numbered 0 name tables) ∙ ap is_some is)

pub no_number_in : (name : List ℕ) (tables : List Table) → table_in name tables ≡ None → number_in name tables ≡ None
no_number_in name tables is = none_there (number_in name tables) (numbered 0 name tables ∙ ap is_some is)

-- tables at two numbers have two names

at_place : (name : List ℕ) (tables : List Table) (place : ℕ) (t : Table) → AllByRecursion (λ other. other ≢ name) (map name_of tables) → slice_get tables place ≡ Some t → t.name ≢ name
at_place name [] place t all there = absurd (false≢true (ap is_some there))
at_place name (u ∷ us) zero t all there = λ same. all.0 (ap (λ (o : Option Table). (unwrap_or o u).name) there ∙ same)
at_place name (u ∷ us) (suc place) t all there = at_place name us place t all.1 there

pub one_number : (tables : List Table) (i j : ℕ) (t u : Table) → AreDistinct (map name_of tables) → slice_get tables i ≡ Some t → slice_get tables j ≡ Some u → t.name ≡ u.name → i ≡ j
one_number [] i j t u distinct at_i at_j same = absurd (false≢true (ap is_some at_i))
one_number (a ∷ as') zero zero t u distinct at_i at_j same = refl
one_number (a ∷ as') zero (suc j) t u distinct at_i at_j same = absurd (at_place a.name as' j u distinct.0 at_j (sym same ∙ ap (λ (o : Option Table). (unwrap_or o a).name) (sym at_i)))
one_number (a ∷ as') (suc i) zero t u distinct at_i at_j same = absurd (at_place a.name as' i t distinct.0 at_i (same ∙ ap (λ (o : Option Table). (unwrap_or o a).name) (sym at_j)))
one_number (a ∷ as') (suc i) (suc j) t u distinct at_i at_j same = ap suc (one_number as' i j t u distinct.1 at_i at_j same)
