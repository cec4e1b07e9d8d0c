-- What deeds of a session's own leave: the session's view has all of them, nobody else is in its way, and a row that none of them
-- puts is not there.
use Rattle.std.proofs.Common.{◌≡◌, ℕ, ℤ, ◌+◌, Bool, true, false, cond, List, [], ◌∷◌, ◌++◌, Option, Some, None, refl, ap, sym, ◌∙◌, arith}
use Rattle.std.specs.Prelude.{◌==◌, ◌&&◌, nat_lt, int_lt, bytes_eq}
use Rattle.std.specs.Ordering.{int_cmp, int_eq, ordering_reverse}
use Rattle.std.specs.declared.cmp.Ordering.TheVariants.{Less, Equal, Greater}
use Rattle.std.proofs.lemmas.Bool.Decides.{nat_tests, Decides-int_eq}
use Rattle.std.proofs.lemmas.Cmp.{int_cmp_total}
use Rattle.lo_model.specs.declared.owner.Owner.{Owner}
use Rattle.lo_model.specs.declared.owner.Owner.TheVariants.{Running}
use Rattle.lo_model.specs.declared.viewer.Viewer.TheVariants.{Whole}
use Rattle.lo_model.specs.Edit.{Deed, Edit, deeds, edits_by}
use Rattle.lo_model.specs.Row.{Row, is_row, row_after, row_after_all, row_in}
use Rattle.lo_model.specs.Touch.{Touched, busy_with, lower_of, meets, other_session, touched}
use Rattle.lo_model.specs.View.{view}
use Rattle.row_tables.specs.Standing.{at_row}
use Rattle.row_tables.proofs.RowEdits.{row_in_own}
use Rattle.lo_opening.specs.Opening.{id_follows}

-- edits by one owner at one clock

pub edits_both : (clock : ℕ) (owner : Owner) (ds es : List Deed) → edits_by clock owner (ds ++ es) ≡ edits_by clock owner ds ++ edits_by clock owner es
edits_both clock owner [] es = refl
edits_both clock owner (d ∷ ds) es = ap (λ (xs : List (Edit Deed)). record { clock = clock; owner = owner; deed = d } ∷ xs) (edits_both clock owner ds es)

pub deeds_by : (clock : ℕ) (owner : Owner) (ds : List Deed) → deeds (edits_by clock owner ds) ≡ ds
deeds_by clock owner [] = refl
deeds_by clock owner (d ∷ ds) = ap (λ (xs : List Deed). d ∷ xs) (deeds_by clock owner ds)

all_seen : (clock s level : ℕ) (ds : List Deed) → view (clock + 1) (Whole s) (edits_by clock (Running s level) ds) ≡ edits_by clock (Running s level) ds
all_seen clock s level [] = refl
all_seen clock s level (d ∷ ds) =
    let now : nat_lt clock (clock + 1) ≡ true = grind (arith, nat_tests) in
    let own : (s == s) ≡ true = grind (arith, nat_tests) in
    rw (now, own) (ap (λ (xs : List (Edit Deed)). record { clock = clock; owner = Running s level; deed = d } ∷ xs) (all_seen clock s level ds))

pub deeds_seen : (clock s level : ℕ) (ds : List Deed) → deeds (view (clock + 1) (Whole s) (edits_by clock (Running s level) ds)) ≡ ds
deeds_seen clock s level ds = ap deeds (all_seen clock s level ds) ∙ deeds_by clock (Running s level) ds

-- the row of own deeds

pub row_of_deeds : (clock : ℕ) (owner : Owner) (name : List ℕ) (id : ℤ) (ds : List Deed) → row_in name id (edits_by clock owner ds) ≡ row_after_all name id None ds
row_of_deeds clock owner name id ds = ap (row_after_all name id None) (deeds_by clock owner ds)

pub row_seen : (clock s level : ℕ) (name : List ℕ) (id : ℤ) (ds : List Deed) → row_in name id (view (clock + 1) (Whole s) (edits_by clock (Running s level) ds)) ≡ row_after_all name id None ds
row_seen clock s level name id ds = ap (row_in name id) (all_seen clock s level ds) ∙ row_of_deeds clock (Running s level) name id ds

pub row_of_none : (clock : ℕ) (owner : Owner) (name : List ℕ) (id : ℤ) (ds : List Deed) → at_row name id (edits_by clock owner ds) ≡ [] → row_after_all name id None ds ≡ None
row_of_none clock owner name id ds none = sym (row_of_deeds clock owner name id ds) ∙ (row_in_own name id (edits_by clock owner ds) ∙ ap (row_in name id) none)

pub rows_both : (name : List ℕ) (id : ℤ) (old : Option Row) (ds es : List Deed) → row_after_all name id old (ds ++ es) ≡ row_after_all name id (row_after_all name id old ds) es
rows_both name id old [] es = refl
rows_both name id old (d ∷ ds) es = rows_both name id (row_after name id old d) ds es

-- nobody else holds what own edits touch

own_other : (s level : ℕ) → other_session s (Running s level) ≡ None
own_other s level = let own : (s == s) ≡ true = grind (arith, nat_tests) in rw own refl

either_none : (b : Bool) (o : Option ℕ) → o ≡ None → cond b o None ≡ None
either_none true o none = none
either_none false o none = refl

pub own_free : (clock s level : ℕ) (wanted : Touched) (ds : List Deed) → busy_with s wanted (edits_by clock (Running s level) ds) ≡ None
own_free clock s level wanted [] = refl
own_free clock s level wanted (d ∷ ds) =
    ap (λ (o : Option ℕ). lower_of o (busy_with s wanted (edits_by clock (Running s level) ds))) (either_none (meets wanted (touched d)) (other_session s (Running s level)) (own_other s level))
    ∙ own_free clock s level wanted ds

-- ids in their order

pub less_of : (a b : ℤ) → int_lt a b ≡ true → int_cmp a b ≡ Less
less_of a b is = rw is refl

pub of_less : (a b : ℤ) → int_cmp a b ≡ Less → int_lt a b ≡ true
of_less a b = by (int_lt a b) (int_lt b a)
  where
    by : (p q : Bool) → cond p Less (cond q Greater Equal) ≡ Less → p ≡ true
    by true q is = refl
    by false true is = cc
    by false false is = cc

pub lt_trans : (a b c : ℤ) → int_lt a b ≡ true → int_lt b c ≡ true → int_lt a c ≡ true
lt_trans a b c first second = of_less a c (int_cmp_total.trans a b c (less_of a b first) (less_of b c second))

pub follows_both : (last : Option ℤ) (id next : ℤ) → id_follows last id ≡ true → int_lt id next ≡ true → id_follows last next ≡ true
follows_both None id next first second = refl
follows_both (Some l) id next first second = lt_trans l id next first second

pub not_itself : (a : ℤ) → int_lt a a ≡ true → ⊥
not_itself a is = let less = less_of a a is in let turned = int_cmp_total.antisymm a a in absurd (turns (sym less ∙ (turned ∙ ap ordering_reverse less)))
  where
    turns : Less ≡ Greater → ⊥
    turns e = cc

-- a row of another id
pub apart : (name : List ℕ) (id next : ℤ) → int_lt id next ≡ true → is_row name next name id ≡ false
apart name id next less = by (bytes_eq name name) (int_eq next id) refl
  where
    by : (named same : Bool) → int_eq next id ≡ same → (named && same) ≡ false
    by named false is = both_false named
      where
        both_false : (b : Bool) → (b && false) ≡ false
        both_false true = refl
        both_false false = refl
    by named true is = absurd (not_itself id (ap (int_lt id) (sym ((Decides-int_eq next id).0 is)) ∙ less))
