-- What is listed in order: each item once, ascending, and exactly the objects and the rows of a view.
use Rattle.std.proofs.Common.{◌≡◌, refl, sym, ap, ◌∙◌, ℕ, ℤ, Bool, true, false, ◌&&◌, ◌||◌, ◌==◌, List, [], ◌∷◌, Option, Some, None, arith}
use Rattle.std.specs.Prelude.{bytes_eq, is_some, filter, if◌then◌else◌}
use Rattle.std.specs.List.{list_any, AllByRecursion}
use Rattle.std.specs.List.Sorted.{IsStrictlySortedBy, IsStrictlyIncreasing}
use Rattle.std.specs.declared.cmp.Ordering.{Ordering}
use Rattle.std.specs.declared.cmp.Ordering.TheVariants.{Less, Equal, Greater}
use Rattle.std.specs.Ordering.{nat_cmp, int_cmp, int_eq, match_ordering, ordering_reverse}
use Rattle.std.specs.Cmp.{IsTotalOrder, nat_cmp_total}
use Rattle.std.specs.BTreeSet.{insert_key}
use Rattle.std.proofs.lemmas.Cmp.{int_cmp_total}
use Rattle.std.proofs.lemmas.Bool.Decides.{nat_tests, Decides-int_eq}
use Rattle.std.proofs.lemmas.List.Folds.{list_any-append}
use Rattle.std.proofs.lemmas.List.Kept.{IsStrictlySortedBy-filter}
use Rattle.std.proofs.lemmas.Map.Keys.{IsStrictlyIncreasing-from_sorted}
use Rattle.std.proofs.lemmas.Map.Lookups.{CmpEqualImpliesEq, exact_unsigned, exact_signed}
use Rattle.lo_model.specs.Edit.{Deed, Create, Write, Cut, Unlink, Put, Delete, Edit, deeds}
use Rattle.lo_model.specs.Listing.{in_order, created_oid, created_oids, put_ids, put_id, has_object, has_row, oids_in, ids_in}
use Rattle.lo_model.specs.Object.{object_after, object_after_all}
use Rattle.lo_model.specs.Row.{Row, row_after, row_after_all, is_row}

module _ {K : Type 0} (cmp : K → K → Ordering) where
  all_inserted : (P : K → Type 0) (ks : List K) (k : K) → AllByRecursion P ks → P k → AllByRecursion P (insert_key cmp ks k)
  all_inserted P [] k a p = (p, tt)
  all_inserted P (x ∷ xs) k a p = by (cmp k x) (all_inserted P xs k a.1 p)
    where
      by : (r : Ordering) → AllByRecursion P (insert_key cmp xs k) → AllByRecursion P (match_ordering r (k ∷ x ∷ xs) (x ∷ xs) (x ∷ insert_key cmp xs k))
      by Less more = (p, a)
      by Equal more = a
      by Greater more = (a.0, more)

  all_below : IsTotalOrder cmp → (k x : K) (xs : List K) → cmp k x ≡ Less → AllByRecursion (λ y. cmp x y ≡ Less) xs → AllByRecursion (λ y. cmp k y ≡ Less) xs
  all_below total k x [] h a = tt
  all_below total k x (y ∷ ys) h a = (total.trans k x y h a.0, all_below total k x ys h a.1)

  -- one item put at its place
  sorted_inserted : IsTotalOrder cmp → (ks : List K) (k : K) → IsStrictlySortedBy cmp ks → IsStrictlySortedBy cmp (insert_key cmp ks k)
  unfolding IsStrictlySortedBy
  sorted_inserted total [] k s = (tt, tt)
  sorted_inserted total (x ∷ xs) k s = by (cmp k x) refl (sorted_inserted total xs k s.1)
    where
      by : (r : Ordering) → cmp k x ≡ r → IsStrictlySortedBy cmp (insert_key cmp xs k) → IsStrictlySortedBy cmp (match_ordering r (k ∷ x ∷ xs) (x ∷ xs) (x ∷ insert_key cmp xs k))
      by Less h more = ((h, all_below total k x xs h s.0), s)
      by Equal h more = s
      by Greater h more = (all_inserted (λ y. cmp x y ≡ Less) xs k s.0 (total.antisymm x k ∙ ap ordering_reverse h), more)

  -- all in order
  pub sorted_in_order : IsTotalOrder cmp → (ks : List K) → IsStrictlySortedBy cmp (in_order cmp ks)
  unfolding IsStrictlySortedBy
  sorted_in_order total [] = tt
  sorted_in_order total (k ∷ ks) = sorted_inserted total (in_order cmp ks) k (sorted_in_order total ks)

  any_inserted : CmpEqualImpliesEq cmp → (p : K → Bool) (ks : List K) (k : K) → list_any p (insert_key cmp ks k) ≡ (p k || list_any p ks)
  any_inserted exact p [] k = refl
  any_inserted exact p (x ∷ xs) k = by (cmp k x) refl (any_inserted exact p xs k)
    where
      by : (r : Ordering) → cmp k x ≡ r → list_any p (insert_key cmp xs k) ≡ (p k || list_any p xs) → list_any p (match_ordering r (k ∷ x ∷ xs) (x ∷ xs) (x ∷ insert_key cmp xs k)) ≡ (p k || (p x || list_any p xs))
      by Less h more = refl
      by Equal h more = let same : k ≡ x = exact k x h in rw same (either (p x) (list_any p xs))
        where
          either : (a b : Bool) → (a || b) ≡ (a || (a || b))
          either true b = refl
          either false b = refl
      by Greater h more = rw more (turned (p x) (p k) (list_any p xs))
        where
          turned : (a b c : Bool) → (a || (b || c)) ≡ (b || (a || c))
          turned true true c = refl
          turned true false c = refl
          turned false true c = refl
          turned false false c = refl

  -- and no other items
  pub any_in_order : CmpEqualImpliesEq cmp → (p : K → Bool) (ks : List K) → list_any p (in_order cmp ks) ≡ list_any p ks
  any_in_order exact p [] = refl
  any_in_order exact p (k ∷ ks) = any_inserted exact p (in_order cmp ks) k ∙ ap (λ b. p k || b) (any_in_order exact p ks)

-- of those that pass a test of the item itself, whether one is it
any_filtered : {K : Type 0} (same f : K → Bool) (b : Bool) → ((k : K) → same k ≡ true → f k ≡ b) → (ks : List K) → list_any same (filter f ks) ≡ (b && list_any same ks)
any_filtered same f true h [] = refl
any_filtered same f false h [] = refl
any_filtered same f b h (k ∷ ks) = by (same k) refl (f k) refl (any_filtered same f b h ks)
  where
    by : (r : Bool) → same k ≡ r → (q : Bool) → f k ≡ q → list_any same (filter f ks) ≡ (b && list_any same ks) → list_any same (filter f (k ∷ ks)) ≡ (b && (same k || list_any same ks))
    by true is true passes more = rw (passes, is, sym (h k is) ∙ passes) refl
    by true is false passes more = rw (passes, is, more, sym (h k is) ∙ passes) refl
    by false is true passes more = rw (passes, is, more) refl
    by false is false passes more = rw (passes, is, more) refl

abbrev is_number : ℕ → ℕ → Bool
is_number o k = k == o

abbrev is_id : ℤ → ℤ → Bool
is_id i k = int_eq i k

abbrev chosen : {X : Type 0} → Bool → Option X → Option X → Option X
chosen b x y = if b then x else y

made_there : {X : Type 0} (x : X) (b : Bool) → is_some (chosen b (Some x) None) ≡ true → (b || false) ≡ true
made_there x true h = refl
made_there x false h = h

never_there : {X : Type 0} (old : Option X) (b : Bool) → old ≡ None → is_some (chosen b old None) ≡ true → false ≡ true
never_there old true none h = sym (ap is_some none) ∙ h
never_there old false none h = h

-- an object that is there after a deed was there before, or is the one that the deed creates
after_one : (o : ℕ) (old : Option (List ℕ)) (d : Deed) → is_some (object_after o old d) ≡ true → (is_some old || list_any (is_number o) (created_oid d)) ≡ true
after_one o (Some x) d h = refl
after_one o None (Create p) h = made_there [] (p == o) h
after_one o None (Write p at new) h = never_there None (p == o) refl h
after_one o None (Cut p size) h = never_there None (p == o) refl h
after_one o None (Unlink p) h = never_there None (p == o) refl h
after_one o None (Put t i values stored) h = h
after_one o None (Delete t i) h = h

-- so what is there after all of them was created by one
through : (a b c e : Bool) → (b ≡ true → (a || c) ≡ true) → (b || e) ≡ true → (a || (c || e)) ≡ true
through true b c e f g = refl
through false true true e f g = refl
through false true false e f g = let no : false ≡ true = f refl in cc
through false false true e f g = refl
through false false false e f g = g

created_first : (o : ℕ) (old : Option (List ℕ)) (ds : List Deed) → is_some (object_after_all o old ds) ≡ true → (is_some old || list_any (is_number o) (created_oids ds)) ≡ true
created_first o old [] h = rw h refl
created_first o old (d ∷ ds) h = ap (λ b. is_some old || b) (list_any-append (is_number o) (created_oid d) (created_oids ds)) ∙ through (is_some old) (is_some (object_after o old d)) (list_any (is_number o) (created_oid d)) (list_any (is_number o) (created_oids ds)) (after_one o old d) (created_first o (object_after o old d) ds h)

-- the same of rows and puts
row_put : (row : Row) (p : ℤ → Bool) (j : ℤ) (table id : Bool) → p j ≡ id → is_some (chosen (table && id) (Some row) None) ≡ true → list_any p (if table then j ∷ [] else []) ≡ true
row_put row p j true id same h = by id same h
  where
    by : (id : Bool) → p j ≡ id → is_some (chosen id (Some row) None) ≡ true → (p j || false) ≡ true
    by true same h = rw same refl
    by false same h = cc
row_put row p j false id same h = cc

row_after_one : (t : List ℕ) (i : ℤ) (old : Option Row) (d : Deed) → is_some (row_after t i old d) ≡ true → (is_some old || list_any (is_id i) (put_id t d)) ≡ true
row_after_one t i (Some row) d h = refl
row_after_one t i None (Create p) h = h
row_after_one t i None (Write p at new) h = h
row_after_one t i None (Cut p size) h = h
row_after_one t i None (Unlink p) h = h
row_after_one t i None (Put u j values stored) h = row_put (record { values = values; stored = stored }) (is_id i) j (bytes_eq t u) (int_eq i j) refl h
row_after_one t i None (Delete u j) h = never_there None (is_row t i u j) refl h

put_first : (t : List ℕ) (i : ℤ) (old : Option Row) (ds : List Deed) → is_some (row_after_all t i old ds) ≡ true → (is_some old || list_any (is_id i) (put_ids t ds)) ≡ true
put_first t i old [] h = rw h refl
put_first t i old (d ∷ ds) h = ap (λ b. is_some old || b) (list_any-append (is_id i) (put_id t d) (put_ids t ds)) ∙ through (is_some old) (is_some (row_after t i old d)) (list_any (is_id i) (put_id t d)) (list_any (is_id i) (put_ids t ds)) (row_after_one t i old d) (put_first t i (row_after t i old d) ds h)

exact_number : (k o : ℕ) → is_number o k ≡ true → k ≡ o
exact_number k o h = grind (arith, nat_tests, h)

all_there : (there listed : Bool) → (there ≡ true → listed ≡ true) → (there && listed) ≡ there
all_there true listed f = f refl
all_there false listed f = refl

pub oids_are : (v : List (Edit Deed)) (o : ℕ) → list_any (is_number o) (oids_in v) ≡ has_object v o
oids_are v o = any_filtered (is_number o) (has_object v) (has_object v o) (λ k same. ap (has_object v) (exact_number k o same)) (in_order nat_cmp (created_oids (deeds v))) ∙ all_there (has_object v o) (list_any (is_number o) (in_order nat_cmp (created_oids (deeds v)))) (λ there. any_in_order nat_cmp exact_unsigned (is_number o) (created_oids (deeds v)) ∙ created_first o None (deeds v) there)

pub oids_ascend : (v : List (Edit Deed)) → IsStrictlyIncreasing (oids_in v)
oids_ascend v = IsStrictlyIncreasing-from_sorted (oids_in v) (IsStrictlySortedBy-filter nat_cmp (has_object v) (in_order nat_cmp (created_oids (deeds v))) (sorted_in_order nat_cmp nat_cmp_total (created_oids (deeds v))))

pub ids_are : (t : List ℕ) (v : List (Edit Deed)) (i : ℤ) → list_any (is_id i) (ids_in t v) ≡ has_row v t i
ids_are t v i = any_filtered (is_id i) (has_row v t) (has_row v t i) (λ k same. ap (has_row v t) (sym ((Decides-int_eq i k).0 same))) (in_order int_cmp (put_ids t (deeds v))) ∙ all_there (has_row v t i) (list_any (is_id i) (in_order int_cmp (put_ids t (deeds v)))) (λ there. any_in_order int_cmp exact_signed (is_id i) (put_ids t (deeds v)) ∙ put_first t i None (deeds v) there)

pub ids_ascend : (t : List ℕ) (v : List (Edit Deed)) → IsStrictlySortedBy int_cmp (ids_in t v)
ids_ascend t v = IsStrictlySortedBy-filter int_cmp (has_row v t) (in_order int_cmp (put_ids t (deeds v))) (sorted_in_order int_cmp int_cmp_total (put_ids t (deeds v)))
