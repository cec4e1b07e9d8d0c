-- The ids of a table, found from the last one downward.
use Rattle.std.proofs.Common.{◌≡◌, ◌<◌, ◌≤◌, ◌^◌, ℕ, suc, ℤ, pos, negsuc, ◌+ℤ◌, ◌-ℤ◌, ◌≤ℤ◌, ◌<ℤ◌, Bool, true, false, List, [], ◌∷◌, ◌++◌, Option, Some, None, refl, ap, sym, subst, ◌∙◌, arith, w64, ◌⊎◌, inl, inr, ⊎_elim}
use Rattle.std.specs.Prelude.{◌||◌, FitsSigned, SomeIff, is_some, reverse}
use Rattle.std.specs.Cmp.{int_cmp_is, int_ranks, nat_cmp_total, ranks}
use Rattle.std.specs.Int.Signed.{mag}
use Rattle.std.specs.List.{AllByRecursion, list_any}
use Rattle.std.specs.List.Sorted.{IsStrictlySortedBy}
use Rattle.std.specs.Ordering.{MatchOrdering, int_cmp, int_eq, is_gt, nat_cmp, ordering_then}
use Rattle.std.specs.declared.cmp.Ordering.{Ordering}
use Rattle.std.specs.declared.cmp.Ordering.TheVariants.{Less, Equal, Greater}
use Rattle.std.proofs.lemmas.Bool.{cases_lt, false_from_ne_true, false≢true, true≢false}
use Rattle.std.proofs.lemmas.Bool.Decides.{Decides-int_eq}
use Rattle.std.proofs.lemmas.Cmp.{tied_itself}
use Rattle.std.proofs.lemmas.Int.{ints}
use Rattle.std.proofs.lemmas.List.{reverse-append}
use Rattle.lo_base.specs.declared.value.Cell.{Cell}
use Rattle.xact_core.specs.declared.snapshot.Snapshot.{Snapshot}
use Rattle.xact_core.specs.Transactions.{Transactions}
use Rattle.row_versions.specs.Search.{HasNoneIn, IsBetween, IsGreatestIn}
use Rattle.row_tables.specs.declared.row_key.RowKey.{RowKey}
use Rattle.row_tables.specs.declared.tables.Tables.{Tables}
use Rattle.row_tables.specs.Keys.{key_cmp, row_key}
use Rattle.row_tables.specs.Reading.{ListsIds}
use Rattle.row_tables.specs.Standing.{cells_at}
use Rattle.row_tables.specs.Terms.{count_of}

abbrev pub lowest : ℤ
lowest = negsuc 9223372036854775807

-- numbers of 64 bits

pub not_lower : (z : ℤ) → FitsSigned w64 z → lowest ≤ℤ z
not_lower (pos n) fits = omega (arith, ints)
not_lower (negsuc n) fits = omega (arith, ints, fits.sfits)

pub not_higher : (z : ℤ) → FitsSigned w64 z → z ≤ℤ pos 9223372036854775807
not_higher (pos n) fits = omega (arith, ints, fits.sfits)
not_higher (negsuc n) fits = omega (arith, ints)

fits_between : (z : ℤ) → lowest ≤ℤ z → z ≤ℤ pos 9223372036854775807 → FitsSigned w64 z
fits_between (pos n) low high = record { sfits = omega (arith, ints) }
fits_between (negsuc n) low high = record { sfits = omega (arith, ints) }

pub fits_or_not : (z : ℤ) → FitsSigned w64 z ⊎ (FitsSigned w64 z → ⊥)
fits_or_not z = ⊎_elim (λ l. inl (record { sfits = l })) (λ l. inr (λ fits. let s = fits.sfits in omega arith)) (cases_lt (mag z) (2 ^ 63))

-- what still is to be looked at lies up to the last id, and what was looked at past it

abbrev pub IsPast : Option ℤ → ℤ → Type 0
IsPast None id = Unit {0}
IsPast (Some last) id = last <ℤ id

abbrev pub FitsIf : Option ℤ → Type 0
FitsIf None = Unit {0}
FitsIf (Some last) = FitsSigned w64 last

-- the ids past the last one at which the view finds something, ascending
pub record ListsPast (x : Transactions) (v : Snapshot) (tables : Tables) (number : ℕ) (last : Option ℤ) (ids : List ℤ) : Type 0 where
  pub order : IsStrictlySortedBy int_cmp ids
  pub past : AllByRecursion (IsPast last) ids
  pub each : (id : ℤ) → FitsSigned w64 id → IsPast last id → list_any (int_eq id) ids ≡ is_some (cells_at x v tables (row_key number id))
  pub fit : AllByRecursion (λ (id : ℤ). FitsSigned w64 id) ids
  pub last_fits : FitsIf last

-- a number below or above another is not the same

below : (a b : ℤ) → a <ℤ b → int_eq a b ≡ false
below a b lower = false_from_ne_true (int_eq a b) (λ same. let one : a ≡ b = (Decides-int_eq a b).0 same in omega (arith, ints))

above : (a b : ℤ) → b <ℤ a → int_eq a b ≡ false
above a b higher = false_from_ne_true (int_eq a b) (λ same. let one : a ≡ b = (Decides-int_eq a b).0 same in omega (arith, ints))

none_below : (id : ℤ) (ids : List ℤ) → AllByRecursion (λ y. id <ℤ y) ids → list_any (int_eq id) ids ≡ false
none_below id [] all = refl
none_below id (y ∷ ys) all = ap (λ b. b || list_any (int_eq id) ys) (below id y all.0) ∙ none_below id ys all.1

all_above : (id last : ℤ) (ids : List ℤ) → id ≤ℤ last → AllByRecursion (IsPast (Some last)) ids → AllByRecursion (λ y. id <ℤ y) ids
all_above id last [] le all = tt
all_above id last (y ∷ ys) le all = (let far : last <ℤ y = all.0 in omega (arith, ints), all_above id last ys le all.1)

none_up_to : (id last : ℤ) (ids : List ℤ) → id ≤ℤ last → AllByRecursion (IsPast (Some last)) ids → list_any (int_eq id) ids ≡ false
none_up_to id last ids le all = none_below id ids (all_above id last ids le all)

all_after : (id : ℤ) (ids : List ℤ) → AllByRecursion (λ y. id <ℤ y) ids → AllByRecursion (λ y. int_cmp id y ≡ Less) ids
all_after id [] all = tt
all_after id (y ∷ ys) all = (sym (int_cmp_is id y Less all.0), all_after id ys all.1)

sorted_more : (id : ℤ) (ids : List ℤ) → AllByRecursion (λ y. id <ℤ y) ids → IsStrictlySortedBy int_cmp ids → IsStrictlySortedBy int_cmp (id ∷ ids)
unfolding IsStrictlySortedBy
sorted_more id ids all up = (all_after id ids all, up)

sorted_none : IsStrictlySortedBy int_cmp []
unfolding IsStrictlySortedBy
sorted_none = tt

-- keys of one table between two ids

le_table : (a b : ℕ) (r o : Ordering) → MatchOrdering r (a < b) (a ≡ b) (b < a) → is_gt (ordering_then r o) ≡ false → a ≤ b
le_table a b Less o is le = omega arith
le_table a b Equal o is le = omega arith
le_table a b Greater o is le = absurd (true≢false le)

le_id : (i j : ℤ) (r : Ordering) → MatchOrdering r (i <ℤ j) (i ≡ j) (j <ℤ i) → is_gt r ≡ false → i ≤ℤ j
le_id i j Less is le = omega (arith, ints)
le_id i j Equal is le = omega (arith, ints)
le_id i j Greater is le = absurd (true≢false le)

not_gt : (i j : ℤ) (r : Ordering) → MatchOrdering r (i <ℤ j) (i ≡ j) (j <ℤ i) → i ≤ℤ j → is_gt r ≡ false
not_gt i j Less is le = refl
not_gt i j Equal is le = refl
not_gt i j Greater is le = absurd (let far : j <ℤ i = is in omega (arith, ints))

by_ids : (n : ℕ) (o : Ordering) → ordering_then (nat_cmp n n) o ≡ o
by_ids n o = ap (λ (r : Ordering). ordering_then r o) (tied_itself nat_cmp_total n)

le_keys : (n : ℕ) (i j : ℤ) → is_gt (key_cmp (row_key n i) (row_key n j)) ≡ false → i ≤ℤ j
le_keys n i j le = le_id i j (int_cmp i j) (int_ranks i j) (sym (ap is_gt (by_ids n (int_cmp i j))) ∙ le)

keys_le : (n : ℕ) (i j : ℤ) → i ≤ℤ j → is_gt (key_cmp (row_key n i) (row_key n j)) ≡ false
keys_le n i j le = ap is_gt (by_ids n (int_cmp i j)) ∙ not_gt i j (int_cmp i j) (int_ranks i j) le

same_table : (n : ℕ) (i j : ℤ) (key : RowKey) → IsBetween key_cmp (row_key n i) (row_key n j) key → key ≡ row_key n key.id
same_table n i j key between =
    let up : n ≤ key.table = le_table n key.table (nat_cmp n key.table) (int_cmp i key.id) (ranks n key.table) between.low in
    let down : key.table ≤ n = le_table key.table n (nat_cmp key.table n) (int_cmp key.id j) (ranks key.table n) between.high in
    let same : key.table ≡ n = omega arith in
    ap (λ (t : ℕ). row_key t key.id) same

any_fits : (ks : List ℤ) → AllByRecursion (λ (k : ℤ). FitsSigned w64 k) ks → (id : ℤ) → list_any (int_eq id) ks ≡ true → FitsSigned w64 id
any_fits [] all id is = absurd (false≢true is)
any_fits (k ∷ ks) all id is = by (int_eq id k) refl is (any_fits ks all.1 id)
  where
    by : (b : Bool) → int_eq id k ≡ b → (b || list_any (int_eq id) ks) ≡ true → (list_any (int_eq id) ks ≡ true → FitsSigned w64 id) → FitsSigned w64 id
    by true same some rest = subst (λ (z : ℤ). FitsSigned w64 z) (sym ((Decides-int_eq id k).0 same)) all.0
    by false same some rest = rest some

-- the measure of the search

abbrev pub steps_from : Option ℤ → ℕ
steps_from None = 0
steps_from (Some last) = suc (count_of (last +ℤ pos 9223372036854775808))

counts : (a b : ℤ) → pos 0 ≤ℤ a → a <ℤ b → count_of a < count_of b
counts (pos a) (pos b) low less = omega (arith, ints)
counts (pos a) (negsuc b) low less = absurd (omega (arith, ints))
counts (negsuc a) b low less = absurd (omega (arith, ints))

module _ (x : Transactions) (v : Snapshot) (tables : Tables) (number : ℕ) where
  abbrev here : ℤ → Option (List Cell)
  here id = cells_at x v tables (row_key number id)

  pub lists_first : ListsPast x v tables number (Some (pos 9223372036854775807)) []
  lists_first = record {
    order = sorted_none;
    past = tt;
    each = λ id fits past. absurd (let high = not_higher id fits in let far : pos 9223372036854775807 <ℤ id = past in omega (arith, ints));
    fit = tt;
    last_fits = record { sfits = omega arith };
  }

  module _ (last : ℤ) (ids : List ℤ) (lists : ListsPast x v tables number (Some last) ids) where
    -- below the last id there is nothing more
    pub lists_all : HasNoneIn key_cmp x v tables.rows (row_key number lowest) (row_key number last) → ListsIds x v tables number ids
    lists_all none = record {
      order = lists.order;
      each = λ id fits. each id fits (int_cmp last id) (int_ranks last id);
      only = any_fits ids lists.fit;
    }
      where
        under : (id : ℤ) → FitsSigned w64 id → id ≤ℤ last → list_any (int_eq id) ids ≡ is_some (here id)
        under id fits le = none_up_to id last ids le lists.past ∙ sym (ap is_some (none.none (row_key number id) (record { low = keys_le number lowest id (not_lower id fits); high = keys_le number id last le })))

        each : (id : ℤ) → FitsSigned w64 id → (r : Ordering) → MatchOrdering r (last <ℤ id) (last ≡ id) (id <ℤ last) → list_any (int_eq id) ids ≡ is_some (here id)
        each id fits Less is = lists.each id fits is
        each id fits Equal is = under id fits (let same : last ≡ id = is in omega (arith, ints))
        each id fits Greater is = under id fits (let far : id <ℤ last = is in omega (arith, ints))

    module _ (key : RowKey) (found : IsGreatestIn key_cmp x v tables.rows (row_key number lowest) (row_key number last) key) (fits_key : FitsSigned w64 key.id) where
      key_is : key ≡ row_key number key.id
      key_is = same_table number lowest last key found.between

      key_le : key.id ≤ℤ last
      key_le = le_keys number key.id last (subst (λ (k : RowKey). is_gt (key_cmp k (row_key number last)) ≡ false) key_is found.between.high)

      key_there : is_some (here key.id) ≡ true
      key_there = subst (λ (k : RowKey). is_some (cells_at x v tables k) ≡ true) key_is found.some

      -- between the key and the last id there is nothing
      gap : (id : ℤ) → FitsSigned w64 id → key.id <ℤ id → id ≤ℤ last → is_some (here id) ≡ false
      gap id fits far le = false_from_ne_true (is_some (here id)) (λ some.
          let up : id ≤ℤ key.id = le_keys number id key.id (subst (λ (k : RowKey). is_gt (key_cmp (row_key number id) k) ≡ false) key_is (found.greatest (row_key number id) (record { low = keys_le number lowest id (not_lower id fits); high = keys_le number id last le }) some)) in
          omega (arith, ints))

      from_key : (id : ℤ) → FitsSigned w64 id → key.id ≤ℤ id → list_any (int_eq id) (key.id ∷ ids) ≡ is_some (here id)
      from_key id fits le = by_key (int_cmp key.id id) (int_ranks key.id id)
        where
          by_last : key.id <ℤ id → (r : Ordering) → MatchOrdering r (last <ℤ id) (last ≡ id) (id <ℤ last) → list_any (int_eq id) ids ≡ is_some (here id)
          by_last far Less is = lists.each id fits is
          by_last far Equal is = let low : id ≤ℤ last = let same : last ≡ id = is in omega (arith, ints) in none_up_to id last ids low lists.past ∙ sym (gap id fits far low)
          by_last far Greater is = let low : id ≤ℤ last = let below : id <ℤ last = is in omega (arith, ints) in none_up_to id last ids low lists.past ∙ sym (gap id fits far low)

          by_key : (r : Ordering) → MatchOrdering r (key.id <ℤ id) (key.id ≡ id) (id <ℤ key.id) → list_any (int_eq id) (key.id ∷ ids) ≡ is_some (here id)
          by_key Less is = ap (λ b. b || list_any (int_eq id) ids) (above id key.id is) ∙ by_last is (int_cmp last id) (int_ranks last id)
          by_key Equal is = ap (λ b. b || list_any (int_eq id) ids) ((Decides-int_eq id key.id).1 (sym is)) ∙ sym (subst (λ (z : ℤ). is_some (here z) ≡ true) is key_there)
          by_key Greater is = absurd (let far : id <ℤ key.id = is in omega (arith, ints))

      key_below : AllByRecursion (λ y. key.id <ℤ y) ids
      key_below = all_above key.id last ids key_le lists.past

      lists_on : (rest : Option ℤ) → AllByRecursion (IsPast rest) (key.id ∷ ids) → ((id : ℤ) → FitsSigned w64 id → IsPast rest id → key.id ≤ℤ id) → FitsIf rest → ListsPast x v tables number rest (key.id ∷ ids)
      lists_on rest past low fits_rest = record {
        order = sorted_more key.id ids key_below lists.order;
        past = past;
        each = λ id fits far. from_key id fits (low id fits far);
        fit = (fits_key, lists.fit);
        last_fits = fits_rest;
      }

      any_past : (ks : List ℤ) → AllByRecursion (IsPast None) ks
      any_past [] = tt
      any_past (k ∷ ks) = (tt, any_past ks)

      at_lowest : (FitsSigned w64 (key.id -ℤ pos 1) → ⊥) → (id : ℤ) → FitsSigned w64 id → key.id ≤ℤ id
      at_lowest unfit id fits = by (int_cmp key.id id) (int_ranks key.id id)
        where
          by : (r : Ordering) → MatchOrdering r (key.id <ℤ id) (key.id ≡ id) (id <ℤ key.id) → key.id ≤ℤ id
          by Less is = let far : key.id <ℤ id = is in omega (arith, ints)
          by Equal is = let same : key.id ≡ id = is in omega (arith, ints)
          by Greater is =
              let far : id <ℤ key.id = is in
              let low = not_lower id fits in
              let high = not_higher key.id fits_key in
              absurd (unfit (fits_between (key.id -ℤ pos 1) (omega (arith, ints)) (omega (arith, ints))))

      pub lists_more : (rest : Option ℤ) → SomeIff rest (FitsSigned w64 (key.id -ℤ pos 1)) (key.id -ℤ pos 1) → ListsPast x v tables number rest (key.id ∷ ids)
      lists_more None unfit = lists_on None (any_past (key.id ∷ ids)) (λ id fits past. at_lowest unfit id fits) tt
      lists_more (Some r) is =
          let same : r ≡ key.id -ℤ pos 1 = is.1 in
          let down : r <ℤ key.id = omega (arith, ints) in
          lists_on (Some r) (down, all_above r last ids (let le = key_le in omega (arith, ints)) lists.past) (λ id fits past. let far : r <ℤ id = past in omega (arith, ints)) (subst (λ (z : ℤ). FitsSigned w64 z) (sym same) is.0)

      -- the measure of the search
      pub lists_fewer : (rest : Option ℤ) → SomeIff rest (FitsSigned w64 (key.id -ℤ pos 1)) (key.id -ℤ pos 1) → steps_from rest < steps_from (Some last)
      lists_fewer None unfit = omega arith
      lists_fewer (Some r) is =
          let same : r ≡ key.id -ℤ pos 1 = is.1 in
          let low = not_lower r (subst (λ (z : ℤ). FitsSigned w64 z) (sym same) is.0) in
          let le = key_le in
          let fewer = counts (r +ℤ pos 9223372036854775808) (last +ℤ pos 9223372036854775808) (omega (arith, ints)) (omega (arith, ints)) in
          omega arith

  pub lists_past_all : (ids : List ℤ) → ListsPast x v tables number None ids → ListsIds x v tables number ids
  lists_past_all ids lists = record {
    order = lists.order;
    each = λ id fits. lists.each id fits tt;
    only = any_fits ids lists.fit;
  }

pub reverse_push : (ids : List ℤ) (id : ℤ) → reverse (ids ++ id ∷ []) ≡ id ∷ reverse ids
reverse_push ids id = reverse-append ids (id ∷ [])
