-- A row while values are moved out of it, cell after cell, and what that leaves in the chunks.
use Rattle.std.proofs.Common.{◌≡◌, ℕ, zero, suc, ◌+◌, ◌<◌, ◌≤◌, Bool, true, false, ◌==◌, List, [], ◌∷◌, ◌++◌, length, take, set, get_or, Option, Some, None, refl, sym, ap, subst, ◌∙◌, arith, append-nil, append_assoc}
use Rattle.std.proofs.lemmas.Bool.{or_from, or_parts}
use Rattle.std.proofs.lemmas.List.{length-append, set-get_or, take_all}
use Rattle.std.proofs.lemmas.List.Folds.{list_any-append}
use Rattle.lo_base.specs.declared.value.Cell.{Cell}
use Rattle.lo_base.specs.declared.value.Cell.TheVariants as cells
use Rattle.xact_core.specs.Transactions.{Transactions}
use Rattle.row_versions.specs.Stack.{Each}
use Rattle.row_versions.specs.Stands.{standing, lowest_other}
use Rattle.row_versions.proofs.Stacking.{each_both, each_more}
use Rattle.toast_chunks.specs.declared.chunks.Chunks.{Chunks}
use Rattle.toast_chunks.specs.Calls.{IsFree, LeavesOwn}
use Rattle.toast_chunks.specs.Values.{GoWith, next_number}
use Rattle.toast_chunks.proofs.Steps.{left_none, left_more}
use Rattle.row_tables.specs.Cells.{Moved, all_moved, all_settled, has_moved, moved_out_of, next_after, settled}
use Rattle.row_tables.specs.Outside.{FitsLength, MovesAll, StoredBetween, cell_or}
use Rattle.row_tables.proofs.EachOf.{each_append}
use Rattle.row_tables.proofs.Places.{apart_test, each_at}

-- the row

pub settled_length : (os : List Bool) (old : List Cell) (n : ℕ) → length (all_settled os old n) ≡ length old
settled_length [] old n = refl
settled_length (o ∷ os) [] n = refl
settled_length (o ∷ os) (c ∷ cs) n = ap suc (settled_length os cs (next_after o c n))

pub settled_behind : (os : List Bool) (old : List Cell) (n i : ℕ) (d : Cell) → get_or (all_settled (take i os) old n) i d ≡ get_or old i d
settled_behind os old n zero d = refl
settled_behind [] old n (suc i) d = refl
settled_behind (o ∷ os) [] n (suc i) d = refl
settled_behind (o ∷ os) (c ∷ cs) n (suc i) d = settled_behind os cs (next_after o c n) i d

-- the number that the next value gets
abbrev pub number_at : (os : List Bool) → (old : List Cell) → (first i : ℕ) → ℕ
number_at os old n i = n + length (all_moved (take i os) old n)

number_on : (o : Bool) (os : List Bool) (c : Cell) (cs : List Cell) (n i : ℕ) → number_at os cs (next_after o c n) i ≡ number_at (o ∷ os) (c ∷ cs) n (suc i)
number_on o os c cs n i = omega (arith, length-append (moved_out_of o c n) (all_moved (take i os) cs (next_after o c n)))

settled_set : (os : List Bool) (old : List Cell) (n i : ℕ) (o : Bool) (c : Cell) → i < length os → i < length old → o ≡ get_or os i o → c ≡ get_or old i c → set (all_settled (take i os) old n) i (settled o c (number_at os old n i)) ≡ all_settled (take (suc i) os) old n
settled_set [] old n i o c a b p q = absurd (omega (arith, a))
settled_set (o' ∷ os) [] n i o c a b p q = absurd (omega (arith, b))
settled_set (o' ∷ os) (c' ∷ cs) n zero o c a b p q =
    let none : n + 0 ≡ n = omega arith in
    ap (λ m. settled o c m ∷ cs) none ∙ ap (λ t. settled t c n ∷ cs) p ∙ ap (λ d. settled o' d n ∷ cs) q
settled_set (o' ∷ os) (c' ∷ cs) n (suc i) o c a b p q =
    ap (λ m. settled o' c' n ∷ set (all_settled (take i os) cs (next_after o' c' n)) i (settled o c m)) (sym (number_on o' os c' cs n i))
    ∙ ap (λ ds. settled o' c' n ∷ ds) (settled_set os cs (next_after o' c' n) i o c (omega (arith, a)) (omega (arith, b)) p q)

-- what was moved

moved_on : (os : List Bool) (old : List Cell) (n i : ℕ) (o : Bool) (c : Cell) → i < length os → i < length old → o ≡ get_or os i o → c ≡ get_or old i c → all_moved (take i os) old n ++ moved_out_of o c (number_at os old n i) ≡ all_moved (take (suc i) os) old n
moved_on [] old n i o c a b p q = absurd (omega (arith, a))
moved_on (o' ∷ os) [] n i o c a b p q = absurd (omega (arith, b))
moved_on (o' ∷ os) (c' ∷ cs) n zero o c a b p q =
    let none : n + 0 ≡ n = omega arith in
    ap (λ m. moved_out_of o c m) none ∙ ap (λ t. moved_out_of t c n) p ∙ ap (λ d. moved_out_of o' d n) q ∙ sym (append-nil (moved_out_of o' c' n))
moved_on (o' ∷ os) (c' ∷ cs) n (suc i) o c a b p q =
    append_assoc (moved_out_of o' c' n) (all_moved (take i os) cs (next_after o' c' n)) (moved_out_of o c (number_at (o' ∷ os) (c' ∷ cs) n (suc i)))
    ∙ ap (λ m. moved_out_of o' c' n ++ (all_moved (take i os) cs (next_after o' c' n) ++ moved_out_of o c m)) (sym (number_on o' os c' cs n i))
    ∙ ap (λ ms. moved_out_of o' c' n ++ ms) (moved_on os cs (next_after o' c' n) i o c (omega (arith, a)) (omega (arith, b)) p q)

-- numbers of moved values are the next ones

one_in : (o : Bool) (c : Cell) (n : ℕ) → Each (λ (m : Moved). (n ≤ m.number) × (m.number < next_after o c n)) (moved_out_of o c n)
one_in false c n = tt
one_in true cells.Null n = tt
one_in true (cells.Int z) n = tt
one_in true (cells.Oid z) n = tt
one_in true (cells.Inline bytes) n = ((omega arith, omega arith), tt)
one_in true (cells.Text bytes) n = tt
one_in true (cells.Outside l k) n = tt

all_in : (os : List Bool) (cs : List Cell) (n : ℕ) → Each (λ (m : Moved). (n ≤ m.number) × (m.number < n + length (all_moved os cs n))) (all_moved os cs n)
all_in [] cs n = tt
all_in (o ∷ os) [] n = tt
all_in (o ∷ os) (c ∷ cs) n =
    let long = length-append (moved_out_of o c n) (all_moved os cs (next_after o c n)) in
    each_append _ (moved_out_of o c n) (all_moved os cs (next_after o c n))
    (each_more _ _ (λ m h. (h.0, omega (arith, h.1, long))) (moved_out_of o c n) (one_in o c n))
    (each_more _ _ (λ m h. (omega (arith, h.0), omega (arith, h.1, long))) (all_moved os cs (next_after o c n)) (all_in os cs (next_after o c n)))

not_moved : (ms : List Moved) (n k : ℕ) → k < n → Each (λ (m : Moved). n ≤ m.number) ms → has_moved ms k ≡ false
not_moved [] n k less h = refl
not_moved (m ∷ ms) n k less h = or_from (m.number == k) (has_moved ms k) (apart_test m.number k (λ same. omega (arith, same, less, h.0))) (not_moved ms n k less h.1)

-- none of a number below the next one is moved
pub none_moved : (os : List Bool) (cs : List Cell) (n k : ℕ) → k < n → has_moved (all_moved os cs n) k ≡ false
none_moved os cs n k less = not_moved (all_moved os cs n) n k less (each_more _ _ (λ m h. h.0) (all_moved os cs n) (all_in os cs n))

one_apart : (o : Bool) (c : Cell) (n k : ℕ) → k < n → has_moved (moved_out_of o c n) k ≡ false
one_apart o c n k less = not_moved (moved_out_of o c n) n k less (each_more _ _ (λ m h. h.0) (moved_out_of o c n) (one_in o c n))

-- the chunks

module _ (x : Transactions) (s : ℕ) where
  pub moves_none : (a : Chunks) → MovesAll x s [] a a
  moves_none a = record { next = omega arith; here = tt; others = λ n k none. refl }

  -- values were moved out after others
  pub moves_both : (ms ns : List Moved) (a b c : Chunks) → Each (λ (m : Moved). has_moved ns m.number ≡ false) ms → MovesAll x s ms a b → MovesAll x s ns b c → MovesAll x s (ms ++ ns) a c
  moves_both ms ns a b c apart first second = record {
    next = omega (arith, first.next, second.next, length-append ms ns);
    here = each_append (StoredBetween x s c) ms ns (each_both _ _ _ later ms apart first.here) second.here;
    others = λ n k none. let parts = or_parts (has_moved ms n) (has_moved ns n) (sym (list_any-append (λ (m : Moved). m.number == n) ms ns) ∙ none) in second.others n k parts.1 ∙ first.others n k parts.0;
  }
    where
      later : (m : Moved) → has_moved ns m.number ≡ false → StoredBetween x s b m → StoredBetween x s c m
      later m none stored = record { before = stored.before; after = stored.after; stores = stored.stores; since = λ k. second.others m.number k none ∙ stored.since k }

  -- the cells before a place are settled
  pub record MovingTo (os : List Bool) (old now : List Cell) (before after : Chunks) : Type 0 where
    pub row : now ≡ all_settled os old (next_number before)
    pub moved : MovesAll x s (all_moved os old (next_number before)) before after
    pub left : LeavesOwn x s before after
    pub goes : GoWith x after

  pub moving_start : (os : List Bool) (old : List Cell) (chunks : Chunks) → GoWith x chunks → MovingTo (take 0 os) old old chunks chunks
  moving_start os old chunks goes = record { row = refl; moved = moves_none chunks; left = left_none x s chunks; goes = goes }

  module _ (os : List Bool) (old now : List Cell) (i : ℕ) (before mid : Chunks) (so_far : MovingTo (take i os) old now before mid) where
    pub moving_length : length now ≡ length old
    moving_length = ap (λ (r : List Cell). length r) so_far.row ∙ settled_length (take i os) old (next_number before)

    pub moving_at : (c : Cell) → c ≡ get_or now i c → c ≡ get_or old i c
    moving_at c is = is ∙ ap (λ (r : List Cell). get_or r i c) so_far.row ∙ settled_behind os old (next_number before) i c

    pub moving_fits : (c : Cell) → i < length old → c ≡ get_or now i c → Each FitsLength old → FitsLength c
    moving_fits c less is fit = each_at FitsLength old i c fit less (moving_at c is)

    pub moving_next : (after : Chunks) (o : Bool) (c y : Cell) → i < length os → i < length old → o ≡ get_or os i o → c ≡ get_or now i c → y ≡ settled o c (next_number mid) → MovesAll x s (moved_out_of o c (next_number mid)) mid after → LeavesOwn x s mid after → GoWith x after → MovingTo (take (i + 1) os) old (set now i y) before after
    moving_next after o c y a b p q is moves left goes = record {
      row = ap (λ d. set now i d) is ∙ ap (λ m. set now i (settled o c m)) number ∙ ap (λ (r : List Cell). set r i (settled o c (number_at os old (next_number before) i))) so_far.row ∙ settled_set os old (next_number before) i o c a b p (moving_at c q) ∙ ap (λ m. all_settled (take m os) old (next_number before)) on;
      moved = subst (λ ms. MovesAll x s ms before after) (ap (λ m. all_moved (take i os) old (next_number before) ++ moved_out_of o c m) number ∙ moved_on os old (next_number before) i o c a b p (moving_at c q) ∙ ap (λ m. all_moved (take m os) old (next_number before)) on) (moves_both (all_moved (take i os) old (next_number before)) (moved_out_of o c (next_number mid)) before mid after apart so_far.moved moves);
      left = left_more x s before mid after so_far.left left;
      goes = goes;
    }
      where
        on : suc i ≡ i + 1
        on = omega arith

        number : next_number mid ≡ number_at os old (next_number before) i
        number = so_far.moved.next

        apart : Each (λ (m : Moved). has_moved (moved_out_of o c (next_number mid)) m.number ≡ false) (all_moved (take i os) old (next_number before))
        apart = each_more _ _ (λ m h. one_apart o c (next_number mid) m.number (omega (arith, h.1, number))) (all_moved (take i os) old (next_number before)) (all_in (take i os) old (next_number before))

    pub moving_same : (after : Chunks) (o : Bool) (c : Cell) → i < length os → i < length old → o ≡ get_or os i o → c ≡ get_or now i c → c ≡ settled o c (next_number mid) → MovesAll x s (moved_out_of o c (next_number mid)) mid after → LeavesOwn x s mid after → GoWith x after → MovingTo (take (i + 1) os) old now before after
    moving_same after o c a b p q is moves left goes = subst (λ (r : List Cell). MovingTo (take (i + 1) os) old r before after) (ap (λ d. set now i d) q ∙ set-get_or now i c) (moving_next after o c c a b p q is moves left goes)

  pub moving_all : (os : List Bool) (old now : List Cell) (n : ℕ) (before after : Chunks) → length os ≤ n → MovingTo (take n os) old now before after → MovingTo os old now before after
  moving_all os old now n before after least done = subst (λ ps. MovingTo ps old now before after) (take_all n os least) done

  -- what no other session held of numbers that were given is held by none after the moves
  pub still_free : (os : List Bool) (row : List Cell) (before after : Chunks) → MovesAll x s (all_moved os row (next_number before)) before after → (ns : List ℕ) → Each (IsFree x s before) ns → Each (λ n. n < next_number before) ns → Each (IsFree x s after) ns
  still_free os row before after moves ns free given = each_both _ _ _ one ns free given
    where
      one : (n : ℕ) → IsFree x s before n → n < next_number before → IsFree x s after n
      one n free less = record { chunk = λ k. ap (λ vs. lowest_other s (standing x vs)) (moves.others n k (none_moved os row (next_number before) n less)) ∙ free.chunk k }

  -- the next cell with what was found for it
  module _ (os : List Bool) (old now : List Cell) (i : ℕ) (before mid after : Chunks) (so_far : MovingTo (take i os) old now before mid) (many : length os ≡ length old) (less : i < length old) where
    pub moving_some : (new : List Cell) (o : Bool) (c y : Cell) (found : Option Cell) → o ≡ get_or os i o → c ≡ get_or now i c → found ≡ Some y → cell_or found c ≡ settled o c (next_number mid) → MovesAll x s (moved_out_of o c (next_number mid)) mid after → LeavesOwn x s mid after → GoWith x after → new ≡ set now i y → MovingTo (take (i + 1) os) old new before after
    moving_some new o c y found at is some settles moves left goes same = subst (λ (r : List Cell). MovingTo (take (i + 1) os) old r before after) (sym same) (moving_next os old now i before mid so_far after o c y (omega (arith, many, less)) less at is (ap (λ f. cell_or f c) (sym some) ∙ settles) moves left goes)

    pub moving_none : (new : List Cell) (o : Bool) (c : Cell) (found : Option Cell) → o ≡ get_or os i o → c ≡ get_or now i c → found ≡ None → cell_or found c ≡ settled o c (next_number mid) → MovesAll x s (moved_out_of o c (next_number mid)) mid after → LeavesOwn x s mid after → GoWith x after → new ≡ now → MovingTo (take (i + 1) os) old new before after
    moving_none new o c found at is none settles moves left goes same = subst (λ (r : List Cell). MovingTo (take (i + 1) os) old r before after) (sym same) (moving_same os old now i before mid so_far after o c (omega (arith, many, less)) less at is (ap (λ f. cell_or f c) (sym none) ∙ settles) moves left goes)
