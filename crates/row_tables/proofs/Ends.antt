-- Cursors that are closed: what each gives back of the views that are held, and what is left of a list of them.
use Rattle.std.proofs.Common.{ℕ, suc, ◌<◌, ◌≡◌, ◌≢◌, Bool, true, false, List, [], ◌∷◌, ◌++◌, length, refl, ap, sym, subst, ◌∙◌, arith, get_or, take, drop, length-take, take-append-drop, drop-cons}
use Rattle.std.specs.Prelude.{IsPermutation, Contains, remove, All, filter, not, nat_le, nat_lt, ◌+◌}
use Rattle.std.proofs.Math.Seq.{take-append_seam}
use Rattle.std.proofs.lemmas.Bool.Decides.{nat_tests}
use Rattle.std.proofs.lemmas.List.Elements.{All-nil, All-append, All-take, All-drop, filter-append}
use Rattle.std.proofs.lemmas.List.Sorted.{IsPermutation-refl, IsPermutation-sym, IsPermutation-trans, IsPermutation-map, IsPermutation-remove, IsPermutation-append_left, Contains-permutation}
use Rattle.xact_core.proofs.KeptViews.{kept_is, is_kept, held_kept}
use Rattle.xact_core.specs.declared.snapshot.Snapshot.{Snapshot}
use Rattle.xact_core.specs.Kept.{kept_views, HoldsOthers, HoldsWholeViews, KeptBy, ByNobody, ByWhole, ByBelow, ByHold}
use Rattle.xact_core.specs.Transactions.{Transactions}
use Rattle.lo_model.specs.Descriptor as model
use Rattle.row_tables.specs.declared.cursors.Closing.{Closing}
use Rattle.row_tables.specs.declared.cursors.Closing.TheVariants.{FromLevel}
use Rattle.row_tables.specs.declared.cursors.Cursor.{Cursor}
use Rattle.row_tables.specs.declared.cursors.Cursors.{Cursors}
use Rattle.row_tables.specs.Cursors.{cursor_by, is_own, own_cursors, hold_of, holds_in, holds_of, AreHeld, HoldsOwn, AreOpen, closed_by, closes, left_open, Ends}
use Rattle.row_tables.proofs.Cancelling.{cancelled}

-- Holds and ends of holds, one after another

pub holds_same : (x : Transactions) → HoldsOthers x x
holds_same x = record { rest = refl; kept = held_kept x }

kept_through : (x : Transactions) (views : List Snapshot) (v : Snapshot) → ((w : Snapshot) → Contains views w → Contains (kept_views x) w) → KeptBy (record x { held = views }) v → Contains (kept_views x) v
kept_through x views v before (ByNobody is) = is_kept x v (ByNobody is)
kept_through x views v before (ByWhole s low some is) = is_kept x v (ByWhole s low some is)
kept_through x views v before (ByBelow s l number low high is) = is_kept x v (ByBelow s l number low high is)
kept_through x views v before (ByHold held) = before v held

pub holds_both : (x y z : Transactions) → HoldsOthers x y → HoldsOthers y z → HoldsOthers x z
holds_both x y z first second = record {
  rest = second.rest ∙ ap (λ (u : Transactions). record u { held = z.held }) first.rest;
  kept = λ v here. kept_through x y.held v first.kept (kept_is (record x { held = y.held }) v (subst (λ (u : Transactions). Contains (kept_views u) v) first.rest (second.kept v here)));
}

-- One cursor that ends

pub rest_from : (entries : List Cursor) (i : ℕ) (c : Cursor) → i < length entries → c ≡ get_or entries i c → drop i entries ≡ c ∷ drop (suc i) entries
rest_from entries i c within is = drop-cons entries i c within ∙ ap (λ (e : Cursor). e ∷ drop (suc i) entries) (sym is)

parted : (entries : List Cursor) (i : ℕ) (c : Cursor) → i < length entries → c ≡ get_or entries i c → take i entries ++ c ∷ drop (suc i) entries ≡ entries
parted entries i c within is = ap (λ (rest : List Cursor). take i entries ++ rest) (sym (rest_from entries i c within is)) ∙ take-append-drop i entries

hold_first : (entries : List Cursor) (i : ℕ) (c : Cursor) → i < length entries → c ≡ get_or entries i c → IsPermutation (holds_in entries) (c.hold ∷ holds_in (remove entries i))
hold_first entries i c within is = IsPermutation-map hold_of entries (c ∷ remove entries i) (IsPermutation-remove entries i c within is)

hold_rest : (entries : List Cursor) (i : ℕ) (c : Cursor) (rest : List Snapshot) → i < length entries → c ≡ get_or entries i c → IsPermutation (holds_in entries ++ rest) (c.hold ∷ (holds_in (remove entries i) ++ rest))
hold_rest entries i c rest within is = IsPermutation-append_left rest (holds_in entries) (c.hold ∷ holds_in (remove entries i)) (hold_first entries i c within is)

-- its hold is among those that are held
pub hold_there : (x : Transactions) (cursors : Cursors) (i : ℕ) (c : Cursor) → i < length cursors.entries.items → c ≡ get_or cursors.entries.items i c → AreHeld x cursors → Contains x.held c.hold
hold_there x cursors i c within is held =
    let all = IsPermutation-trans x.held (holds_of cursors ++ held.rest) (c.hold ∷ (holds_in (remove cursors.entries.items i) ++ held.rest)) held.all (hold_rest cursors.entries.items i c held.rest within is) in
    Contains-permutation (c.hold ∷ (holds_in (remove cursors.entries.items i) ++ held.rest)) x.held c.hold (IsPermutation-sym x.held (c.hold ∷ (holds_in (remove cursors.entries.items i) ++ held.rest)) all) (0, omega arith, refl)

pub one_ends : (x x' : Transactions) (old new : Cursors) (i : ℕ) (c : Cursor) → i < length old.entries.items → c ≡ get_or old.entries.items i c → new.entries.items ≡ remove old.entries.items i → HoldsOthers x x' → IsPermutation x.held (c.hold ∷ x'.held) → (HoldsWholeViews x → HoldsWholeViews x') → length (kept_views x') + 1 ≡ length (kept_views x) → Ends x x' old new
one_ends x x' old new i c within is left others order whole views = record {
  others = others;
  holds = record { rest = rest_of };
  whole = whole;
  views = omega (arith, views);
  remain = λ before. record {
    own = rw left (all_left before.own);
    held = record { rest = before.held.rest; all = rest_of before.held.rest before.held.all };
  };
}
  where
    all_left : All HoldsOwn old.entries.items → All HoldsOwn (remove old.entries.items i)
    all_left all = All-append HoldsOwn (take i old.entries.items) (drop (suc i) old.entries.items) (All-take HoldsOwn i old.entries.items all) (All-drop HoldsOwn (suc i) old.entries.items all)

    given : (rest : List Snapshot) → IsPermutation (holds_of old ++ rest) (c.hold ∷ (holds_of new ++ rest))
    given rest = rw left (hold_rest old.entries.items i c rest within is)

    rest_of : (rest : List Snapshot) → IsPermutation x.held (holds_of old ++ rest) → IsPermutation x'.held (holds_of new ++ rest)
    rest_of rest all = cancelled c.hold x'.held (holds_of new ++ rest) (IsPermutation-trans (c.hold ∷ x'.held) x.held (c.hold ∷ (holds_of new ++ rest)) (IsPermutation-sym x.held (c.hold ∷ x'.held) order) (IsPermutation-trans x.held (holds_of old ++ rest) (c.hold ∷ (holds_of new ++ rest)) all (given rest)))

-- Ends, one after another

pub ends_same : (x : Transactions) (cursors : Cursors) → Ends x x cursors cursors
ends_same x cursors = record { others = holds_same x; holds = record { rest = λ rest all. all }; whole = λ before. before; views = omega arith; remain = λ before. before }

pub ends_both : (x y z : Transactions) (first second third : Cursors) → Ends x y first second → Ends y z second third → Ends x z first third
ends_both x y z first second third one two = record {
  others = holds_both x y z one.others two.others;
  holds = record { rest = λ rest all. two.holds.rest rest (one.holds.rest rest all) };
  whole = λ before. two.whole (one.whole before);
  views = omega (arith, one.views, two.views);
  remain = λ before. two.remain (one.remain before);
}

-- What is left of the list

pub left_without : (s : ℕ) (closing : Closing) (entries : List Cursor) (i : ℕ) (c : Cursor) → i < length entries → c ≡ get_or entries i c → closes s closing c ≡ true → left_open s closing (remove entries i) ≡ left_open s closing entries
left_without s closing entries i c within is ends =
    subst (λ (all : List Cursor). left_open s closing (remove entries i) ≡ left_open s closing all) (parted entries i c within is)
    (rw (filter-append (λ (e : Cursor). not (closes s closing e)) (take i entries) (drop (suc i) entries), filter-append (λ (e : Cursor). not (closes s closing e)) (take i entries) (c ∷ drop (suc i) entries), ends))

pub front_without : (entries : List Cursor) (i : ℕ) → i < length entries → take i (remove entries i) ≡ take i entries
front_without entries i within =
    let front : length (take i entries) ≡ i = omega (arith, length-take i entries) in
    subst (λ (n : ℕ). take n (remove entries i) ≡ take i entries) front (take-append_seam (take i entries) (drop (suc i) entries))

-- What contracts see of the rest

pub own_left : (s : ℕ) (closing : Closing) (stays : model.Cursor → Bool) → ((c : Cursor) → stays (cursor_by c) ≡ not (closed_by closing c)) → (entries : List Cursor) → own_cursors s (left_open s closing entries) ≡ filter stays (own_cursors s entries)
own_left s closing stays alike [] = refl
own_left s closing stays alike (c ∷ entries) = by_tests (is_own s c) (closed_by closing c) refl refl (own_left s closing stays alike entries)
  where
    by_tests : (own closed : Bool) → is_own s c ≡ own → closed_by closing c ≡ closed → own_cursors s (left_open s closing entries) ≡ filter stays (own_cursors s entries) → own_cursors s (left_open s closing (c ∷ entries)) ≡ filter stays (own_cursors s (c ∷ entries))
    by_tests true true is ends rest = rw (is, alike c, ends) rest
    by_tests true false is ends rest = rw (is, alike c, ends, is) (ap (λ (cs : List model.Cursor). cursor_by c ∷ cs) rest)
    by_tests false closed is ends rest = rw (is, is) rest

pub others_left : (s t : ℕ) (closing : Closing) → t ≢ s → (entries : List Cursor) → own_cursors t (left_open s closing entries) ≡ own_cursors t entries
others_left s t closing apart [] = refl
others_left s t closing apart (c ∷ entries) = by_tests (is_own s c) (is_own t c) refl refl (others_left s t closing apart entries)
  where
    by_tests : (own other : Bool) → is_own s c ≡ own → is_own t c ≡ other → own_cursors t (left_open s closing entries) ≡ own_cursors t entries → own_cursors t (left_open s closing (c ∷ entries)) ≡ own_cursors t (c ∷ entries)
    by_tests true true is is' rest = absurd (apart (grind (arith, nat_tests)))
    by_tests true false is is' rest = by_closed (closed_by closing c) refl
      where
        by_closed : (closed : Bool) → closed_by closing c ≡ closed → own_cursors t (left_open s closing (c ∷ entries)) ≡ own_cursors t (c ∷ entries)
        by_closed true ends = rw (is, ends, is') rest
        by_closed false ends = rw (is, ends, is') rest
    by_tests false true is is' rest = rw (is, is') (ap (λ (cs : List model.Cursor). cursor_by c ∷ cs) rest)
    by_tests false false is is' rest = rw (is, is') rest

below_or_not : (k level : ℕ) → nat_lt level k ≡ not (nat_le k level)
below_or_not k level = grind (arith, nat_tests)

pub left_below : (s k : ℕ) (entries : List Cursor) → own_cursors s (left_open s (FromLevel k) entries) ≡ model.cursors_below k (own_cursors s entries)
left_below s k entries = own_left s (FromLevel k) (λ (c : model.Cursor). nat_lt c.level k) (λ c. below_or_not k c.level) entries

pub none_open : (x : Transactions) (cursors : Cursors) → cursors.entries.items ≡ [] → AreOpen x cursors
none_open x cursors none = record {
  own = rw none (All-nil HoldsOwn);
  held = record { rest = x.held; all = rw none (IsPermutation-refl x.held) };
}
