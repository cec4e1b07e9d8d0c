-- Closing descriptors: what each gives back, and what is left of a list of them.
use Rattle.std.proofs.Common.{ℕ, suc, ◌<◌, ◌≤◌, ◌≡◌, Bool, true, false, List, [], ◌∷◌, ◌++◌, length, map, Option, Some, None, refl, ap, sym, subst, ◌∙◌, arith, get_or, take, drop, append_assoc, length-take, take-append-drop}
use Rattle.std.specs.Prelude.{IsPermutation, Contains, remove, All, IfSome, filter, not, nat_le, nat_lt, ◌==◌}
use Rattle.std.proofs.Math.Seq.{take-append_seam}
use Rattle.std.proofs.lemmas.Bool.Decides.{nat_tests}
use Rattle.std.proofs.lemmas.Grind.{flat_map-append}
use Rattle.std.proofs.lemmas.List.Edits.{length-remove}
use Rattle.std.proofs.lemmas.List.Elements.{All-append, All-take, All-drop, filter-append}
use Rattle.std.proofs.lemmas.List.Sorted.{IsPermutation-refl, IsPermutation-sym, IsPermutation-trans, IsPermutation-append_comm, IsPermutation-append_left, Contains-permutation}
use Rattle.xact_core.proofs.KeptViews.{kept_is, is_kept, held_kept}
use Rattle.xact_core.specs.declared.snapshot.Snapshot.{Snapshot}
use Rattle.xact_core.specs.Kept.{kept_views, HoldsOthers, KeptBy, ByNobody, ByWhole, ByBelow, ByHold}
use Rattle.xact_core.specs.Transactions.{Transactions}
use Rattle.lo_model.specs.Descriptor as model
use Rattle.lo_calls.specs.declared.descs.Closing.{Closing}
use Rattle.lo_calls.specs.declared.descs.Closing.TheVariants.{FromLevel, OnObject, OfNumber}
use Rattle.lo_calls.specs.declared.descs.Descriptor.{Descriptor}
use Rattle.lo_calls.specs.declared.descs.Descs.{Descs}
use Rattle.lo_calls.specs.Descriptors.{described_by, held_by, holds_in, holds_of, closes, left_open, last_position, AreHeld, IsOwnHold, GivesBack, Ends}
use Rattle.lo_calls.proofs.Cancelling.{cancelled}
use Rattle.lo_calls.proofs.Entries.{rest_from}

-- Holds and ends of holds, one after another

pub holds_same : (x : Transactions) → HoldsOthers x x
holds_same x = record { rest = refl; kept = held_kept x }

kept_through : (x : Transactions) (views : List Snapshot) (v : Snapshot) → ((w : Snapshot) → Contains views w → Contains (kept_views x) w) → KeptBy (record x { held = views }) v → Contains (kept_views x) v
kept_through x views v before (ByNobody is) = is_kept x v (ByNobody is)
kept_through x views v before (ByWhole s low some is) = is_kept x v (ByWhole s low some is)
kept_through x views v before (ByBelow s l number low high is) = is_kept x v (ByBelow s l number low high is)
kept_through x views v before (ByHold held) = before v held

pub holds_both : (x y z : Transactions) → HoldsOthers x y → HoldsOthers y z → HoldsOthers x z
holds_both x y z first second = record {
  rest = second.rest ∙ ap (λ (u : Transactions). record u { held = z.held }) first.rest;
  kept = λ v here. kept_through x y.held v first.kept (kept_is (record x { held = y.held }) v (subst (λ (u : Transactions). Contains (kept_views u) v) first.rest (second.kept v here)));
}

-- One descriptor that ends

pub gives_none : (hold : Option Snapshot) (x : Transactions) → hold ≡ None → GivesBack hold x x
gives_none hold x none = record { others = holds_same x; order = rw none (IsPermutation-refl x.held); whole = λ before. before; views = omega arith }

pub holds_append : (xs ys : List Descriptor) → holds_in (xs ++ ys) ≡ holds_in xs ++ holds_in ys
holds_append xs ys = flat_map-append (λ (d : Descriptor). held_by d.hold) xs ys

pub parted : (entries : List Descriptor) (i : ℕ) (d : Descriptor) → i < length entries → d ≡ get_or entries i d → take i entries ++ d ∷ drop (suc i) entries ≡ entries
parted entries i d within is = ap (λ (rest : List Descriptor). take i entries ++ rest) (sym (rest_from entries i d within is)) ∙ take-append-drop i entries

middle_first : (front middle back : List Snapshot) → IsPermutation (front ++ (middle ++ back)) (middle ++ (front ++ back))
middle_first front middle back = let moved = IsPermutation-append_left back (front ++ middle) (middle ++ front) (IsPermutation-append_comm front middle) in simp append_assoc at moved

hold_first : (entries : List Descriptor) (i : ℕ) (d : Descriptor) → i < length entries → d ≡ get_or entries i d → IsPermutation (holds_in entries) (held_by d.hold ++ holds_in (remove entries i))
hold_first entries i d within is =
    subst (λ (all : List Descriptor). IsPermutation (holds_in all) (held_by d.hold ++ holds_in (remove entries i))) (parted entries i d within is)
    (rw (holds_append (take i entries) (d ∷ drop (suc i) entries), holds_append (take i entries) (drop (suc i) entries)) (middle_first (holds_in (take i entries)) (held_by d.hold) (holds_in (drop (suc i) entries))))

-- a descriptor that is held has its hold among those that are held
among : (hold : Option Snapshot) (held others rest : List Snapshot) → IsPermutation held ((held_by hold ++ others) ++ rest) → IfSome hold (Contains held)
among None held others rest all = tt
among (Some v) held others rest all = Contains-permutation (v ∷ (others ++ rest)) held v (IsPermutation-sym held (v ∷ (others ++ rest)) all) (0, omega arith, refl)

hold_rest : (entries : List Descriptor) (i : ℕ) (d : Descriptor) (rest : List Snapshot) → i < length entries → d ≡ get_or entries i d → IsPermutation (holds_in entries ++ rest) ((held_by d.hold ++ holds_in (remove entries i)) ++ rest)
hold_rest entries i d rest within is = IsPermutation-append_left rest (holds_in entries) (held_by d.hold ++ holds_in (remove entries i)) (hold_first entries i d within is)

pub hold_there : (x : Transactions) (descs : Descs) (i : ℕ) (d : Descriptor) → i < length descs.entries.items → d ≡ get_or descs.entries.items i d → AreHeld x descs → IfSome d.hold (Contains x.held)
hold_there x descs i d within is held = among d.hold x.held (holds_in (remove descs.entries.items i)) held.rest (IsPermutation-trans x.held (holds_of descs ++ held.rest) _ held.all (hold_rest descs.entries.items i d held.rest within is))

back : (hold : Option Snapshot) (before after : List Snapshot) → IsPermutation (held_by hold ++ before) (held_by hold ++ after) → IsPermutation before after
back None before after both = both
back (Some v) before after both = cancelled v before after both

pub one_ends : (x x' : Transactions) (old new : Descs) (i : ℕ) (d : Descriptor) → i < length old.entries.items → d ≡ get_or old.entries.items i d → new.entries.items ≡ remove old.entries.items i → GivesBack d.hold x x' → Ends x x' old new
one_ends x x' old new i d within is left gives = record {
  others = gives.others;
  holds = record { rest = rest_of };
  whole = gives.whole;
  views = gives.views;
  remain = λ s before. record {
    most = let shorter = ap (λ (entries : List Descriptor). length entries) left in omega (arith, shorter, length-remove old.entries.items i within, before.most);
    positions = rw left (all_left (λ (e : Descriptor). e.position ≤ last_position) before.positions);
    holds = rw left (all_left (λ (e : Descriptor). IsOwnHold s e.hold) before.holds);
    held = record { rest = before.held.rest; all = rest_of before.held.rest before.held.all };
  };
}
  where
    all_left : (P : Descriptor → Type 0) → All P old.entries.items → All P (remove old.entries.items i)
    all_left P all = All-append P (take i old.entries.items) (drop (suc i) old.entries.items) (All-take P i old.entries.items all) (All-drop P (suc i) old.entries.items all)

    given : (others : List Snapshot) → IsPermutation (holds_of old ++ others) (held_by d.hold ++ (holds_of new ++ others))
    given others = rw (left, ← append_assoc) (hold_rest old.entries.items i d others within is)

    rest_of : (others : List Snapshot) → IsPermutation x.held (holds_of old ++ others) → IsPermutation x'.held (holds_of new ++ others)
    rest_of others all = back d.hold x'.held (holds_of new ++ others) (IsPermutation-trans (held_by d.hold ++ x'.held) x.held (held_by d.hold ++ (holds_of new ++ others)) (IsPermutation-sym x.held (held_by d.hold ++ x'.held) gives.order) (IsPermutation-trans x.held (holds_of old ++ others) (held_by d.hold ++ (holds_of new ++ others)) all (given others)))

-- Ends, one after another

pub ends_same : (x : Transactions) (descs : Descs) → Ends x x descs descs
ends_same x descs = record { others = holds_same x; holds = record { rest = λ others all. all }; whole = λ before. before; views = omega arith; remain = λ s before. before }

pub ends_both : (x y z : Transactions) (first second third : Descs) → Ends x y first second → Ends y z second third → Ends x z first third
ends_both x y z first second third one two = record {
  others = holds_both x y z one.others two.others;
  holds = record { rest = λ others all. two.holds.rest others (one.holds.rest others all) };
  whole = λ before. two.whole (one.whole before);
  views = omega (arith, one.views, two.views);
  remain = λ s before. two.remain s (one.remain s before);
}

-- What is left of the list

pub left_without : (closing : Closing) (entries : List Descriptor) (i : ℕ) (d : Descriptor) → i < length entries → d ≡ get_or entries i d → closes closing d ≡ true → left_open closing (remove entries i) ≡ left_open closing entries
left_without closing entries i d within is ends =
    subst (λ (all : List Descriptor). left_open closing (remove entries i) ≡ left_open closing all) (parted entries i d within is)
    (rw (filter-append (λ (e : Descriptor). not (closes closing e)) (take i entries) (drop (suc i) entries), filter-append (λ (e : Descriptor). not (closes closing e)) (take i entries) (d ∷ drop (suc i) entries), ends))

pub front_without : (entries : List Descriptor) (i : ℕ) → i < length entries → take i (remove entries i) ≡ take i entries
front_without entries i within =
    let front : length (take i entries) ≡ i = omega (arith, length-take i entries) in
    subst (λ (n : ℕ). take n (remove entries i) ≡ take i entries) front (take-append_seam (take i entries) (drop (suc i) entries))

-- What contracts see of the rest

filter_described : (p : Descriptor → Bool) (q : model.Descriptor → Bool) → ((d : Descriptor) → q (described_by d) ≡ p d) → (entries : List Descriptor) → map described_by (filter p entries) ≡ filter q (map described_by entries)
filter_described p q alike [] = refl
filter_described p q alike (d ∷ entries) = by_test (p d) refl (filter_described p q alike entries)
  where
    by_test : (t : Bool) → p d ≡ t → map described_by (filter p entries) ≡ filter q (map described_by entries) → map described_by (filter p (d ∷ entries)) ≡ filter q (map described_by (d ∷ entries))
    by_test true is rest = rw (alike d, is) (ap (λ (ds : List model.Descriptor). described_by d ∷ ds) rest)
    by_test false is rest = rw (alike d, is) rest

below_or_not : (k level : ℕ) → nat_lt level k ≡ not (nat_le k level)
below_or_not k level = grind (arith, nat_tests)

pub left_below : (k : ℕ) (entries : List Descriptor) → map described_by (left_open (FromLevel k) entries) ≡ model.descriptors_below k (map described_by entries)
left_below k entries = filter_described (λ (d : Descriptor). not (closes (FromLevel k) d)) (λ (d : model.Descriptor). nat_lt d.level k) (λ d. below_or_not k d.level) entries

pub left_without_number : (n : ℕ) (entries : List Descriptor) → map described_by (left_open (OfNumber n) entries) ≡ model.without_number n (map described_by entries)
left_without_number n entries = filter_described (λ (d : Descriptor). not (closes (OfNumber n) d)) (λ (d : model.Descriptor). not (d.number == n)) (λ d. refl) entries

pub left_without_object : (oid : ℕ) (entries : List Descriptor) → map described_by (left_open (OnObject oid) entries) ≡ model.without_object oid (map described_by entries)
left_without_object oid entries = filter_described (λ (d : Descriptor). not (closes (OnObject oid) d)) (λ (d : model.Descriptor). not (d.oid == oid)) (λ d. refl) entries

pub none_left : (entries : List Descriptor) → left_open (FromLevel 0) entries ≡ []
none_left [] = refl
none_left (d ∷ entries) = let low : nat_le 0 d.level ≡ true = grind (arith, nat_tests) in rw low (none_left entries)
