-- Lists of descriptors, as the code has them and as contracts see them: searches by number, and free numbers.
use Rattle.std.proofs.Common.{ℕ, suc, ◌+◌, ◌-◌, ◌<◌, ◌≤◌, ◌≡◌, ◌⊎◌, inl, inr, Bool, true, false, List, [], ◌∷◌, length, map, Some, ℤ, pos, refl, ap, sym, subst, ◌∙◌, arith, get_or, drop, drop-cons}
use Rattle.std.specs.Prelude.{negsuc, ◌==◌, if◌then◌else◌}
use Rattle.std.proofs.lemmas.Bool.{cases_eq}
use Rattle.std.proofs.lemmas.Bool.Decides.{nat_tests}
use Rattle.std.proofs.lemmas.List.{length-map}
use Rattle.std.proofs.lemmas.List.Elements.{All-map, All-weaker}
use Rattle.std.proofs.lemmas.Option.{slice_get_read}
use Rattle.xact_core.specs.Transactions.{Transactions}
use Rattle.lo_model.specs.Descriptor as model
use Rattle.lo_calls.specs.declared.descs.Descriptor.{Descriptor}
use Rattle.lo_calls.specs.declared.descs.Descs.{Descs}
use Rattle.lo_calls.specs.Descriptors.{described_by, described_at, descriptors_of, holds_in, has_number, last_position, FindsDescriptor, AreOpen, IsOwnHold}

-- a number is taken by one of the entries
pub taken_described : (n : ℕ) (entries : List Descriptor) → has_number entries n ≡ model.is_number_taken (map described_by entries) n
taken_described n [] = refl
taken_described n (d ∷ entries) = rw (taken_described n entries)

-- the first descriptor of a number
pub found_first : (fd : ℤ) (d : model.Descriptor) (rest : List model.Descriptor) → pos d.number ≡ fd → described_at fd (d ∷ rest) ≡ Some d
found_first (pos n) d rest is = let same : d.number ≡ n = cc in grind (arith, nat_tests)
found_first (negsuc n) d rest is = absurd (cc)

pub found_later : (fd : ℤ) (d : model.Descriptor) (rest : List model.Descriptor) → (pos d.number ≡ fd → ⊥) → described_at fd (d ∷ rest) ≡ described_at fd rest
found_later (pos n) d rest other = by_case (cases_eq d.number n)
  where
    by_case : (d.number ≡ n) ⊎ (d.number ≡ n → ⊥) → described_at (pos n) (d ∷ rest) ≡ described_at (pos n) rest
    by_case (inl same) = absurd (other (ap pos same))
    by_case (inr apart) = grind (arith, nat_tests)
found_later (negsuc n) d rest other = refl

pub rest_from : (entries : List Descriptor) (i : ℕ) (d : Descriptor) → i < length entries → d ≡ get_or entries i d → drop i entries ≡ d ∷ drop (suc i) entries
rest_from entries i d within is = drop-cons entries i d within ∙ ap (λ (e : Descriptor). e ∷ drop (suc i) entries) (sym is)

pub finds_here : (fd : ℤ) (descs : Descs) (i : ℕ) (d : Descriptor) → i < length descs.entries.items → d ≡ get_or descs.entries.items i d → described_at fd (map described_by (drop i descs.entries.items)) ≡ described_at fd (descriptors_of descs) → fd ≡ pos d.number → FindsDescriptor fd descs i
finds_here fd descs i d within is rest number = record {
  entry = d;
  stands = slice_get_read descs.entries.items (length descs.entries.items) i d refl within is;
  found = sym rest ∙ ap (λ (left : List Descriptor). described_at fd (map described_by left)) (rest_from descs.entries.items i d within is) ∙ found_first fd (described_by d) (map described_by (drop (suc i) descs.entries.items)) (sym number);
  number = number;
}

-- the lowest free number, once all numbers below one are taken
pub free_more : (count n : ℕ) (ds : List model.Descriptor) → n < count → model.is_number_taken ds n ≡ true → model.free_number_from (count - n) n ds ≡ model.free_number_from (count - (n + 1)) (n + 1) ds
free_more count n ds below taken = let one : count - n ≡ suc (count - (n + 1)) = omega arith in rw (one, taken)

pub free_here : (count n : ℕ) (ds : List model.Descriptor) → n < count → model.is_number_taken ds n ≡ false → model.free_number_from (count - n) n ds ≡ n
free_here count n ds below free = let one : count - n ≡ suc (count - (n + 1)) = omega arith in rw (one, free)

-- an entry that stands elsewhere, or that a release gave to the level below
abbrev pub entry_moved : (number position : ℕ) → Descriptor → Descriptor
entry_moved n p d = if d.number == n then record { number = d.number; oid = d.oid; position = p; level = d.level; hold = d.hold } else d

abbrev pub entry_released : (level : ℕ) → Descriptor → Descriptor
entry_released k d = record { number = d.number; oid = d.oid; position = d.position; level = model.level_released k d.level; hold = d.hold }

pub moved_one : (n p : ℕ) (d : Descriptor) → d.number ≡ n → entry_moved n p d ≡ record { number = d.number; oid = d.oid; position = p; level = d.level; hold = d.hold }
moved_one n p d same = grind (arith, nat_tests)

pub moved_other : (n p : ℕ) (d : Descriptor) → (d.number ≡ n → ⊥) → entry_moved n p d ≡ d
moved_other n p d apart = grind (arith, nat_tests)

-- what contracts see of them
one_described : (n p : ℕ) (d : Descriptor) → described_by (entry_moved n p d) ≡ model.moved_to n p (described_by d)
one_described n p d = by_test (d.number == n) refl
  where
    by_test : (t : Bool) → (d.number == n) ≡ t → described_by (entry_moved n p d) ≡ model.moved_to n p (described_by d)
    by_test true is = rw is
    by_test false is = rw is

pub moved_described : (n p : ℕ) (entries : List Descriptor) → map described_by (map (entry_moved n p) entries) ≡ model.with_position n p (map described_by entries)
moved_described n p [] = refl
moved_described n p (d ∷ entries) = rw (one_described n p d, moved_described n p entries)

pub released_described : (k : ℕ) (entries : List Descriptor) → map described_by (map (entry_released k) entries) ≡ map (model.descriptor_released k) (map described_by entries)
released_described k [] = refl
released_described k (d ∷ entries) = ap (λ (ds : List model.Descriptor). described_by (entry_released k d) ∷ ds) (released_described k entries)

-- a change of descriptors that leaves holds where they are
pub same_holds : (f : Descriptor → Descriptor) → ((d : Descriptor) → (f d).hold ≡ d.hold) → (entries : List Descriptor) → holds_in (map f entries) ≡ holds_in entries
same_holds f same [] = refl
same_holds f same (d ∷ entries) = rw (same d, same_holds f same entries)

pub moved_hold : (n p : ℕ) (d : Descriptor) → (entry_moved n p d).hold ≡ d.hold
moved_hold n p d = by_test (d.number == n) refl
  where
    by_test : (t : Bool) → (d.number == n) ≡ t → (entry_moved n p d).hold ≡ d.hold
    by_test true is = rw is
    by_test false is = rw is

pub moved_position : (n p most : ℕ) (d : Descriptor) → p ≤ most → d.position ≤ most → (entry_moved n p d).position ≤ most
moved_position n p most d new old = by_test (d.number == n) refl
  where
    by_test : (t : Bool) → (d.number == n) ≡ t → (entry_moved n p d).position ≤ most
    by_test true is = rw is new
    by_test false is = rw is old

-- It leaves descriptors open.
pub stay_open : (x : Transactions) (s : ℕ) (f : Descriptor → Descriptor) (old new : Descs) → ((d : Descriptor) → (f d).hold ≡ d.hold) → ((d : Descriptor) → d.position ≤ last_position → (f d).position ≤ last_position) → new.entries.items ≡ map f old.entries.items → AreOpen x s old → AreOpen x s new
stay_open x s f old new same low is before = record {
  most = rw (is, length-map) before.most;
  positions = rw is (All-map (λ (d : Descriptor). d.position ≤ last_position) f old.entries.items (All-weaker (λ (d : Descriptor). d.position ≤ last_position) (λ (d : Descriptor). (f d).position ≤ last_position) low old.entries.items before.positions));
  holds = rw is (All-map (λ (d : Descriptor). IsOwnHold s d.hold) f old.entries.items (All-weaker (λ (d : Descriptor). IsOwnHold s d.hold) (λ (d : Descriptor). IsOwnHold s (f d).hold) (λ d own. subst (IsOwnHold s) (sym (same d)) own) old.entries.items before.holds));
  held = record { rest = before.held.rest; all = rw (is, same_holds f same old.entries.items) before.held.all };
}
