-- The laws of every plan.
use Rattle.std.proofs.Common.{◌≡◌, ◌≢◌, ℕ, zero, suc, ◌+◌, ◌<◌, ◌≤◌, Bool, true, false, ◌||◌, ◌&&◌, cond, ltb, leb, List, [], ◌∷◌, length, replicate, Option, Some, None, inl, inr, refl, sym, ap, ◌∙◌, arith}
use Rattle.std.specs.Prelude.{count_by, slice_get}
use Rattle.std.specs.Option.{option_map_or}
use Rattle.std.proofs.Math.ListN.{set}
use Rattle.std.proofs.lemmas.List.{length-replicate}
use Rattle.std.proofs.lemmas.List.Sums.{count_by-le-length}
use Rattle.std.proofs.lemmas.Bool.{ltb-true, ltb-false, lt-ltb, le-ltb, cases_Bool, cases_lt, leb-true, leb-false}
use Rattle.lo_base.specs.declared.column.Column.{Column}
use Rattle.lo_base.specs.declared.column.Storage.{Storage}
use Rattle.lo_base.specs.declared.column.Storage.TheVariants.{Plain, External, Extended, Main}
use Rattle.toast_plan.specs.Layout.{value_header, has_short_header, data_length}
use Rattle.toast_plan.specs.Choice.{Candidate, moves_first, moves_second, candidate_at, candidates, goes_before, place_in_order, is_among_first, with_moved_from, with_first, fits, moves_needed, after_round, first_target, second_target, outside_first, outside_of}
use Rattle.toast_plan.specs.Laws.{IsValue, IsOutside, of_storages, SmallStay, NullsStay, PlainStay, LongerFirst, FirstNeeded, SecondNeeded, FirstEnough, SecondEnough}
use Rattle.toast_plan.proofs.RoundLaws.{IsIn, count_cons, irreflexive, before_true}
use Rattle.toast_plan.proofs.OutcomeLaws.{Waits, is_no_candidate, in_waits, waits_in, waits_moved, other_stays, null_stays, small_stays, leaves_one, count_less, place_less, least_fails, least_passes}

-- ---- storages and sizes

some_header : (b : Bool) → 1 ≤ cond {A = ℕ} b 1 4
some_header true = omega arith
some_header false = omega arith

big_from : (s : Storage) (n : ℕ) → 24 ≤ n → ltb 24 (n + value_header s n) ≡ true
big_from s n le = lt-ltb 24 (n + value_header s n) (omega (arith, some_header (has_short_header s n)))

short_is_small : (n : ℕ) → ltb 24 (n + cond (leb n 126) 1 4) ≡ true → 24 ≤ n
short_is_small n big =
    elim (cases_Bool (leb n 126)) [
      | inl short ↦ let lt : 24 < n + 1 = ltb-true 24 (n + 1) (rw short at big) in omega arith
      | inr long ↦ omega (arith, leb-false n 126 long)
    ]

big_to : (moves : Storage → Bool) (s : Storage) (n : ℕ) → moves Plain ≡ false → moves s ≡ true → ltb 24 (n + value_header s n) ≡ true → 24 ≤ n
big_to moves Plain n none some big = absurd cc
big_to moves External n none some big = short_is_small n big
big_to moves Extended n none some big = short_is_small n big
big_to moves Main n none some big = short_is_small n big

apart_first : (s : Storage) → moves_first s ≡ true → moves_second s ≡ false
apart_first Plain e = refl
apart_first External e = refl
apart_first Extended e = refl
apart_first Main e = absurd cc

apart_second : (s : Storage) → moves_second s ≡ true → moves_first s ≡ false
apart_second Plain e = refl
apart_second External e = absurd cc
apart_second Extended e = absurd cc
apart_second Main e = refl

all_inside : (cs : List Column) (j : ℕ) (c : Column) → slice_get cs j ≡ Some c → slice_get (replicate (length cs) false) j ≡ Some false
all_inside [] j c at = absurd (let e : None ≡ Some c = at in cc)
all_inside (d ∷ cs) zero c at = refl
all_inside (d ∷ cs) (suc j) c at = all_inside cs j c at

-- ---- one round

pub record IsChosen (moves : Storage → Bool) (target : ℕ) (cs : List Column) (ns : List (Option ℕ)) (os : List Bool) (a : Candidate) : Type 0 where
  pub waits : Waits moves cs ns os a.place a.bytes
  pub among : is_among_first (moves_needed moves target cs ns os) (candidates moves cs ns os) a ≡ true

value_waits : (moves : Storage → Bool) (cs : List Column) (ns : List (Option ℕ)) (os : List Bool) (a : Candidate) (v : IsValue moves cs ns a) → slice_get os a.place ≡ Some false → ltb 24 (a.bytes + value_header v.column.storage a.bytes) ≡ true → Waits moves cs ns os a.place a.bytes
value_waits moves cs ns os a v inside big = record { column = v.column; at = v.at; storage = v.storage; length = v.bytes; inside = inside; big = big }

round_at : (moves : Storage → Bool) (target : ℕ) (cs : List Column) (ns : List (Option ℕ)) (os : List Bool) (a : Candidate) → Waits moves cs ns os a.place a.bytes
    → slice_get (after_round moves target cs ns os) a.place ≡ Some (is_among_first (moves_needed moves target cs ns os) (candidates moves cs ns os) a)
round_at moves target cs ns os a w = waits_moved (is_among_first (moves_needed moves target cs ns os) (candidates moves cs ns os)) moves 0 a.place cs ns os a w (omega arith)

chosen_outside : (moves : Storage → Bool) (target : ℕ) (cs : List Column) (ns : List (Option ℕ)) (os : List Bool) (a : Candidate) → IsChosen moves target cs ns os a → slice_get (after_round moves target cs ns os) a.place ≡ Some true
chosen_outside moves target cs ns os a chosen = round_at moves target cs ns os a chosen.waits ∙ ap (λ (b : Bool). Some b) chosen.among

outside_chosen : (moves : Storage → Bool) (target : ℕ) (cs : List Column) (ns : List (Option ℕ)) (os : List Bool) (a : Candidate) → IsValue moves cs ns a → slice_get os a.place ≡ Some false → slice_get (after_round moves target cs ns os) a.place ≡ Some true → IsChosen moves target cs ns os a
outside_chosen moves target cs ns os a v inside outside =
    elim (cases_Bool (ltb 24 (a.bytes + value_header v.column.storage a.bytes))) [
      | inl big ↦
          let w = value_waits moves cs ns os a v inside big in
          let same : Some (is_among_first (moves_needed moves target cs ns os) (candidates moves cs ns os) a) ≡ Some true = sym (round_at moves target cs ns os a w) ∙ outside in
          record { waits = w; among = cc }
      | inr small ↦
          let stays = small_stays (is_among_first (moves_needed moves target cs ns os) (candidates moves cs ns os)) moves 0 a.place cs ns os v.column a.bytes v.at v.bytes small in
          absurd (let no : Some true ≡ Some false = sym outside ∙ stays ∙ inside in cc)
    ]

longer_first : (moves : Storage → Bool) (target : ℕ) (cs : List Column) (ns : List (Option ℕ)) (os : List Bool) (a b : Candidate) → moves Plain ≡ false → IsValue moves cs ns a → slice_get os a.place ≡ Some false → goes_before a b ≡ true → IsChosen moves target cs ns os b → IsChosen moves target cs ns os a
longer_first moves target cs ns os a b plain v inside before chosen =
    let all = candidates moves cs ns os in
    let needed = moves_needed moves target cs ns os in
    let large : 24 ≤ b.bytes = big_to moves chosen.waits.column.storage b.bytes plain chosen.waits.storage chosen.waits.big in
    let longer : b.bytes ≤ a.bytes = elim (before_true a b before) [ inl h ↦ omega arith | inr h ↦ omega (arith, h.0) ] in
    let front : place_in_order all b < needed = ltb-true (place_in_order all b) needed chosen.among in
    let place : place_in_order all a ≤ place_in_order all b = count_less a b all before in
    record {
      waits = value_waits moves cs ns os a v inside (big_from v.column.storage a.bytes (omega arith));
      among = lt-ltb (place_in_order all a) needed (omega arith);
    }

round_needed : (moves : Storage → Bool) (target : ℕ) (cs : List Column) (ns : List (Option ℕ)) (os : List Bool) (a : Candidate) → IsChosen moves target cs ns os a
    → ((b : Candidate) → IsChosen moves target cs ns os b → b.place ≢ a.place → goes_before b a ≡ true) → target < data_length cs ns (set (after_round moves target cs ns os) a.place false)
round_needed moves target cs ns os a chosen last =
    let all = candidates moves cs ns os in
    let needed = moves_needed moves target cs ns os in
    let place = place_in_order all a in
    let at : a.place ≡ 0 + a.place = omega arith in
    let here : IsIn all a = waits_in moves 0 a.place cs ns os a chosen.waits at in
    let front : place < needed = ltb-true place needed chosen.among in
    let agrees : (b : Candidate) → IsIn all b → b.place ≢ a.place → is_among_first place all b ≡ is_among_first needed all b = λ b there apart.
    elim (cases_lt (place_in_order all b) needed) [
      | inl lt ↦
          let own : b.place ≡ 0 + b.place = omega arith in
          let too : IsChosen moves target cs ns os b = record { waits = in_waits moves 0 b.place cs ns os b there own; among = lt-ltb (place_in_order all b) needed lt } in
          let before : place_in_order all b < place = place_less b a all there (last b too apart) in
          lt-ltb (place_in_order all b) place before ∙ sym too.among
      | inr le ↦ le-ltb (place_in_order all b) place (omega arith) ∙ sym (le-ltb (place_in_order all b) needed le)
    ] in
    let without : with_first moves place cs ns os ≡ set (after_round moves target cs ns os) a.place false = leaves_one (is_among_first place all) (is_among_first needed all) moves 0 a.place cs ns os a here at (le-ltb place place (omega arith)) agrees in
    let misses : fits target cs ns (with_first moves place cs ns os) ≡ false = least_fails (λ count. fits target cs ns (with_first moves count cs ns os)) (length all) place front in
    leb-false (data_length cs ns (set (after_round moves target cs ns os) a.place false)) target (ap (fits target cs ns) (sym without) ∙ misses)

one_at_most : (b : Bool) → cond {A = ℕ} b 1 0 ≤ 1
one_at_most true = omega arith
one_at_most false = omega arith

place_bound : (p : Candidate → Bool) (all : List Candidate) (a : Candidate) → IsIn all a → p a ≡ false → count_by p all < length all
place_bound p [] a here fails = absurd here
place_bound p (b ∷ all) a here fails =
    elim here [
      | inl same ↦ let head : cond {A = ℕ} (p b) 1 0 ≡ 0 = rw (same, fails) refl in omega (arith, head, count_cons p b all, count_by-le-length p all)
      | inr later ↦ omega (arith, count_cons p b all, place_bound p all a later fails, one_at_most (p b))
    ]

round_enough : (moves : Storage → Bool) (target : ℕ) (cs : List Column) (ns : List (Option ℕ)) (os : List Bool) (a : Candidate) → IsValue moves cs ns a → 24 ≤ a.bytes → slice_get os a.place ≡ Some false → slice_get (after_round moves target cs ns os) a.place ≡ Some false
    → data_length cs ns (after_round moves target cs ns os) ≤ target
round_enough moves target cs ns os a v large inside stays =
    let all = candidates moves cs ns os in
    let needed = moves_needed moves target cs ns os in
    let w = value_waits moves cs ns os a v inside (big_from v.column.storage a.bytes large) in
    let same : Some (is_among_first needed all a) ≡ Some false = sym (round_at moves target cs ns os a w) ∙ stays in
    let behind : needed ≤ place_in_order all a = ltb-false (place_in_order all a) needed cc in
    let bound : place_in_order all a < length all = place_bound (λ x. goes_before x a) all a (waits_in moves 0 a.place cs ns os a w (omega arith)) (irreflexive a) in
    let holds : fits target cs ns (with_first moves needed cs ns os) ≡ true = least_passes (λ count. fits target cs ns (with_first moves count cs ns os)) (length all) (omega arith) in
    leb-true (data_length cs ns (after_round moves target cs ns os)) target holds

-- ---- both rounds

abbrev start : List Column → List Bool
start cs = replicate (length cs) false

first_stays : (cs : List Column) (ns : List (Option ℕ)) (j : ℕ) (c : Column) → slice_get cs j ≡ Some c → moves_first c.storage ≡ false → slice_get (outside_first cs ns) j ≡ Some false
first_stays cs ns j c at other =
    other_stays (is_among_first (moves_needed moves_first (first_target ns) cs ns (start cs)) (candidates moves_first cs ns (start cs))) moves_first 0 j cs ns (start cs) c at other ∙ all_inside cs j c at

second_stays : (cs : List Column) (ns : List (Option ℕ)) (j : ℕ) (c : Column) → slice_get cs j ≡ Some c → moves_second c.storage ≡ false → slice_get (outside_of cs ns) j ≡ slice_get (outside_first cs ns) j
second_stays cs ns j c at other =
    other_stays (is_among_first (moves_needed moves_second (second_target ns) cs ns (outside_first cs ns)) (candidates moves_second cs ns (outside_first cs ns))) moves_second 0 j cs ns (outside_first cs ns) c at other

first_chosen : (cs : List Column) (ns : List (Option ℕ)) (a : Candidate) → IsValue moves_first cs ns a → IsOutside (outside_of cs ns) a → IsChosen moves_first (first_target ns) cs ns (start cs) a
first_chosen cs ns a v outside =
    outside_chosen moves_first (first_target ns) cs ns (start cs) a v (all_inside cs a.place v.column v.at) (sym (second_stays cs ns a.place v.column v.at (apart_first v.column.storage v.storage)) ∙ outside)

chosen_first : (cs : List Column) (ns : List (Option ℕ)) (a : Candidate) → IsChosen moves_first (first_target ns) cs ns (start cs) a → IsOutside (outside_of cs ns) a
chosen_first cs ns a chosen =
    second_stays cs ns a.place chosen.waits.column chosen.waits.at (apart_first chosen.waits.column.storage chosen.waits.storage) ∙ chosen_outside moves_first (first_target ns) cs ns (start cs) a chosen

second_inside : (cs : List Column) (ns : List (Option ℕ)) (a : Candidate) → IsValue moves_second cs ns a → slice_get (outside_first cs ns) a.place ≡ Some false
second_inside cs ns a v = first_stays cs ns a.place v.column v.at (apart_second v.column.storage v.storage)

second_chosen : (cs : List Column) (ns : List (Option ℕ)) (a : Candidate) → IsValue moves_second cs ns a → IsOutside (outside_of cs ns) a → IsChosen moves_second (second_target ns) cs ns (outside_first cs ns) a
second_chosen cs ns a v outside = outside_chosen moves_second (second_target ns) cs ns (outside_first cs ns) a v (second_inside cs ns a v) outside

chosen_value : (moves : Storage → Bool) (target : ℕ) (cs : List Column) (ns : List (Option ℕ)) (os : List Bool) (a : Candidate) → IsChosen moves target cs ns os a → IsValue moves cs ns a
chosen_value moves target cs ns os a chosen = record { column = chosen.waits.column; at = chosen.waits.at; storage = chosen.waits.storage; bytes = chosen.waits.length }

pub longer_first_holds : LongerFirst moves_first
longer_first_holds cs ns a b va vb before outside =
    chosen_first cs ns a (longer_first moves_first (first_target ns) cs ns (start cs) a b refl va (all_inside cs a.place va.column va.at) before (first_chosen cs ns b vb outside))

pub longer_second_holds : LongerFirst moves_second
longer_second_holds cs ns a b va vb before outside =
    chosen_outside moves_second (second_target ns) cs ns (outside_first cs ns) a
    (longer_first moves_second (second_target ns) cs ns (outside_first cs ns) a b refl va (second_inside cs ns a va) before (second_chosen cs ns b vb outside))

pub small_stay_holds : SmallStay
small_stay_holds cs ns a v outside =
    elim (cases_Bool (moves_first v.column.storage)) [
      | inl first ↦
          let chosen = first_chosen cs ns a (record { column = v.column; at = v.at; storage = first; bytes = v.bytes }) outside in
          big_to moves_first chosen.waits.column.storage a.bytes refl chosen.waits.storage chosen.waits.big
      | inr other ↦ elim (cases_Bool (moves_second v.column.storage)) [
        | inl second ↦
            let chosen = second_chosen cs ns a (record { column = v.column; at = v.at; storage = second; bytes = v.bytes }) outside in
            big_to moves_second chosen.waits.column.storage a.bytes refl chosen.waits.storage chosen.waits.big
        | inr neither ↦
            let stays : slice_get (outside_of cs ns) a.place ≡ Some false = second_stays cs ns a.place v.column v.at neither ∙ first_stays cs ns a.place v.column v.at other in
            absurd (let no : Some true ≡ Some false = sym outside ∙ stays in cc)
      ]
    ]

pub plain_stay_holds : PlainStay
plain_stay_holds cs ns c k at plain =
    second_stays cs ns k c at (rw plain refl) ∙ first_stays cs ns k c at (rw plain refl)

null_inside : (cs : List Column) (ns : List (Option ℕ)) (j : ℕ) → length ns ≡ length cs → slice_get ns j ≡ Some None → slice_get (replicate (length cs) false) j ≡ Some false
null_inside [] [] j h at = absurd cc
null_inside [] (n ∷ ns) j h at = absurd (omega arith)
null_inside (c ∷ cs) [] j h at = absurd (omega arith)
null_inside (c ∷ cs) (n ∷ ns) zero h at = refl
null_inside (c ∷ cs) (n ∷ ns) (suc j) h at = null_inside cs ns j (omega arith) at

pub nulls_stay_holds : NullsStay
nulls_stay_holds cs ns k lengths at =
    null_stays (is_among_first (moves_needed moves_second (second_target ns) cs ns (outside_first cs ns)) (candidates moves_second cs ns (outside_first cs ns))) moves_second 0 k cs ns (outside_first cs ns) at
    ∙ null_stays (is_among_first (moves_needed moves_first (first_target ns) cs ns (start cs)) (candidates moves_first cs ns (start cs))) moves_first 0 k cs ns (start cs) at
    ∙ null_inside cs ns k lengths at

-- only values of these storages are outside
abbrev AreOf : (Storage → Bool) → List Column → List Bool → Type 0
AreOf moves [] os = Unit {0}
AreOf moves (c ∷ cs) [] = Unit {0}
AreOf moves (c ∷ cs) (o ∷ os) = (moves c.storage ≡ false → o ≡ false) × AreOf moves cs os

none_are_of : (moves : Storage → Bool) (cs : List Column) → AreOf moves cs (replicate (length cs) false)
none_are_of moves [] = tt
none_are_of moves (c ∷ cs) = (λ _. refl, none_are_of moves cs)

head_of : (p : Candidate → Bool) (moves : Storage → Bool) (k : ℕ) (c : Column) (n : Option ℕ) (o : Bool) → o ≡ false → moves c.storage ≡ false → (o || option_map_or p (candidate_at moves k c n o) false) ≡ false
head_of p moves k c n o inside other = rw (is_no_candidate moves k c n o other, inside) refl

moved_are_of : (p : Candidate → Bool) (moves : Storage → Bool) (k : ℕ) (cs : List Column) (ns : List (Option ℕ)) (os : List Bool) → AreOf moves cs os → AreOf moves cs (with_moved_from p moves k cs ns os)
moved_are_of p moves k [] ns os h = tt
moved_are_of p moves k (c ∷ cs) [] os h = h
moved_are_of p moves k (c ∷ cs) (n ∷ ns) [] h = tt
moved_are_of p moves k (c ∷ cs) (n ∷ ns) (o ∷ os) h = (λ other. head_of p moves k c n o (h.0 other) other, moved_are_of p moves (k + 1) cs ns os h.1)

and_if : (o b : Bool) → (b ≡ false → o ≡ false) → (o && b) ≡ o
and_if true true h = refl
and_if true false h = absurd (let e : true ≡ false = h refl in cc)
and_if false b h = refl

are_of_same : (moves : Storage → Bool) (cs : List Column) (os : List Bool) → length cs ≡ length os → AreOf moves cs os → of_storages moves cs os ≡ os
are_of_same moves [] os same h = refl
are_of_same moves (c ∷ cs) [] same h = refl
are_of_same moves (c ∷ cs) (o ∷ os) same h =
    let head : (o && moves c.storage) ≡ o = and_if o (moves c.storage) h.0 in
    let rest : of_storages moves cs os ≡ os = are_of_same moves cs os (omega arith) h.1 in
    ap (λ (b : Bool). b ∷ of_storages moves cs os) head ∙ ap (λ (bs : List Bool). o ∷ bs) rest

or_then : (o p b : Bool) → (b ≡ false → o ≡ false) → (b ≡ true → p ≡ false) → ((o || p) && b) ≡ o
or_then true p true h g = refl
or_then true p false h g = absurd (let e : true ≡ false = h refl in cc)
or_then false p true h g = rw (g refl) refl
or_then false true false h g = refl
or_then false false false h g = refl

no_test : (p : Candidate → Bool) (moves : Storage → Bool) (k : ℕ) (c : Column) (n : Option ℕ) (o : Bool) → moves c.storage ≡ false → option_map_or p (candidate_at moves k c n o) false ≡ false
no_test p moves k c n o other = rw (is_no_candidate moves k c n o other) refl

-- what the second round moves is of other storages than what the first moved
first_of_both : (p : Candidate → Bool) (k : ℕ) (cs : List Column) (ns : List (Option ℕ)) (os : List Bool) → length cs ≡ length os → AreOf moves_first cs os → of_storages moves_first cs (with_moved_from p moves_second k cs ns os) ≡ os
first_of_both p k [] ns os same h = refl
first_of_both p k (c ∷ cs) [] os same h = are_of_same moves_first (c ∷ cs) os same h
first_of_both p k (c ∷ cs) (n ∷ ns) [] same h = refl
first_of_both p k (c ∷ cs) (n ∷ ns) (o ∷ os) same h =
    let t = option_map_or p (candidate_at moves_second k c n o) false in
    let head : ((o || t) && moves_first c.storage) ≡ o = or_then o t (moves_first c.storage) h.0 (λ first. no_test p moves_second k c n o (apart_first c.storage first)) in
    let rest : of_storages moves_first cs (with_moved_from p moves_second (k + 1) cs ns os) ≡ os = first_of_both p (k + 1) cs ns os (omega arith) h.1 in
    ap (λ (b : Bool). b ∷ of_storages moves_first cs (with_moved_from p moves_second (k + 1) cs ns os)) head ∙ ap (λ (bs : List Bool). o ∷ bs) rest

length_moved : (p : Candidate → Bool) (moves : Storage → Bool) (k : ℕ) (cs : List Column) (ns : List (Option ℕ)) (os : List Bool) → length (with_moved_from p moves k cs ns os) ≡ length os
length_moved p moves k [] ns os = refl
length_moved p moves k (c ∷ cs) [] os = refl
length_moved p moves k (c ∷ cs) (n ∷ ns) [] = refl
length_moved p moves k (c ∷ cs) (n ∷ ns) (o ∷ os) = ap suc (length_moved p moves (k + 1) cs ns os)

length_first : (cs : List Column) (ns : List (Option ℕ)) → length (outside_first cs ns) ≡ length cs
length_first cs ns =
    length_moved (is_among_first (moves_needed moves_first (first_target ns) cs ns (start cs)) (candidates moves_first cs ns (start cs))) moves_first 0 cs ns (start cs) ∙ length-replicate (length cs) false

-- one mark for each column
pub length_outside : (cs : List Column) (ns : List (Option ℕ)) → length (outside_of cs ns) ≡ length cs
length_outside cs ns =
    length_moved (is_among_first (moves_needed moves_second (second_target ns) cs ns (outside_first cs ns)) (candidates moves_second cs ns (outside_first cs ns))) moves_second 0 cs ns (outside_first cs ns)
    ∙ length_first cs ns

first_is : (cs : List Column) (ns : List (Option ℕ)) → of_storages moves_first cs (outside_of cs ns) ≡ outside_first cs ns
first_is cs ns =
    first_of_both (is_among_first (moves_needed moves_second (second_target ns) cs ns (outside_first cs ns)) (candidates moves_second cs ns (outside_first cs ns))) 0 cs ns (outside_first cs ns) (sym (length_first cs ns))
    (moved_are_of (is_among_first (moves_needed moves_first (first_target ns) cs ns (start cs)) (candidates moves_first cs ns (start cs))) moves_first 0 cs ns (start cs) (none_are_of moves_first cs))

pub first_needed_holds : FirstNeeded
first_needed_holds cs ns a last =
    rw (first_is cs ns)
    (round_needed moves_first (first_target ns) cs ns (start cs) a (first_chosen cs ns a last.value last.outside)
    (λ b chosen apart. last.others b (chosen_value moves_first (first_target ns) cs ns (start cs) b chosen) (chosen_first cs ns b chosen) apart))

pub second_needed_holds : SecondNeeded
second_needed_holds cs ns a last =
    round_needed moves_second (second_target ns) cs ns (outside_first cs ns) a (second_chosen cs ns a last.value last.outside)
    (λ b chosen apart. last.others b (chosen_value moves_second (second_target ns) cs ns (outside_first cs ns) b chosen) (chosen_outside moves_second (second_target ns) cs ns (outside_first cs ns) b chosen) apart)

pub first_enough_holds : FirstEnough
first_enough_holds cs ns a v large stays =
    rw (first_is cs ns)
    (round_enough moves_first (first_target ns) cs ns (start cs) a v large (all_inside cs a.place v.column v.at)
    (sym (second_stays cs ns a.place v.column v.at (apart_first v.column.storage v.storage)) ∙ stays))

pub second_enough_holds : SecondEnough
second_enough_holds cs ns a v large stays =
    round_enough moves_second (second_target ns) cs ns (outside_first cs ns) a v large (second_inside cs ns a v) stays
