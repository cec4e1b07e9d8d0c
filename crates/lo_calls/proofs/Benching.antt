-- What the bench of the tests keeps: two sessions that are ready, through the calls of one and through its transactions.
use Rattle.std.proofs.Common.{◌≡◌, ◌≢◌, ◌≤◌, ◌<◌, ℕ, ◌+◌, List, [], ◌∷◌, ◌++◌, length, Option, None, refl, ap, sym, subst, ◌∙◌, arith, take, append_assoc, length-append, length-take}
use Rattle.std.specs.Prelude.{IsPermutation, Result, Ok, IfOk}
use Rattle.std.proofs.lemmas.List.Sorted.{IsPermutation-refl, IsPermutation-trans, IsPermutation-append, IsPermutation-append_comm}
use Rattle.xact_core.specs.declared.snapshot.Snapshot.{Snapshot}
use Rattle.xact_core.specs.Ends.{Opens}
use Rattle.xact_core.specs.Kept.{HoldsWholeViews}
use Rattle.xact_core.specs.Transactions.{Transactions, HasLevels, levels_of}
use Rattle.row_versions.proofs.Benching.{whole_same, whole_none}
use Rattle.lo_pages.specs.Standing.{GoWith}
use Rattle.lo_pages.proofs.Standing.{go_opened, go_ticked}
use Rattle.lo_calls.specs.declared.descs.Descs.{Descs}
use Rattle.lo_calls.specs.declared.session.LoSession.{LoSession}
use Rattle.lo_calls.specs.declared.store.LoStore.{LoStore}
use Rattle.lo_calls.specs.Descriptors.{holds_of, AreHeld, AreOpen, Ends}
use Rattle.lo_calls.specs.Pair.{HoldApart, AreReady, LeavesReady}
use Rattle.lo_calls.specs.World.{world, counter_end, IsReady, Keeps}
use Rattle.lo_calls.proofs.Keeping.{with_descs, ends_keeps, moved_keeps}

-- open descriptors, in other transactions that hold their views too

open_held : (x x' : Transactions) (s : ℕ) (descs : Descs) → AreHeld x' descs → AreOpen x s descs → AreOpen x' s descs
open_held x x' s descs held before = record { most = before.most; positions = before.positions; holds = before.holds; held = held }

open_same : (x x' : Transactions) (s : ℕ) (descs : Descs) → x'.held ≡ x.held → AreOpen x s descs → AreOpen x' s descs
open_same x x' s descs same before = open_held x x' s descs (record { rest = before.held.rest; all = subst (λ (views : List Snapshot). IsPermutation views (holds_of descs ++ before.held.rest)) (sym same) before.held.all }) before

-- a session whose transaction begins, and another one beside it

pub begun : (x x' : Transactions) (store : LoStore) (w : LoSession) → HoldsWholeViews x → GoWith x store.pages → store.counter ≤ counter_end → AreOpen x w.s w.descs → Opens w.s None x x' → IsReady (world x' store w)
begun x x' store w whole goes counter before by = record {
  transaction = subst (λ (names : List (Option (List ℕ))). 0 < length names) (sym by.levels.own) (omega (arith, length-append (levels_of x w.s) (None ∷ [])));
  whole = whole_same x x' by.held whole;
  goes = go_opened w.s None x x' store.pages by goes;
  descriptors = open_same x x' w.s w.descs by.held before;
  counter = counter;
}

beside : (x x' : Transactions) (store : LoStore) (w : LoSession) → levels_of x' w.s ≡ levels_of x w.s → x'.held ≡ x.held → (GoWith x store.pages → GoWith x' store.pages) → IsReady (world x store w) → IsReady (world x' store w)
beside x x' store w levels held goes ready = record {
  transaction = subst (λ (names : List (Option (List ℕ))). 0 < length names) (sym levels) ready.transaction;
  whole = whole_same x x' held ready.whole;
  goes = goes ready.goes;
  descriptors = open_same x x' w.s w.descs held ready.descriptors;
  counter = ready.counter;
}

pub beside_begun : (x x' : Transactions) (store : LoStore) (w : LoSession) (s : ℕ) → w.s ≢ s → Opens s None x x' → IsReady (world x store w) → IsReady (world x' store w)
beside_begun x x' store w s apart by = beside x x' store w (by.levels.others w.s apart) by.held (go_opened s None x x' store.pages by)

-- views that two sessions hold

swap_holds : (views one two rest : List Snapshot) → IsPermutation views (one ++ (two ++ rest)) → IsPermutation views (two ++ (one ++ rest))
swap_holds views one two rest all = IsPermutation-trans views (one ++ (two ++ rest)) (two ++ (one ++ rest)) all (subst (λ (l : List Snapshot). IsPermutation l (two ++ (one ++ rest))) (append_assoc one two rest) (subst (IsPermutation ((one ++ two) ++ rest)) (append_assoc two one rest) (IsPermutation-append (one ++ two) (two ++ one) rest rest (IsPermutation-append_comm one two) (IsPermutation-refl rest))))

pub apart_swapped : (x : Transactions) (one two : Descs) → HoldApart x one two → HoldApart x two one
apart_swapped x one two apart = record { rest = apart.rest; all = swap_holds x.held (holds_of one) (holds_of two) apart.rest apart.all }

pub swapped : (x : Transactions) (store : LoStore) (one two : LoSession) → AreReady x store one two → AreReady x store two one
swapped x store one two ready = record { first = ready.second; second = ready.first; numbers = λ same. ready.numbers (sym same); apart = apart_swapped x one.descs two.descs ready.apart }

-- what a call of the one keeps of the other

pub kept_ready : (x x' : Transactions) (store store' : LoStore) (one one' two : LoSession) → AreReady x store one two → Keeps (world x store one) (world x' store' one') → AreReady x' store' one' two
kept_ready x x' store store' one one' two ready keeps = record {
  first = keeps.ready;
  second = record {
    transaction = subst (λ (u : Transactions). 0 < length (levels_of u two.s)) (sym keeps.others.rest) ready.second.transaction;
    whole = keeps.ready.whole;
    goes = keeps.ready.goes;
    descriptors = open_held x x' two.s two.descs (record { rest = holds_of one'.descs ++ ready.apart.rest; all = swap_holds x'.held (holds_of one'.descs) (holds_of two.descs) ready.apart.rest apart }) ready.second.descriptors;
    counter = keeps.ready.counter;
  };
  numbers = λ same. ready.numbers (sym keeps.session ∙ same);
  apart = record { rest = ready.apart.rest; all = apart };
}
  where
    apart : IsPermutation x'.held (holds_of one'.descs ++ (holds_of two.descs ++ ready.apart.rest))
    apart = keeps.holds.rest (holds_of two.descs ++ ready.apart.rest) ready.apart.all

-- a transaction that ends, and the next one

pub again : (x x1 x2 x3 : Transactions) (store : LoStore) (one two : LoSession) (descs : Descs) → AreReady x store one two → Ends x x1 one.descs descs → HasLevels one.s [] x1 x2 → x2.held ≡ x1.held → (IsReady (world x1 store (with_descs one descs)) → GoWith x2 store.pages) → Opens one.s None x2 x3 → AreReady x3 store (with_descs one descs) two
again x x1 x2 x3 store one two descs ready ends levels held goes opens = record {
  first = begun x2 x3 store (with_descs one descs) (whole_same x1 x2 held ended.first.whole) (goes ended.first) ended.first.counter (open_same x1 x2 one.s descs held ended.first.descriptors) opens;
  second = beside_begun x2 x3 store two one.s other opens (beside x1 x2 store two (levels.others two.s other) held (λ go. goes ended.first) ended.second);
  numbers = ready.numbers;
  apart = record { rest = ended.apart.rest; all = subst (λ (views : List Snapshot). IsPermutation views (holds_of descs ++ (holds_of two.descs ++ ended.apart.rest))) (sym (opens.held ∙ held)) ended.apart.all };
}
  where
    ended : AreReady x1 store (with_descs one descs) two
    ended = kept_ready x x1 store store one (with_descs one descs) two ready (ends_keeps (world x store one) x1 descs ready.first ends)

    other : two.s ≢ one.s
    other same = ready.numbers (sym same)

-- what a call that succeeded says of its result
pub said : {A E : Type 0} (P : A → Type 0) (r : Result A E) (a : A) → r ≡ Ok a → IfOk r P → P a
said {A} {E} P r a is all = subst (λ (q : Result A E). IfOk q P) is all

-- two new sessions, each with a transaction
pub both_begun : (x x1 x2 : Transactions) (store : LoStore) (one two : LoSession) → x.held ≡ [] → ((u : Transactions) → GoWith u store.pages) → store.counter ≤ counter_end → one.s ≢ two.s → ((u : Transactions) → AreOpen u one.s one.descs) → ((u : Transactions) → AreOpen u two.s two.descs) → holds_of one.descs ≡ [] → holds_of two.descs ≡ [] → Opens one.s None x x1 → Opens two.s None x1 x2 → AreReady x2 store one two
both_begun x x1 x2 store one two none goes counter apart open_one open_two first_none second_none first second = record {
  first = beside_begun x1 x2 store one two.s apart second (begun x x1 store one whole (goes x) counter (open_one x) first);
  second = begun x1 x2 store two (whole_same x x1 first.held whole) (goes x1) counter (open_two x1) second;
  numbers = apart;
  apart = record { rest = x2.held; all = subst (λ (views : List Snapshot). IsPermutation x2.held (views ++ (holds_of two.descs ++ x2.held))) (sym first_none) (subst (λ (views : List Snapshot). IsPermutation x2.held (views ++ x2.held)) (sym second_none) (IsPermutation-refl x2.held)) };
}
  where
    whole : HoldsWholeViews x
    whole = whole_none x none

-- what an act leaves

pub kept_leaves : (x x' : Transactions) (store store' : LoStore) (one one' two : LoSession) → AreReady x store one two → Keeps (world x store one) (world x' store' one') → LeavesReady x x' store' one' two
kept_leaves x x' store store' one one' two ready keeps = record {
  ready = kept_ready x x' store store' one one' two ready keeps;
  undos = let same = ap (λ (u : Transactions). u.undos) keeps.others.rest in omega (arith, same);
}

pub nothing_leaves : (x : Transactions) (store : LoStore) (one two : LoSession) → AreReady x store one two → LeavesReady x x store one two
nothing_leaves x store one two ready = record { ready = ready; undos = omega arith }

pub swapped_leaves : (x : Transactions) (store : LoStore) (one two : LoSession) → AreReady x store one two → LeavesReady x x store two one
swapped_leaves x store one two ready = record { ready = swapped x store one two ready; undos = omega arith }

-- a clock that moves on
pub ticked_leaves : (x x' : Transactions) (store : LoStore) (one two : LoSession) → AreReady x store one two → x' ≡ record x { clock = x.clock + 1 } → LeavesReady x x' store one two
ticked_leaves x x' store one two ready is = subst (λ (u : Transactions). LeavesReady x u store one two) (sym is) (record {
  ready = record {
    first = beside x later store one refl refl go ready.first;
    second = beside x later store two refl refl go ready.second;
    numbers = ready.numbers;
    apart = record { rest = ready.apart.rest; all = ready.apart.all };
  };
  undos = omega arith;
})
  where
    later : Transactions
    later = record x { clock = x.clock + 1 }

    go : GoWith x store.pages → GoWith later store.pages
    go = go_ticked x later store.pages (record { is = refl })

-- a level that begins, and levels that end
pub opened_leaves : (x x' : Transactions) (store : LoStore) (one two : LoSession) (name : Option (List ℕ)) → AreReady x store one two → Opens one.s name x x' → LeavesReady x x' store one two
opened_leaves x x' store one two name ready by = record {
  ready = record {
    first = record {
      transaction = subst (λ (names : List (Option (List ℕ))). 0 < length names) (sym by.levels.own) (omega (arith, length-append (levels_of x one.s) (name ∷ [])));
      whole = whole_same x x' by.held ready.first.whole;
      goes = go_opened one.s name x x' store.pages by ready.first.goes;
      descriptors = open_same x x' one.s one.descs by.held ready.first.descriptors;
      counter = ready.first.counter;
    };
    second = beside x x' store two (by.levels.others two.s (λ same. ready.numbers (sym same))) by.held (go_opened one.s name x x' store.pages by) ready.second;
    numbers = ready.numbers;
    apart = record { rest = ready.apart.rest; all = subst (λ (views : List Snapshot). IsPermutation views (holds_of one.descs ++ (holds_of two.descs ++ ready.apart.rest))) (sym by.held) ready.apart.all };
  };
  undos = omega (arith, by.undos);
}

pub levels_leave : (x x1 x2 : Transactions) (store : LoStore) (one two : LoSession) (descs : Descs) (names : List (Option (List ℕ))) → AreReady x1 store (with_descs one descs) two → x1.undos ≡ x.undos → HasLevels one.s names x1 x2 → 0 < length names → x2.held ≡ x1.held → x2.undos ≤ x1.undos + 1 → GoWith x2 store.pages → LeavesReady x x2 store (with_descs one descs) two
levels_leave x x1 x2 store one two descs names ready before levels some held undos goes = record {
  ready = record {
    first = record {
      transaction = subst (λ (left : List (Option (List ℕ))). 0 < length left) (sym levels.own) some;
      whole = whole_same x1 x2 held ready.first.whole;
      goes = goes;
      descriptors = open_same x1 x2 one.s descs held ready.first.descriptors;
      counter = ready.first.counter;
    };
    second = beside x1 x2 store two (levels.others two.s (λ same. ready.numbers (sym same))) held (λ go. goes) ready.second;
    numbers = ready.numbers;
    apart = record { rest = ready.apart.rest; all = subst (λ (views : List Snapshot). IsPermutation views (holds_of descs ++ (holds_of two.descs ++ ready.apart.rest))) (sym held) ready.apart.all };
  };
  undos = omega (arith, before, undos);
}

-- some descriptors of the one ended
pub ended_ready : (x x1 : Transactions) (store : LoStore) (one two : LoSession) (descs : Descs) → AreReady x store one two → Ends x x1 one.descs descs → AreReady x1 store (with_descs one descs) two
ended_ready x x1 store one two descs ready ends = kept_ready x x1 store store one (with_descs one descs) two ready (ends_keeps (world x store one) x1 descs ready.first ends)

-- the descriptors of the one moved to other levels
pub moved_ready : (x x1 : Transactions) (store : LoStore) (one two : LoSession) (descs : Descs) → AreReady x store one two → x1 ≡ x → holds_of descs ≡ holds_of one.descs → (AreOpen x one.s one.descs → AreOpen x1 one.s descs) → AreReady x1 store (with_descs one descs) two
moved_ready x x1 store one two descs ready same holds stay =
    let open' : AreOpen x one.s descs = subst (λ (u : Transactions). AreOpen u one.s descs) same (stay ready.first.descriptors) in
    subst (λ (u : Transactions). AreReady u store (with_descs one descs) two) (sym same) (kept_ready x x store store one (with_descs one descs) two ready (moved_keeps (world x store one) store descs ready.first ready.first.goes ready.first.counter holds open'))

-- a level is one of those that are left, where it is below the end of them
pub some_left : (level : ℕ) (names : List (Option (List ℕ))) → 1 ≤ level → level ≤ length names → 0 < length (take level names)
some_left level names low high = omega (arith, length-take level names)
