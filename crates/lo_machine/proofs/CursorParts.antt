-- The open cursors of all sessions are those of session 1, of session 2 and so on, one part after another.
use Rattle.std.proofs.Common.{◌≡◌, ◌≢◌, ◌≤◌, ◌<◌, ℕ, zero, suc, ◌+◌, Bool, true, false, List, [], ◌∷◌, ◌++◌, map, refl, ap, sym, subst, ◌∙◌, arith, drop, length}
use Rattle.std.specs.Prelude.{All, IsPermutation, filter, flat_map, nat_le, slice_index_or, ◌==◌}
use Rattle.std.specs.List.{range_with_len}
use Rattle.std.proofs.lemmas.Bool.Decides.{nat_tests}
use Rattle.std.proofs.lemmas.List.{map-append}
use Rattle.std.proofs.lemmas.List.Elements.{All-nil, All-cons, All-head, All-tail}
use Rattle.std.proofs.lemmas.List.Sorted.{IsPermutation-refl, IsPermutation-sym, IsPermutation-trans, IsPermutation-cons, IsPermutation-middle, IsPermutation-append_right, IsPermutation-map}
use Rattle.lo_model.specs.declared.viewer.Viewer.{Viewer}
use Rattle.lo_model.specs.declared.viewer.Viewer.TheVariants.{Whole}
use Rattle.lo_model.specs.Descriptor.{Cursor}
use Rattle.lo_model.specs.Held.{kept_view}
use Rattle.lo_model.specs.Session.{session_numbers}
use Rattle.row_tables.specs.declared.cursors.Cursor.{Cursor as Entry}
use Rattle.row_tables.specs.declared.cursors.Cursors.{Cursors}
use Rattle.row_tables.specs.Cursors.{HoldsOwn, cursor_by, cursors_of, is_own, own_cursors, hold_of, holds_in}
use Rattle.xact_core.specs.declared.snapshot.Snapshot.{Snapshot}
use Rattle.xact_core.specs.Kept.{view_at}
use Rattle.lo_machine.specs.Server.{later_view}
use Rattle.lo_machine.specs.Later.{all_later_cursors}

-- lists made number by number

pub map_flat_map : {A B : Type 0} (f : A → B) (g : ℕ → List A) (ns : List ℕ) → map f (flat_map g ns) ≡ flat_map (λ (n : ℕ). map f (g n)) ns
map_flat_map f g [] = refl
map_flat_map f g (n ∷ ns) = map-append f (g n) (flat_map g ns) ∙ ap (λ (rest : List _). map f (g n) ++ rest) (map_flat_map f g ns)

pub same_parts : {A : Type 0} (f g : ℕ → List A) (first count : ℕ) → ((n : ℕ) → first ≤ n → n < first + count → f n ≡ g n) → flat_map f (range_with_len first count) ≡ flat_map g (range_with_len first count)
same_parts f g first zero each = refl
same_parts f g first (suc count) each =
    ap (λ (front : List _). front ++ flat_map f (range_with_len (first + 1) count)) (each first (omega arith) (omega arith))
    ∙ ap (λ (rest : List _). g first ++ rest) (same_parts f g (first + 1) count (λ n low high. each n (omega (arith, low)) (omega (arith, high))))

-- A list is its parts by a number of each element, where all numbers are in a range.

module _ {A : Type 0} (number : A → ℕ) where
  abbrev pub part : List A → ℕ → List A
  part xs n = filter (λ (x : A). number x == n) xs

  -- an element that is below the range is in no part
  none_more : (x : A) (xs : List A) (first count : ℕ) → number x < first → flat_map (part (x ∷ xs)) (range_with_len first count) ≡ flat_map (part xs) (range_with_len first count)
  none_more x xs first count below = same_parts (part (x ∷ xs)) (part xs) first count other
    where
      other : (n : ℕ) → first ≤ n → n < first + count → part (x ∷ xs) n ≡ part xs n
      other n low high = let test : (number x == n) ≡ false = grind (arith, nat_tests, low, below) in rw test refl

  -- one more element is in one part
  one_more : (x : A) (xs : List A) (first count : ℕ) → first ≤ number x → number x < first + count → IsPermutation (x ∷ flat_map (part xs) (range_with_len first count)) (flat_map (part (x ∷ xs)) (range_with_len first count))
  one_more x xs first zero low high = absurd (omega (arith, low, high))
  one_more x xs first (suc count) low high = by (number x == first) refl (one_more x xs (first + 1) count)
    where
      rest : List A
      rest = flat_map (part xs) (range_with_len (first + 1) count)

      Later : Type 0
      Later = first + 1 ≤ number x → number x < first + 1 + count → IsPermutation (x ∷ rest) (flat_map (part (x ∷ xs)) (range_with_len (first + 1) count))

      by : (same : Bool) → (number x == first) ≡ same → Later → IsPermutation (x ∷ flat_map (part xs) (range_with_len first (suc count))) (flat_map (part (x ∷ xs)) (range_with_len first (suc count)))
      by true test later =
          let here : number x ≡ first = grind (arith, nat_tests, test) in
          let others = none_more x xs (first + 1) count (omega (arith, here)) in
          rw (test, others) (IsPermutation-refl (x ∷ (part xs first ++ rest)))
      by false test later =
          let above : first + 1 ≤ number x = grind (arith, nat_tests, test, low) in
          let more = later above (omega (arith, high)) in
          rw test
          (IsPermutation-trans (x ∷ (part xs first ++ rest)) (part xs first ++ x ∷ rest) (part xs first ++ flat_map (part (x ∷ xs)) (range_with_len (first + 1) count))
          (IsPermutation-sym (part xs first ++ x ∷ rest) (x ∷ (part xs first ++ rest)) (IsPermutation-middle (part xs first) x rest))
          (IsPermutation-append_right (part xs first) (x ∷ rest) (flat_map (part (x ∷ xs)) (range_with_len (first + 1) count)) more))

  no_parts : (first count : ℕ) → flat_map (part []) (range_with_len first count) ≡ []
  no_parts first zero = refl
  no_parts first (suc count) = no_parts (first + 1) count

  -- each element's number is in the range
  abbrev pub AreWithin : (first count : ℕ) → List A → Type 0
  AreWithin first count xs = All (λ (x : A). (first ≤ number x) × (number x < first + count)) xs

  pub is_its_parts : (first count : ℕ) (xs : List A) → AreWithin first count xs → IsPermutation xs (flat_map (part xs) (range_with_len first count))
  is_its_parts first count [] within = rw (no_parts first count) (IsPermutation-refl [])
  is_its_parts first count (x ∷ xs) within =
      let here = All-head (λ (x : A). (first ≤ number x) × (number x < first + count)) x xs within in
      let more = is_its_parts first count xs (All-tail (λ (x : A). (first ≤ number x) × (number x < first + count)) x xs within) in
      IsPermutation-trans (x ∷ xs) (x ∷ flat_map (part xs) (range_with_len first count)) (flat_map (part (x ∷ xs)) (range_with_len first count))
      (IsPermutation-cons x xs (flat_map (part xs) (range_with_len first count)) more)
      (one_more x xs first count here.0 here.1)

-- open cursors

abbrev pub session_number : Entry → ℕ
session_number c = c.session

-- where none is of a session beyond the sixteen, the session of each is one of them
pub within_sixteen : (entries : List Entry) → ((s : ℕ) → (1 ≤ s → 16 < s) → own_cursors s entries ≡ []) → AreWithin session_number 1 16 entries
within_sixteen [] none = All-nil (λ (c : Entry). (1 ≤ session_number c) × (session_number c < 1 + 16))
within_sixteen (c ∷ cs) none = All-cons (λ (c : Entry). (1 ≤ session_number c) × (session_number c < 1 + 16)) c cs (first (nat_le 1 c.session) refl (nat_le c.session 16) refl) (within_sixteen cs rest)
  where
    there : own_cursors c.session (c ∷ cs) ≡ [] → ⊥
    there is = let test : (c.session == c.session) ≡ true = grind (arith, nat_tests) in let count = ap length is in let some : length (own_cursors c.session (c ∷ cs)) ≡ suc (length (own_cursors c.session cs)) = rw test refl in omega (arith, count, some)

    first : (a : Bool) → nat_le 1 c.session ≡ a → (b : Bool) → nat_le c.session 16 ≡ b → (1 ≤ c.session) × (c.session < 1 + 16)
    first true low true high = (grind (arith, nat_tests, low), grind (arith, nat_tests, high))
    first false low b high = absurd (there (none c.session (λ one. absurd (let no : c.session < 1 = grind (arith, nat_tests, low) in omega (arith, one, no)))))
    first true low false high = absurd (there (none c.session (λ one. grind (arith, nat_tests, high))))

    rest : (s : ℕ) → (1 ≤ s → 16 < s) → own_cursors s cs ≡ []
    rest s beyond = by (is_own s c) refl (none s beyond)
      where
        by : (own : Bool) → is_own s c ≡ own → own_cursors s (c ∷ cs) ≡ [] → own_cursors s cs ≡ []
        by true test is = absurd (let count = ap length is in let some : length (own_cursors s (c ∷ cs)) ≡ suc (length (own_cursors s cs)) = rw test refl in omega (arith, count, some))
        by false test is = let same : own_cursors s (c ∷ cs) ≡ own_cursors s cs = rw test refl in sym same ∙ is

-- the views that they hold, session by session
abbrev pub own_holds : List Entry → (session : ℕ) → List Snapshot
own_holds entries s = holds_in (part session_number entries s)

pub holds_by_session : (entries : List Entry) → ((s : ℕ) → (1 ≤ s → 16 < s) → own_cursors s entries ≡ []) → IsPermutation (holds_in entries) (flat_map (own_holds entries) session_numbers)
holds_by_session entries none =
    subst (IsPermutation (holds_in entries)) (map_flat_map hold_of (part session_number entries) session_numbers)
    (IsPermutation-map hold_of entries (flat_map (part session_number entries) session_numbers) (is_its_parts session_number 1 16 entries (within_sixteen entries none)))

-- those of one session's cursors, as the state has them
cursor_holds_later : (s : ℕ) (entries : List Entry) (cs : List Cursor) → All (λ (c : Entry). c.hold.viewer ≡ Whole s) entries → map cursor_by entries ≡ all_later_cursors cs → holds_in entries ≡ map later_view (map (λ (c : Cursor). kept_view c.clock (Whole s)) cs)
cursor_holds_later s [] [] own is = refl
cursor_holds_later s [] (c ∷ cs) own is = let none = ap length is in absurd (omega (arith, none))
cursor_holds_later s (entry ∷ entries) [] own is = let none = ap length is in absurd (omega (arith, none))
cursor_holds_later s (entry ∷ entries) (c ∷ cs) own is =
    let clock : entry.hold.clock ≡ c.clock + 1 = ap (λ (all : List Cursor). (slice_index_or all 0 c).clock) is in
    let rest = ap (λ (all : List Cursor). drop 1 all) is in
    let viewer = All-head (λ (c : Entry). c.hold.viewer ≡ Whole s) entry entries own in
    ap (λ (n : ℕ). view_at n entry.hold.viewer ∷ holds_in entries) clock
    ∙ (ap (λ (v : Viewer). view_at (c.clock + 1) v ∷ holds_in entries) viewer
    ∙ ap (λ (views : List Snapshot). view_at (c.clock + 1) (Whole s) ∷ views) (cursor_holds_later s entries cs (All-tail (λ (c : Entry). c.hold.viewer ≡ Whole s) entry entries own) rest))

own_viewers : (s : ℕ) (entries : List Entry) → All HoldsOwn entries → All (λ (c : Entry). c.hold.viewer ≡ Whole s) (part session_number entries s)
own_viewers s [] all = All-nil (λ (c : Entry). c.hold.viewer ≡ Whole s)
own_viewers s (c ∷ cs) all = by (session_number c == s) refl (own_viewers s cs (All-tail HoldsOwn c cs all))
  where
    by : (own : Bool) → (session_number c == s) ≡ own → All (λ (c : Entry). c.hold.viewer ≡ Whole s) (part session_number cs s) → All (λ (c : Entry). c.hold.viewer ≡ Whole s) (part session_number (c ∷ cs) s)
    by false test rest = rw test rest
    by true test rest =
        let same : c.session ≡ s = grind (arith, nat_tests, test) in
        rw test (All-cons (λ (c : Entry). c.hold.viewer ≡ Whole s) c (part session_number cs s) (All-head HoldsOwn c cs all ∙ ap Whole same) rest)

pub own_holds_later : (s : ℕ) (entries : List Entry) (cs : List Cursor) → All HoldsOwn entries → own_cursors s entries ≡ all_later_cursors cs → own_holds entries s ≡ map later_view (map (λ (c : Cursor). kept_view c.clock (Whole s)) cs)
own_holds_later s entries cs own is = cursor_holds_later s (part session_number entries s) cs (own_viewers s entries own) is

-- A change of one session's cursors leaves none beyond the sixteen.
pub numbered_but : (old new : Cursors) (session : ℕ) → 1 ≤ session → session ≤ 16 → ((t : ℕ) → t ≢ session → cursors_of t new ≡ cursors_of t old) → ((s : ℕ) → (1 ≤ s → 16 < s) → cursors_of s old ≡ []) → (s : ℕ) → (1 ≤ s → 16 < s) → cursors_of s new ≡ []
numbered_but old new session low high same before s beyond = same s apart ∙ before s beyond
  where
    apart : s ≢ session
    apart is = let above = beyond (omega (arith, is, low)) in omega (arith, is, high, above)
