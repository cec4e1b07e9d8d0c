-- Whether a session is inside a clean-up behind its lines, and which programs such lines make.
use Rattle.std.proofs.Common.{◌≡◌, ◌≤◌, ◌<◌, ℕ, zero, suc, ◌+◌, ◌-◌, Bool, true, false, List, [], ◌∷◌, ◌++◌, length, refl, ap, sym, ◌∙◌, inl, inr, arith, Some, None}
use Rattle.std.specs.Prelude.{slice_get, ◌||◌, ◌==◌}
use Rattle.std.specs.List.{list_any, range_with_len}
use Rattle.std.specs.Option.{option_map_or}
use Rattle.std.proofs.lemmas.Bool.Decides.{nat_tests}
use Rattle.lo_base.specs.declared.request.Request.{Request}
use Rattle.lo_base.specs.declared.request.Request.TheVariants.{Vacuumlo, Step, Finish}
use Rattle.lo_machine.specs.Program.{has_sweeps, program_of}
use Rattle.lo_script.specs.SweepForm.{in_sweep_after, is_in_sweep, is_of_sweep, leaves_open}
use Rattle.lo_script.proofs.DecimalsAndBytes.{tested}
use Rattle.lo_script.proofs.ReadLists.{or-none}

-- a line that may stand where it does
pub sweeps-cons : (in_sweep : Bool) (r : Request) (lines : List Request) → is_of_sweep r ≡ in_sweep → has_sweeps in_sweep (r ∷ lines) ≡ has_sweeps (leaves_open r) lines
sweeps-cons false (Vacuumlo dry limit) lines h = refl
sweeps-cons false Step lines h = cc h
sweeps-cons false Finish lines h = cc h
sweeps-cons false other lines h = refl
sweeps-cons true Step lines h = refl
sweeps-cons true Finish lines h = refl
sweeps-cons true other lines h = cc h

pub sweeps-first : (in_sweep : Bool) (r : Request) (lines : List Request) → has_sweeps in_sweep (r ∷ lines) ≡ true → is_of_sweep r ≡ in_sweep
sweeps-first false Step lines h = cc h
sweeps-first false Finish lines h = cc h
sweeps-first false other lines h = refl
sweeps-first true Step lines h = refl
sweeps-first true Finish lines h = refl
sweeps-first true other lines h = cc h

pub sweeps-rest : (in_sweep : Bool) (r : Request) (lines : List Request) → has_sweeps in_sweep (r ∷ lines) ≡ true → has_sweeps (leaves_open r) lines ≡ true
sweeps-rest in_sweep r lines h = sym (sweeps-cons in_sweep r lines (sweeps-first in_sweep r lines h)) ∙ h

-- a line more that may stand there
pub sweeps-push : (in_sweep : Bool) (lines : List Request) (r : Request) → has_sweeps in_sweep lines ≡ true → is_of_sweep r ≡ in_sweep_after in_sweep lines → has_sweeps in_sweep (lines ++ r ∷ []) ≡ true
sweeps-push in_sweep [] r h stands = sweeps-cons in_sweep r [] stands
sweeps-push in_sweep (x ∷ lines) r h stands =
    sweeps-cons in_sweep x (lines ++ r ∷ []) (sweeps-first in_sweep x lines h)
    ∙ sweeps-push (leaves_open x) lines r (sweeps-rest in_sweep x lines h) stands

pub in_sweep-push : (in_sweep : Bool) (lines : List Request) (r : Request) → in_sweep_after in_sweep (lines ++ r ∷ []) ≡ leaves_open r
in_sweep-push in_sweep [] r = refl
in_sweep-push in_sweep (x ∷ lines) r = in_sweep-push (leaves_open x) lines r

-- the last line tells it
pub in_sweep-last : (in_sweep : Bool) (lines : List Request) → option_map_or leaves_open (slice_get lines (length lines - 1)) in_sweep ≡ in_sweep_after in_sweep lines
in_sweep-last in_sweep [] = refl
in_sweep-last in_sweep (x ∷ []) = refl
in_sweep-last in_sweep (x ∷ y ∷ lines) =
    let behind : length (x ∷ y ∷ lines) - 1 ≡ suc (length (y ∷ lines) - 1) = omega arith in
    rw behind (in_sweep-last in_sweep (y ∷ lines))

pub in_sweep-some : (lines : List Request) (r : Request) → slice_get lines (length lines - 1) ≡ Some r → leaves_open r ≡ is_in_sweep lines
in_sweep-some lines r h = let last = in_sweep-last false lines in rw h at last

pub in_sweep-none : (lines : List Request) → slice_get lines (length lines - 1) ≡ None → false ≡ is_in_sweep lines
in_sweep-none lines h = let last = in_sweep-last false lines in rw h at last

-- whether one of the sessions from a number on ends inside a clean-up

abbrev pub ends_among : List (List Request) → (first count : ℕ) → Bool
ends_among programs first count = list_any (λ session. is_in_sweep (program_of programs session)) (range_with_len first count)

abbrev pub ends_from : List (List Request) → (first : ℕ) → Bool
ends_from programs n = ends_among programs n (17 - n)

step_from : (programs : List (List Request)) (n : ℕ) → n ≤ 16 → ends_from programs n ≡ (is_in_sweep (program_of programs n) || ends_from programs (n + 1))
step_from programs n few =
    let one : 17 - n ≡ suc (16 - n) = omega arith in
    let rest : 16 - n ≡ 17 - (n + 1) = omega arith in
    ap (ends_among programs n) one ∙ ap (λ (count : ℕ). is_in_sweep (program_of programs n) || ends_among programs (n + 1) count) rest

pub ends_here : (programs : List (List Request)) (n : ℕ) → n ≤ 16 → is_in_sweep (program_of programs n) ≡ true → ends_from programs n ≡ true
ends_here programs n few is = step_from programs n few ∙ ap (λ b. b || ends_from programs (n + 1)) is

pub ends_next : (programs : List (List Request)) (n : ℕ) → n ≤ 16 → is_in_sweep (program_of programs n) ≡ false → ends_from programs (n + 1) ≡ ends_from programs n
ends_next programs n few is = sym (step_from programs n few ∙ ap (λ b. b || ends_from programs (n + 1)) is)

pub ends_past : (programs : List (List Request)) (n : ℕ) → 16 < n → ends_from programs n ≡ false
ends_past programs n past = let none : 17 - n ≡ 0 = omega arith in ap (ends_among programs n) none

-- no number of a range passes a test
pub none_in : (test : ℕ → Bool) (first count : ℕ) → list_any test (range_with_len first count) ≡ false → (n : ℕ) → first ≤ n → n < first + count → test n ≡ false
none_in test first zero h n low high = absurd (omega (arith, low, high))
none_in test first (suc count) h n low high = elim (tested (n == first)) [
  | inl same ↦
      let is : n ≡ first = grind (arith, nat_tests, same) in
      rw is (or-none (test first) (list_any test (range_with_len (first + 1) count)) h).0
  | inr other ↦
      let apart : ¬ (n ≡ first) = λ e. grind (arith, nat_tests, other, e) in
      none_in test (first + 1) count (or-none (test first) (list_any test (range_with_len (first + 1) count)) h).1 n (omega (arith, low, apart)) (omega (arith, high))
]

pub none_passes : (test : ℕ → Bool) (first count : ℕ) → ((n : ℕ) → first ≤ n → test n ≡ false) → list_any test (range_with_len first count) ≡ false
none_passes test first zero h = refl
none_passes test first (suc count) h =
    rw (h first (omega arith)) (none_passes test (first + 1) count (λ n low. h n (omega (arith, low))))
