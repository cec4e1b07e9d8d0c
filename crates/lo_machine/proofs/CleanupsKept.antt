-- The clean-ups that an engine keeps: what stands at a session's place, and one that is exchanged.
use Rattle.std.proofs.Common.{◌≡◌, ◌≢◌, ◌≤◌, ◌<◌, ℕ, ◌+◌, ◌-◌, true, false, inl, inr, List, [], ◌∷◌, ◌++◌, length, length-append, Option, Some, None, refl, ap, sym, subst, ◌∙◌, arith, length-set}
use Rattle.std.specs.Prelude.{◌==◌, slice_get, slice_set, slice_index_or}
use Rattle.std.proofs.lemmas.Bool.{cases_eq, false≢true, true≢false}
use Rattle.std.proofs.lemmas.Bool.Decides.{nat_tests}
use Rattle.std.proofs.lemmas.List.{get_or_default}
use Rattle.std.proofs.lemmas.Option.{none-some, same_Some, slice_get_read}
use Rattle.orphan_sweep.specs.declared.act.SweepAct.{SweepAct}
use Rattle.orphan_sweep.specs.History.{History}
use Rattle.orphan_sweep.specs.State as sweep
use Rattle.orphan_sweep.specs.State.{next_of}
use Rattle.xact_core.proofs.ListPlaces.{append_cases, set_here, set_other}
use Rattle.lo_machine.specs.declared.cleanup.Cleanup.{Cleanup}
use Rattle.lo_machine.specs.declared.engine.Engine.{Engine}
use Rattle.lo_machine.specs.Engine.{AreOver, HasSweeps, StandsFor, next_in, next_at}
use Rattle.lo_machine.specs.State.{State}
use Rattle.lo_machine.specs.SweepRows.{act_in, act_of, is_idle, rest_in}
use Rattle.lo_machine.specs.Sweeping.{IsFor, IsOver, sweeps_of, with_sweep_at}

-- a session's own clean-up, which stands at its place

pub record IsOwn (e : Engine) (s place : ℕ) (own : Cleanup) : Type 0 where
  pub low : 1 ≤ s
  pub high : s ≤ 16
  pub at : place + 1 ≡ s
  pub sixteen : length e.cleanups.items ≡ 16
  pub taken : own ≡ slice_index_or e.cleanups.items place own

module _ (e : Engine) (s place : ℕ) (own : Cleanup) (is : IsOwn e s place own) where
  within : place < length e.cleanups.items
  within = omega (arith, is.at, is.high, is.sixteen)

  stood : slice_get e.cleanups.items (s - 1) ≡ Some own
  stood =
      let here : place ≡ s - 1 = omega (arith, is.at) in
      subst (λ (n : ℕ). slice_get e.cleanups.items n ≡ Some own) here (slice_get_read e.cleanups.items (length e.cleanups.items) place own refl within is.taken)

  pub own_for : (st : State) → StandsFor e st → IsFor own (sweeps_of st s)
  own_for st stands = stands.sweeps.each s own is.low is.high stood

  pub own_next : next_in e s ≡ next_of own.sweep
  own_next = ap next_at stood

  -- another one in its place
  pub exchanged : (items : List Cleanup) (own' : Cleanup) (sweeps : ℕ → Option History) (sweep' : Option History) → items ≡ slice_set e.cleanups.items place own' → HasSweeps e.cleanups.items sweeps → IsFor own' sweep' → HasSweeps items (with_sweep_at s sweep' sweeps)
  exchanged items own' sweeps sweep' here_set has for' = record { each = by }
    where
      by : (t : ℕ) (one : Cleanup) → 1 ≤ t → t ≤ 16 → slice_get items (t - 1) ≡ Some one → IsFor one (with_sweep_at s sweep' sweeps t)
      by t one low high there = elim (cases_eq t s) [
        | inl same ↦
            let test : (t == s) ≡ true = grind (arith, nat_tests, same) in
            let here : place ≡ t - 1 = omega (arith, same, is.at) in
            let found : slice_get items (t - 1) ≡ Some own' = ap (λ (l : List Cleanup). slice_get l (t - 1)) here_set ∙ subst (λ (n : ℕ). slice_get (slice_set e.cleanups.items place own') n ≡ Some own') here (set_here e.cleanups.items place own' within) in
            let is_own : own' ≡ one = same_Some own' one (sym found ∙ there) in
            rw test (subst (λ (c : Cleanup). IsFor c sweep') is_own for')
        | inr other ↦
            let test : (t == s) ≡ false = grind (arith, nat_tests, other) in
            let far : place ≢ t - 1 = λ same. other (omega (arith, same, is.at, low)) in
            let found = ap (λ (l : List Cleanup). slice_get l (t - 1)) here_set ∙ set_other e.cleanups.items place (t - 1) own' far in
            rw test (has.each t one low high (sym found ∙ there))
      ]

  pub still_sixteen : (items : List Cleanup) (own' : Cleanup) → items ≡ slice_set e.cleanups.items place own' → length items ≡ 16
  still_sixteen items own' here_set = ap (λ (l : List Cleanup). length l) here_set ∙ (length-set e.cleanups.items place own' ∙ is.sixteen)

-- one's clean-up that stays
pub sweeps_same : (s : ℕ) (sweeps : ℕ → Option History) (sweep' : Option History) → sweep' ≡ sweeps s → (t : ℕ) → sweeps t ≡ with_sweep_at s sweep' sweeps t
sweeps_same s sweeps sweep' same t = elim (cases_eq t s) [
  | inl is ↦
      let test : (t == s) ≡ true = grind (arith, nat_tests, is) in
      rw test (ap sweeps is ∙ sym same)
  | inr other ↦
      let test : (t == s) ≡ false = grind (arith, nat_tests, other) in
      rw test refl
]

pub sweeps_kept : (items : List Cleanup) (s : ℕ) (sweeps : ℕ → Option History) (sweep' : Option History) → sweep' ≡ sweeps s → HasSweeps items sweeps → HasSweeps items (with_sweep_at s sweep' sweeps)
sweeps_kept items s sweeps sweep' same has = record { each = λ t own low high is. subst (IsFor own) (sweeps_same s sweeps sweep' same t) (has.each t own low high is) }

-- a clean-up whose act is none but idle was begun

pub record IsBegun (found : Option History) : Type 0 where
  pub history : History
  pub is : found ≡ Some history

pub begun_of : (found : Option History) → is_idle (act_in found) ≡ false → IsBegun found
begun_of None busy = absurd (true≢false busy)
begun_of (Some h) busy = record { history = h; is = refl }

-- one that is over has no act

pub act_for : (own : Cleanup) (found : Option History) → IsFor own found → next_of own.sweep ≡ act_in found
act_for own None over = rw over.left refl
act_for own (Some h) at = ap next_of at.sweep

pub rest_for : (own : Cleanup) (found : Option History) → IsFor own found → own.sweep.rest ≡ rest_in found
rest_for own None over = over.rest
rest_for own (Some h) at = ap (λ (s : sweep.State). s.rest) at.sweep

-- clean-ups that are over, made one after another

pub record AreOverBelow (number : ℕ) (cleanups : List Cleanup) : Type 0 where
  pub count : length cleanups ≡ number
  pub each : (place : ℕ) (own : Cleanup) → slice_get cleanups place ≡ Some own → IsOver own

pub none_over : AreOverBelow 0 []
none_over = record { count = refl; each = λ place own is. absurd (none-some own is) }

pub one_over : (number : ℕ) (cleanups : List Cleanup) (own : Cleanup) → AreOverBelow number cleanups → IsOver own → AreOverBelow (number + 1) (cleanups ++ own ∷ [])
one_over number cleanups own below over = record {
  count = omega (arith, below.count, length-append cleanups (own ∷ []));
  each = λ place found is. elim (append_cases cleanups own found place is) [
    | inl before ↦ below.each place found before
    | inr here ↦ subst IsOver (sym here.1) over
  ];
}

pub all_over : (cleanups : List Cleanup) → AreOver cleanups → HasSweeps cleanups (λ s. None)
all_over cleanups over = record { each = λ s own low high is. over.each (s - 1) own is }

-- what stands at a session's place, where no code looks at it

pub record IsPlaced (e : Engine) (s : ℕ) : Type 0 where
  pub place : ℕ
  pub own : Cleanup
  pub is : IsOwn e s place own

some_at : (cleanups : List Cleanup) (place : ℕ) → place < length cleanups → (own : Cleanup) × (own ≡ slice_index_or cleanups place own)
some_at [] place within = absurd (omega (arith, within))
some_at (c ∷ cleanups) place within = (slice_index_or (c ∷ cleanups) place c, get_or_default (c ∷ cleanups) place c (slice_index_or (c ∷ cleanups) place c) within)

pub own_placed : (e : Engine) (s : ℕ) → 1 ≤ s → s ≤ 16 → length e.cleanups.items ≡ 16 → IsPlaced e s
own_placed e s low high sixteen =
    let one = some_at e.cleanups.items (s - 1) (omega (arith, low, high, sixteen)) in
    record { place = s - 1; own = one.0; is = record { low = low; high = high; at = omega (arith, low); sixteen = sixteen; taken = one.1 } }
