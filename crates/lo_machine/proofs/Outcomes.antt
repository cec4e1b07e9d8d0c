-- The rows of requests on data as outcomes of a state, where blocks are not counted: where a request may stand, and where it may
-- not.
use Rattle.std.proofs.Common.{◌≡◌, ℕ, pos, Bool, true, false, List, [], ◌∷◌, ◌++◌, Option, Some, None, refl, ap, sym, ◌∙◌}
use Rattle.std.specs.Prelude.{◌||◌, option_map}
use Rattle.lo_base.specs.declared.refusal.Cause.{Cause}
use Rattle.lo_base.specs.declared.refusal.Refusal.{Refusal}
use Rattle.lo_base.specs.declared.request.Request.{Request}
use Rattle.lo_model.specs.Edit.{Deed}
use Rattle.lo_model.specs.Held.{need_of}
use Rattle.lo_model.specs.Transaction.{is_open}
use Rattle.lo_pages.specs.Outcome.{first_of}
use Rattle.lo_machine.specs.CallRow.{call_row, is_call, is_on_data, sets}
use Rattle.lo_machine.specs.CallRows.{here, called, call_refusals, call_granted, misplaced, misplaced_by}
use Rattle.lo_machine.specs.Row.{Row}
use Rattle.lo_machine.specs.State.{State, now, refused, session_of}
use Rattle.lo_machine.specs.Step.{refusals, granted, granted_or_refused, tried}
use Rattle.lo_machine.specs.Terms.{pool_short, refusal, short_of, held_count}
use Rattle.lo_machine.proofs.CallCases.{each_call, each_set}

-- the row of a request in a state
abbrev pub row_of : State → (session : ℕ) → Request → Row
row_of st s r = call_row r (here st s)

-- a request's row gives its refusals and what it is granted
record IsByRow (st : State) (s : ℕ) (r : Request) : Type 0 where
  terms : refusals st s r ≡ misplaced st s r ∷ call_refusals st s (call_row r)
  grant : granted st s r ≡ call_granted st s (call_row r)

by_row : (st : State) (s : ℕ) (r : Request) → is_on_data r ≡ true → IsByRow st s r
by_row st s r data' = by (is_call r) refl
  where
    calls : is_call r ≡ true → IsByRow st s r
    calls = each_call (IsByRow st s) record {
      creat = λ mode. record { terms = refl; grant = refl };
      create = λ o. record { terms = refl; grant = refl };
      open' = λ o mode. record { terms = refl; grant = refl };
      close = λ fd. record { terms = refl; grant = refl };
      read = λ fd count. record { terms = refl; grant = refl };
      write = λ fd bytes. record { terms = refl; grant = refl };
      seek = λ fd offset whence. record { terms = refl; grant = refl };
      seek64 = λ fd offset whence. record { terms = refl; grant = refl };
      tell = λ fd. record { terms = refl; grant = refl };
      tell64 = λ fd. record { terms = refl; grant = refl };
      truncate = λ fd size. record { terms = refl; grant = refl };
      truncate64 = λ fd size. record { terms = refl; grant = refl };
      unlink = λ o. record { terms = refl; grant = refl };
      get = λ o from count. record { terms = refl; grant = refl };
      put = λ o at bytes. record { terms = refl; grant = refl };
      from_bytea = λ o bytes. record { terms = refl; grant = refl };
      create_table = λ name columns. record { terms = refl; grant = refl };
      insert = λ t values. record { terms = refl; grant = refl };
      update = λ t i changes. record { terms = refl; grant = refl };
      delete = λ t i. record { terms = refl; grant = refl };
      get_row = λ t i. record { terms = refl; grant = refl };
      ids = λ t. record { terms = refl; grant = refl };
      slice = λ t i column from count. record { terms = refl; grant = refl };
      declare = λ cursor t i. record { terms = refl; grant = refl };
      fetch = λ cursor column from count. record { terms = refl; grant = refl };
      close_cursor = λ cursor. record { terms = refl; grant = refl };
      rewrite = λ t storages. record { terms = refl; grant = refl };
      load = λ name t i column. record { terms = refl; grant = refl };
    } r

    set : sets r ≡ true → IsByRow st s r
    set = each_set (IsByRow st s) record {
      array = λ name text. record { terms = refl; grant = refl };
      set = λ name sub value. record { terms = refl; grant = refl };
      elem' = λ name sub. record { terms = refl; grant = refl };
      show = λ name. record { terms = refl; grant = refl };
    } r

    by : (b : Bool) → is_call r ≡ b → IsByRow st s r
    by true is = calls is
    by false is = set (ap (λ (b : Bool). b || sets r) (sym is) ∙ data')

first_more : (terms : List (Option Refusal)) → first_of (terms ++ None ∷ []) ≡ first_of terms
first_more [] = refl
first_more (None ∷ terms) = first_more terms
first_more (Some r ∷ terms) = refl

no_pool : (st : State) (deeds : List Deed) → st.blocks ≡ None → pool_short st deeds ≡ None
no_pool st deeds uncounted = ap (λ (blocks : Option ℕ). short_of blocks (need_of (now st) deeds) (held_count st)) uncounted

-- one that stands where it may

abbrev pub IsPlaced : State → (session : ℕ) → Request → Type 0
IsPlaced st s r = misplaced_by r (is_open (session_of st s).transaction) ≡ None

pub first_refusal : (st : State) (s : ℕ) (r : Request) → is_on_data r ≡ true → IsPlaced st s r → st.blocks ≡ None → first_of (refusals st s r) ≡ first_of (row_of st s r).refusals
first_refusal st s r data' placed uncounted =
    ap first_of (by_row st s r data').terms
    ∙ (ap (λ (cause : Option Cause). first_of (option_map (λ c. refusal c (pos 0)) cause ∷ call_refusals st s (call_row r))) placed
    ∙ (ap (λ (term : Option Refusal). first_of ((row_of st s r).refusals ++ term ∷ [])) (no_pool st (row_of st s r).granted.deeds uncounted)
    ∙ first_more (row_of st s r).refusals))

pub tried_granted : (st : State) (s : ℕ) (r : Request) → is_on_data r ≡ true → IsPlaced st s r → st.blocks ≡ None → first_of (row_of st s r).refusals ≡ None → tried st s r ≡ called st s (row_of st s r).granted
tried_granted st s r data' placed uncounted none =
    ap (granted_or_refused st s r) (first_refusal st s r data' placed uncounted ∙ none) ∙ (by_row st s r data').grant

pub tried_refused : (st : State) (s : ℕ) (r : Request) (refusal : Refusal) → is_on_data r ≡ true → IsPlaced st s r → st.blocks ≡ None → first_of (row_of st s r).refusals ≡ Some refusal → tried st s r ≡ refused st s refusal
tried_refused st s r refusal data' placed uncounted some =
    ap (granted_or_refused st s r) (first_refusal st s r data' placed uncounted ∙ some)

-- and one that does not, which is refused first of all
pub tried_misplaced : (st : State) (s : ℕ) (r : Request) (cause : Cause) → is_on_data r ≡ true → misplaced_by r (is_open (session_of st s).transaction) ≡ Some cause → tried st s r ≡ refused st s (refusal cause (pos 0))
tried_misplaced st s r cause data' is =
    ap (λ (terms : List (Option Refusal)). granted_or_refused st s r (first_of terms)) (by_row st s r data').terms
    ∙ ap (λ (why : Option Cause). granted_or_refused st s r (first_of (option_map (λ c. refusal c (pos 0)) why ∷ call_refusals st s (call_row r)))) is
