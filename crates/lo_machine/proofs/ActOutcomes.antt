-- The acts of clean-ups: what each does is an outcome of a request, or a reply alone, and the clean-up is told of it.
use Rattle.std.proofs.Common.{◌≡◌, ℕ, pos, Bool, true, false, not, List, [], ◌∷◌, ◌++◌, length, Option, Some, None, refl, ap, sym, subst, ◌∙◌}
use Rattle.std.specs.Prelude.{◌&&◌, is_some}
use Rattle.std.specs.List.{flat_map}
use Rattle.std.proofs.lemmas.Bool.{false≢true, true≢false}
use Rattle.std.proofs.lemmas.Option.{same_Some}
use Rattle.lo_base.specs.declared.refusal.Cause.TheVariants.{Failed, InBlock}
use Rattle.lo_base.specs.declared.refusal.Refusal.{Refusal}
use Rattle.lo_base.specs.declared.reply.Reply.{Reply}
use Rattle.lo_base.specs.declared.reply.Reply.TheVariants.{Word, Number, Refused}
use Rattle.lo_base.specs.declared.reply.Word.TheVariants as words
use Rattle.lo_base.specs.declared.request.Request.{Request}
use Rattle.lo_base.specs.declared.request.Request.TheVariants.{Begin, Commit, Rollback, LoUnlink, Vacuumlo, Step, Finish}
use Rattle.lo_calls.specs.Terms.{when}
use Rattle.lo_model.specs.Transaction.{is_open}
use Rattle.lo_pages.specs.Outcome.{first_of}
use Rattle.orphan_sweep.specs.declared.act.SweepAct.{SweepAct}
use Rattle.orphan_sweep.specs.declared.act.SweepAct.TheVariants as acts
use Rattle.orphan_sweep.specs.declared.act.Told.{Told}
use Rattle.orphan_sweep.specs.declared.act.Told.TheVariants as told
use Rattle.orphan_sweep.specs.History.{History, and_told}
use Rattle.lo_machine.specs.State.{State, Outcome, session_of, refused, refused_in, answered}
use Rattle.lo_machine.specs.Step.{failed, granted, granted_or_refused, may_go_on, outcome, refusal_of, refusals, tried}
use Rattle.lo_machine.specs.SweepRows.{act_of, act_refusals, act_granted, answer_to, is_idle, told_of, vacuumlo_granted}
use Rattle.lo_machine.specs.Sweeping.{answer_of, answer_where, is_act, request_of}
use Rattle.lo_machine.specs.Served.{is_plain}
use Rattle.lo_machine.specs.Terms.{in_block, refusal}
use Rattle.lo_machine.specs.TransactionRows.{begun, committed_in, rolled_back}
use Rattle.lo_machine.proofs.ToldSweeps.{IsSame, told_same}
use Rattle.lo_machine.proofs.WellStates.{untold}

both_false : (b : Bool) → (b && false) ≡ false
both_false true = refl
both_false false = refl

-- A request that is none of a clean-up leaves each clean-up as it was.

pub refused_sweep : (st : State) (s : ℕ) (r : Refusal) → (refused st s r).player.sweep ≡ (st.players s).sweep
refused_sweep st s r = by (is_open (session_of st s).transaction)
  where
    by : (inside : Bool) → (refused_in st s inside r).player.sweep ≡ (st.players s).sweep
    by false = refl
    by true = refl

rolled_sweep : (st : State) (s : ℕ) (inside : Bool) → (rolled_back st s inside).player.sweep ≡ (st.players s).sweep
rolled_sweep st s false = refl
rolled_sweep st s true = refl

committed_sweep : (st : State) (s : ℕ) (inside fails : Bool) → (committed_in st s inside fails).player.sweep ≡ (st.players s).sweep
committed_sweep st s false fails = refl
committed_sweep st s true true = refl
committed_sweep st s true false = refl

begun_sweep : (st : State) (s : ℕ) (inside : Bool) → (begun st s inside).player.sweep ≡ (st.players s).sweep
begun_sweep st s true = refl
begun_sweep st s false = refl

granted_sweep : (st : State) (s : ℕ) (r : Request) → is_plain r ≡ true → (granted st s r).player.sweep ≡ (st.players s).sweep
granted_sweep st s Begin plain = begun_sweep st s (is_open (session_of st s).transaction)
granted_sweep st s Commit plain = committed_sweep st s (is_open (session_of st s).transaction) (session_of st s).transaction.failed
granted_sweep st s Rollback plain = rolled_sweep st s (is_open (session_of st s).transaction)
granted_sweep st s (Vacuumlo dry limit) plain = absurd (false≢true plain)
granted_sweep st s Step plain = absurd (false≢true plain)
granted_sweep st s Finish plain = absurd (false≢true plain)
granted_sweep st s r plain = refl

pub plain_sweep : (st : State) (s : ℕ) (r : Request) → is_plain r ≡ true → (outcome st s r).player.sweep ≡ (st.players s).sweep
plain_sweep st s r plain = ap (λ (done : Outcome). done.player.sweep) (untold st s r (is_some (refusal_of st s r)) (granted_or_refused st s r (refusal_of st s r)) plain) ∙ by (refusal_of st s r)
  where
    by : (term : Option Refusal) → (granted_or_refused st s r term).player.sweep ≡ (st.players s).sweep
    by None = granted_sweep st s r plain
    by (Some refusal) = refused_sweep st s refusal

-- The act of a step.

module _ (st : State) (s : ℕ) (act : SweepAct) (is : act_of st s ≡ act) where
  -- where there is one, a failed block does not refuse it
  goes_on : is_idle act ≡ false → failed st s Step ≡ None
  goes_on busy = rw (is, busy, both_false (session_of st s).transaction.failed) refl

  pub term_of : is_idle act ≡ false → refusal_of st s Step ≡ first_of (act_refusals st s act)
  term_of busy = rw (goes_on busy, is) refl

  pub outcome_of : (term : Option Refusal) → refusal_of st s Step ≡ term → outcome st s Step ≡ told_of st s act (is_some term) (granted_or_refused st s Step term)
  outcome_of term same = rw (same, is) refl

  pub granted_of : granted st s Step ≡ act_granted st s act
  granted_of = ap (act_granted st s) is

-- what a clean-up is told
pub told_sweep_of : (st : State) (s : ℕ) (act : SweepAct) (is_refused : Bool) (done : Outcome) (h : History) → (st.players s).sweep ≡ Some h → is_idle act ≡ false → (told_of st s act is_refused done).player.sweep ≡ Some (and_told h (answer_to st s act is_refused))
told_sweep_of st s (acts.Scan t c) is_refused done h is busy = rw is refl
told_sweep_of st s acts.Begin is_refused done h is busy = rw is refl
told_sweep_of st s (acts.Unlink o) is_refused done h is busy = rw is refl
told_sweep_of st s acts.Commit is_refused done h is busy = rw is refl
told_sweep_of st s acts.Rollback is_refused done h is busy = rw is refl
told_sweep_of st s acts.Report is_refused done h is busy = rw is refl
told_sweep_of st s acts.Idle is_refused done h is busy = absurd (true≢false busy)

-- An act that is a request does what the request does.
pub record IsByRequest (st : State) (s : ℕ) (act : SweepAct) (r : Request) : Type 0 where
  pub busy : is_idle act ≡ false
  pub asked : is_act r ≡ true
  pub terms : first_of (act_refusals st s act) ≡ first_of (refusals st s r)
  pub grants : act_granted st s act ≡ granted st s r

pub by_request : (st : State) (s : ℕ) (act : SweepAct) (r : Request) → request_of act ≡ Some r → IsByRequest st s act r
by_request st s (acts.Scan t c) r is = cc
by_request st s acts.Begin r is = subst (IsByRequest st s acts.Begin) (same_Some Begin r is) record { busy = refl; asked = refl; terms = refl; grants = refl }
by_request st s (acts.Unlink o) r is = subst (IsByRequest st s (acts.Unlink o)) (same_Some (LoUnlink o) r is) record { busy = refl; asked = refl; terms = refl; grants = refl }
by_request st s acts.Commit r is = subst (IsByRequest st s acts.Commit) (same_Some Commit r is) record { busy = refl; asked = refl; terms = refl; grants = refl }
by_request st s acts.Rollback r is = subst (IsByRequest st s acts.Rollback) (same_Some Rollback r is) record { busy = refl; asked = refl; terms = refl; grants = refl }
by_request st s acts.Report r is = cc
by_request st s acts.Idle r is = cc

-- what is told of a reply

act_answer : (st : State) (s : ℕ) (act : SweepAct) (r : Request) (is_refused : Bool) → request_of act ≡ Some r → answer_to st s act is_refused ≡ answer_where is_refused
act_answer st s (acts.Scan t c) r is_refused is = cc
act_answer st s acts.Begin r true is = refl
act_answer st s acts.Begin r false is = refl
act_answer st s (acts.Unlink o) r true is = refl
act_answer st s (acts.Unlink o) r false is = refl
act_answer st s acts.Commit r true is = refl
act_answer st s acts.Commit r false is = refl
act_answer st s acts.Rollback r true is = refl
act_answer st s acts.Rollback r false is = refl
act_answer st s acts.Report r is_refused is = cc
act_answer st s acts.Idle r is_refused is = cc

refused_answer : (st : State) (s : ℕ) (r : Refusal) → answer_of (refused st s r).reply ≡ told.Refused
refused_answer st s r = by (is_open (session_of st s).transaction)
  where
    by : (inside : Bool) → answer_of (refused_in st s inside r).reply ≡ told.Refused
    by false = refl
    by true = refl

granted_answer : (st : State) (s : ℕ) (r : Request) → is_act r ≡ true → answer_of (granted st s r).reply ≡ told.Granted
granted_answer st s Begin is = by (is_open (session_of st s).transaction)
  where
    by : (inside : Bool) → answer_of (begun st s inside).reply ≡ told.Granted
    by false = refl
    by true = refl
granted_answer st s Commit is = by (is_open (session_of st s).transaction) (session_of st s).transaction.failed
  where
    by : (inside fails : Bool) → answer_of (committed_in st s inside fails).reply ≡ told.Granted
    by false fails = refl
    by true true = refl
    by true false = refl
granted_answer st s Rollback is = by (is_open (session_of st s).transaction)
  where
    by : (inside : Bool) → answer_of (rolled_back st s inside).reply ≡ told.Granted
    by false = refl
    by true = refl
granted_answer st s (LoUnlink o) is = refl
granted_answer st s r is = absurd (false≢true is)

pub tried_answer : (st : State) (s : ℕ) (r : Request) → is_act r ≡ true → answer_of (tried st s r).reply ≡ answer_where (is_some (first_of (refusals st s r)))
tried_answer st s r is = by (first_of (refusals st s r))
  where
    by : (term : Option Refusal) → answer_of (granted_or_refused st s r term).reply ≡ answer_where (is_some term)
    by None = granted_answer st s r is
    by (Some refusal) = refused_answer st s refusal

-- All of it, for an act that is a request.
pub record DoneByRequest (st : State) (s : ℕ) (r : Request) : Type 0 where
  pub same : IsSame (outcome st s Step) (tried st s r)
  pub sweep : (h : History) → (st.players s).sweep ≡ Some h → (outcome st s Step).player.sweep ≡ Some (and_told h (answer_of (tried st s r).reply))

pub done_by_request : (st : State) (s : ℕ) (act : SweepAct) (r : Request) → act_of st s ≡ act → request_of act ≡ Some r → DoneByRequest st s r
done_by_request st s act r is request =
    let by : IsByRequest st s act r = by_request st s act r request in
    let term : Option Refusal = first_of (refusals st s r) in
    let term_is : refusal_of st s Step ≡ term = term_of st s act is by.busy ∙ by.terms in
    let whole : outcome st s Step ≡ told_of st s act (is_some term) (granted_or_refused st s Step term) = outcome_of st s act is term term_is in
    let alike : granted_or_refused st s Step term ≡ tried st s r = either term by in
    let one_is : outcome st s Step ≡ told_of st s act (is_some term) (tried st s r) = whole ∙ ap (told_of st s act (is_some term)) alike in
    record {
      same = subst (λ (one : Outcome). IsSame one (tried st s r)) (sym one_is) (told_same st s act (is_some term) (tried st s r));
      sweep = λ h begun'.
          ap (λ (one : Outcome). one.player.sweep) one_is
          ∙ (told_sweep_of st s act (is_some term) (tried st s r) h begun' by.busy
          ∙ ap (λ (answer : Told). Some (and_told h answer)) (act_answer st s act r (is_some term) request ∙ sym (tried_answer st s r by.asked)));
    }
  where
    either : (term : Option Refusal) → IsByRequest st s act r → granted_or_refused st s Step term ≡ granted_or_refused st s r term
    either None by = granted_of st s act is ∙ by.grants
    either (Some refusal) by = refl

-- Refusals of requests of clean-ups: by a failed block where there is no act, and by any block where one is to begin.

pub idle_refused : (st : State) (s : ℕ) → act_of st s ≡ acts.Idle → (session_of st s).transaction.failed ≡ true → outcome st s Step ≡ refused st s (refusal Failed (pos 0))
idle_refused st s is fails = rw (is, fails) refl

idle_term : (st : State) (s : ℕ) → act_of st s ≡ acts.Idle → (session_of st s).transaction.failed ≡ false → refusal_of st s Step ≡ None
idle_term st s is fails =
    ap (λ (b : Bool). first_of (when (b && not (may_go_on st s Step)) Failed (pos 0) ∷ act_refusals st s (act_of st s))) fails
    ∙ ap (λ (act : SweepAct). first_of (act_refusals st s act)) is

pub idle_answered : (st : State) (s : ℕ) → act_of st s ≡ acts.Idle → (session_of st s).transaction.failed ≡ false → outcome st s Step ≡ answered st s (Word words.Idle)
idle_answered st s is fails = outcome_of st s acts.Idle is None (idle_term st s is fails) ∙ granted_of st s acts.Idle is

vacuumlo_term : (st : State) (s : ℕ) (dry : Bool) (limit : ℕ) (fails inside : Bool) → (session_of st s).transaction.failed ≡ fails → is_open (session_of st s).transaction ≡ inside → refusal_of st s (Vacuumlo dry limit) ≡ first_of (when (fails && true) Failed (pos 0) ∷ when inside InBlock (pos 0) ∷ [])
vacuumlo_term st s dry limit fails inside failed' open' =
    ap (λ (b : Bool). first_of (when (b && true) Failed (pos 0) ∷ when (is_open (session_of st s).transaction) InBlock (pos 0) ∷ [])) failed'
    ∙ ap (λ (b : Bool). first_of (when (fails && true) Failed (pos 0) ∷ when b InBlock (pos 0) ∷ [])) open'

pub vacuumlo_failed : (st : State) (s : ℕ) (dry : Bool) (limit : ℕ) → (session_of st s).transaction.failed ≡ true → outcome st s (Vacuumlo dry limit) ≡ refused st s (refusal Failed (pos 0))
vacuumlo_failed st s dry limit fails = ap (granted_or_refused st s (Vacuumlo dry limit)) (vacuumlo_term st s dry limit true (is_open (session_of st s).transaction) fails refl)

pub vacuumlo_inside : (st : State) (s : ℕ) (dry : Bool) (limit : ℕ) → (session_of st s).transaction.failed ≡ false → is_open (session_of st s).transaction ≡ true → outcome st s (Vacuumlo dry limit) ≡ refused st s (refusal InBlock (pos 0))
vacuumlo_inside st s dry limit fails inside = ap (granted_or_refused st s (Vacuumlo dry limit)) (vacuumlo_term st s dry limit false true fails inside)

pub vacuumlo_begun : (st : State) (s : ℕ) (dry : Bool) (limit : ℕ) → (session_of st s).transaction.failed ≡ false → is_open (session_of st s).transaction ≡ false → outcome st s (Vacuumlo dry limit) ≡ vacuumlo_granted st s dry limit
vacuumlo_begun st s dry limit fails outside = ap (granted_or_refused st s (Vacuumlo dry limit)) (vacuumlo_term st s dry limit false false fails outside)
