-- What advances make of a session's clean-up: only a granted vacuumlo begins one, and only its acts are told to it.
use Rattle.std.proofs.Common.{◌≡◌, ◌≢◌, refl, sym, ap, ◌∙◌, subst, ℕ, ◌==◌, Bool, true, false, not, ◌&&◌, inl, inr, List, [], ◌∷◌, ◌++◌, map, Option, Some, None, arith}
use Rattle.std.specs.Prelude.{is_some, if◌then◌else◌}
use Rattle.std.proofs.lemmas.Bool.{cases_eq}
use Rattle.std.proofs.lemmas.Bool.Decides.{nat_tests}
use Rattle.lo_base.specs.declared.refusal.Refusal.{Refusal}
use Rattle.lo_base.specs.declared.request.Request.{Request}
use Rattle.lo_base.specs.declared.request.Request.TheVariants.{Begin, Commit, Rollback, Vacuumlo, Step, Finish}
use Rattle.orphan_sweep.specs.declared.act.SweepAct.{SweepAct}
use Rattle.orphan_sweep.specs.declared.act.SweepAct.TheVariants as acts
use Rattle.orphan_sweep.specs.History.{History, and_told, next_act}
use Rattle.orphan_sweep.specs.Law.{and_all_told, is_refused}
use Rattle.orphan_sweep.specs.Place.{is_unlink}
use Rattle.orphan_sweep.specs.Plan.{is_answer_to}
use Rattle.lo_model.specs.Transaction.{is_open}
use Rattle.lo_machine.specs.Run.{Moment, next_line, moment_after, end_from}
use Rattle.lo_machine.specs.State.{State, Outcome, Player, session_of, refused, refused_in, with_player}
use Rattle.lo_machine.specs.Step.{granted, refusal_of, granted_or_refused, told_sweep, outcome, state_after}
use Rattle.lo_machine.specs.SweepRows.{act_of, act_in, act_granted, told_of, answer_to, is_idle}
use Rattle.lo_machine.specs.TransactionRows.{begun, rolled_back, committed_in}
use Rattle.lo_machine.specs.SweepLaw.{Done, is_act_line, does_act, done_at, acts_by, is_denied, told_by, EachOwn, begins_none}

-- One request.

itself : (s : ℕ) → (s == s) ≡ true
itself s = grind (arith, nat_tests)

both_true : (a b : Bool) → (a && b) ≡ true → (a ≡ true) × (b ≡ true)
both_true true b h = (refl, h)
both_true false b h = cc

not_true : (b : Bool) → not b ≡ true → b ≡ false
not_true true h = cc
not_true false h = refl

-- an act's outcome is told to the clean-up
told_player : (st : State) (s : ℕ) (act : SweepAct) (refused : Bool) (done : Outcome) (h : History) → (st.players s).sweep ≡ Some h → is_idle act ≡ false → (told_of st s act refused done).player.sweep ≡ Some (and_told h (answer_to st s act refused))
told_player st s (acts.Scan t c) refused done h is busy = rw is refl
told_player st s acts.Begin refused done h is busy = rw is refl
told_player st s (acts.Unlink o) refused done h is busy = rw is refl
told_player st s acts.Commit refused done h is busy = rw is refl
told_player st s acts.Rollback refused done h is busy = rw is refl
told_player st s acts.Report refused done h is busy = rw is refl
told_player st s acts.Idle refused done h is busy = cc

-- an answer is of its act's kind, where only an unlink is refused
fitting : (st : State) (s : ℕ) (act : SweepAct) (refused : Bool) → is_idle act ≡ false → (is_unlink act ≡ false → refused ≡ false) → is_answer_to act (answer_to st s act refused) ≡ true
fitting st s (acts.Scan t c) refused busy granted = refl
fitting st s acts.Begin true busy granted = let no : true ≡ false = granted refl in cc
fitting st s acts.Begin false busy granted = refl
fitting st s (acts.Unlink o) true busy granted = refl
fitting st s (acts.Unlink o) false busy granted = refl
fitting st s acts.Commit true busy granted = let no : true ≡ false = granted refl in cc
fitting st s acts.Commit false busy granted = refl
fitting st s acts.Rollback true busy granted = let no : true ≡ false = granted refl in cc
fitting st s acts.Rollback false busy granted = refl
fitting st s acts.Report true busy granted = let no : true ≡ false = granted refl in cc
fitting st s acts.Report false busy granted = refl
fitting st s acts.Idle refused busy granted = cc

saying : (st : State) (s : ℕ) (act : SweepAct) (refused : Bool) → (is_unlink act ≡ false → refused ≡ false) → is_refused (answer_to st s act refused) ≡ refused
saying st s (acts.Scan t c) refused granted = sym (granted refl)
saying st s acts.Begin true granted = refl
saying st s acts.Begin false granted = refl
saying st s (acts.Unlink o) true granted = refl
saying st s (acts.Unlink o) false granted = refl
saying st s acts.Commit true granted = refl
saying st s acts.Commit false granted = refl
saying st s acts.Rollback true granted = refl
saying st s acts.Rollback false granted = refl
saying st s acts.Report true granted = refl
saying st s acts.Report false granted = refl
saying st s acts.Idle true granted = refl
saying st s acts.Idle false granted = refl

-- a line that does an act other than an unlink is not refused, in a failed block neither
pub unrefused_line : (st : State) (s : ℕ) (r : Request) (act : SweepAct) (mark : Bool) → is_act_line r ≡ true → act_of st s ≡ act → (session_of st s).transaction.failed ≡ mark → is_idle act ≡ false → is_unlink act ≡ false → is_some (refusal_of st s r) ≡ false
unrefused_line st s Step (acts.Scan t c) true does is at busy other = rw (is, at) refl
unrefused_line st s Step (acts.Scan t c) false does is at busy other = rw (is, at) refl
unrefused_line st s Step acts.Begin true does is at busy other = rw (is, at) refl
unrefused_line st s Step acts.Begin false does is at busy other = rw (is, at) refl
unrefused_line st s Step acts.Commit true does is at busy other = rw (is, at) refl
unrefused_line st s Step acts.Commit false does is at busy other = rw (is, at) refl
unrefused_line st s Step acts.Rollback true does is at busy other = rw (is, at) refl
unrefused_line st s Step acts.Rollback false does is at busy other = rw (is, at) refl
unrefused_line st s Step acts.Report true does is at busy other = rw (is, at) refl
unrefused_line st s Step acts.Report false does is at busy other = rw (is, at) refl
unrefused_line st s Step (acts.Unlink o) mark does is at busy other = cc
unrefused_line st s Step acts.Idle mark does is at busy other = cc
unrefused_line st s Finish (acts.Scan t c) true does is at busy other = rw (is, at) refl
unrefused_line st s Finish (acts.Scan t c) false does is at busy other = rw (is, at) refl
unrefused_line st s Finish acts.Begin true does is at busy other = rw (is, at) refl
unrefused_line st s Finish acts.Begin false does is at busy other = rw (is, at) refl
unrefused_line st s Finish acts.Commit true does is at busy other = rw (is, at) refl
unrefused_line st s Finish acts.Commit false does is at busy other = rw (is, at) refl
unrefused_line st s Finish acts.Rollback true does is at busy other = rw (is, at) refl
unrefused_line st s Finish acts.Rollback false does is at busy other = rw (is, at) refl
unrefused_line st s Finish acts.Report true does is at busy other = rw (is, at) refl
unrefused_line st s Finish acts.Report false does is at busy other = rw (is, at) refl
unrefused_line st s Finish (acts.Unlink o) mark does is at busy other = cc
unrefused_line st s Finish acts.Idle mark does is at busy other = cc
unrefused_line st s r act mark does is at busy other = cc

module _ (st : State) (s : ℕ) where
  abbrev kept : Outcome → Type 0
  kept done = done.player.sweep ≡ (st.players s).sweep

  refused_kept : (r : Refusal) → kept (refused st s r)
  refused_kept r = by (is_open (session_of st s).transaction)
    where
      by : (inside : Bool) → kept (refused_in st s inside r)
      by false = refl
      by true = refl

  begun_kept : (inside : Bool) → kept (begun st s inside)
  begun_kept true = refl
  begun_kept false = refl

  rolled_back_kept : (inside : Bool) → kept (rolled_back st s inside)
  rolled_back_kept false = refl
  rolled_back_kept true = refl

  committed_kept : (inside failed : Bool) → kept (committed_in st s inside failed)
  committed_kept false failed = refl
  committed_kept true true = refl
  committed_kept true false = refl

  act_kept : (act : SweepAct) → kept (act_granted st s act)
  act_kept (acts.Scan table column) = refl
  act_kept acts.Begin = begun_kept (is_open (session_of st s).transaction)
  act_kept (acts.Unlink o) = refl
  act_kept acts.Commit = committed_kept (is_open (session_of st s).transaction) (session_of st s).transaction.failed
  act_kept acts.Rollback = rolled_back_kept (is_open (session_of st s).transaction)
  act_kept acts.Report = refl
  act_kept acts.Idle = refl

  abbrev is_vacuumlo : Request → Bool
  is_vacuumlo (Vacuumlo dry limit) = true
  is_vacuumlo _ = false

  granted_kept : (r : Request) → is_vacuumlo r ≡ false → kept (granted st s r)
  granted_kept Begin other = begun_kept (is_open (session_of st s).transaction)
  granted_kept Commit other = committed_kept (is_open (session_of st s).transaction) (session_of st s).transaction.failed
  granted_kept Rollback other = rolled_back_kept (is_open (session_of st s).transaction)
  granted_kept Step other = act_kept (act_of st s)
  granted_kept Finish other = act_kept (act_of st s)
  granted_kept (Vacuumlo dry limit) other = cc
  granted_kept r other = refl

  -- what no clean-up begins by leaves the one there is, before that is told
  done_kept : (r : Request) → begins_none st s (Some r) ≡ true → kept (granted_or_refused st s r (refusal_of st s r))
  done_kept r none = by (refusal_of st s r) refl
    where
      none_begins : (r : Request) → begins_none st s (Some r) ≡ true → refusal_of st s r ≡ None → is_vacuumlo r ≡ false
      none_begins (Vacuumlo dry limit) none is = absurd (let e = ap is_some is in cc)
      none_begins r none is = refl

      by : (refusal : Option Refusal) → refusal_of st s r ≡ refusal → kept (granted_or_refused st s r refusal)
      by None is = granted_kept r (none_begins r none is)
      by (Some refusal) is = refused_kept refusal

  untold : (r : Request) (refused : Bool) (done : Outcome) → is_act_line r ≡ false → told_sweep st s r refused done ≡ done
  untold Step refused done other = cc
  untold Finish refused done other = cc
  untold r refused done other = refl

  told_line : (r : Request) (refused : Bool) (done : Outcome) → is_act_line r ≡ true → told_sweep st s r refused done ≡ told_of st s (act_of st s) refused done
  told_line Step refused done is = refl
  told_line Finish refused done is = refl
  told_line r refused done is = cc

  idle_told : (act : SweepAct) (refused : Bool) (done : Outcome) → is_idle act ≡ true → told_of st s act refused done ≡ done
  idle_told (acts.Scan table column) refused done is = cc
  idle_told acts.Begin refused done is = cc
  idle_told (acts.Unlink o) refused done is = cc
  idle_told acts.Commit refused done is = cc
  idle_told acts.Rollback refused done is = cc
  idle_told acts.Report refused done is = cc
  idle_told acts.Idle refused done is = refl

  -- a line that does no act leaves the clean-up
  pub same_sweep : (r : Request) → begins_none st s (Some r) ≡ true → does_act st s (Some r) ≡ false → kept (outcome st s r)
  same_sweep r none idle = by (is_act_line r) refl
    where
      not_false : (b : Bool) → not b ≡ false → b ≡ true
      not_false true h = refl
      not_false false h = cc

      by : (b : Bool) → is_act_line r ≡ b → kept (outcome st s r)
      by false is = ap (λ (done : Outcome). done.player.sweep) (untold r (is_some (refusal_of st s r)) (granted_or_refused st s r (refusal_of st s r)) is) ∙ done_kept r none
      by true is =
          let idle' : is_idle (act_of st s) ≡ true = not_false (is_idle (act_of st s)) (sym (ap (λ b. b && not (is_idle (act_of st s))) is) ∙ idle) in
          ap (λ (done : Outcome). done.player.sweep) (told_line r (is_some (refusal_of st s r)) (granted_or_refused st s r (refusal_of st s r)) is ∙ idle_told (act_of st s) (is_some (refusal_of st s r)) (granted_or_refused st s r (refusal_of st s r)) idle')
          ∙ done_kept r none

  -- an act is told to it
  pub act_told : (r : Request) (h : History) → does_act st s (Some r) ≡ true → (st.players s).sweep ≡ Some h → (outcome st s r).player.sweep ≡ Some (and_told h (answer_to st s (act_of st s) (is_some (refusal_of st s r))))
  act_told r h does is =
      let both = both_true (is_act_line r) (not (is_idle (act_of st s))) does in
      ap (λ (done : Outcome). done.player.sweep) (told_line r (is_some (refusal_of st s r)) (granted_or_refused st s r (refusal_of st s r)) both.0)
      ∙ told_player st s (act_of st s) (is_some (refusal_of st s r)) (granted_or_refused st s r (refusal_of st s r)) h is (not_true (is_idle (act_of st s)) both.1)

  -- what is refused is told so
  pub act_says : (r : Request) → does_act st s (Some r) ≡ true → is_refused (answer_to st s (act_of st s) (is_some (refusal_of st s r))) ≡ is_some (refusal_of st s r)
  act_says r does =
      let both = both_true (is_act_line r) (not (is_idle (act_of st s))) does in
      let busy : is_idle (act_of st s) ≡ false = not_true (is_idle (act_of st s)) both.1 in
      saying st s (act_of st s) (is_some (refusal_of st s r)) (unrefused_line st s r (act_of st s) (session_of st s).transaction.failed both.0 refl refl busy)

  -- and only an unlink is refused, so what it is told is an answer to its act
  pub act_answered : (r : Request) → does_act st s (Some r) ≡ true → is_answer_to (act_of st s) (answer_to st s (act_of st s) (is_some (refusal_of st s r))) ≡ true
  act_answered r does =
      let both = both_true (is_act_line r) (not (is_idle (act_of st s))) does in
      let busy : is_idle (act_of st s) ≡ false = not_true (is_idle (act_of st s)) both.1 in
      fitting st s (act_of st s) (is_some (refusal_of st s r)) busy (unrefused_line st s r (act_of st s) (session_of st s).transaction.failed both.0 refl refl busy)

pub own_player : (st : State) (s : ℕ) (r : Request) → (state_after st s r).players s ≡ (outcome st s r).player
own_player st s r = rw (itself s) refl

-- An advance of another session leaves a session as it is.

with_other : (s t : ℕ) (player : Player) (players : ℕ → Player) → t ≢ s → with_player t player players s ≡ players s
with_other s t player players other = grind (arith, nat_tests, other)

pub other_player : (m : Moment) (s t : ℕ) (line : Option Request) → t ≢ s → (moment_after m t line).state.players s ≡ m.state.players s
other_player m s t None other = refl
other_player m s t (Some r) other = with_other s t (outcome m.state t r).player m.state.players other

-- An advance of the session itself.

-- each act was the next of the clean-up when it was done, what it was told is an answer to it, and says whether it was refused
abbrev pub Follows : (session : ℕ) → History → List Done → Type 0
Follows s h [] = Unit {0}
Follows s h (d ∷ done) =
    (d.act ≡ next_act h) × (is_answer_to d.act (told_by s d) ≡ true) × (is_refused (told_by s d) ≡ is_denied s d) × Follows s (and_told h (told_by s d)) done

-- where a clean-up stands after acts that it was told of
pub record AreTold (s : ℕ) (end : Moment) (h : History) (done : List Done) : Type 0 where
  pub kept : (end.state.players s).sweep ≡ Some (and_all_told h (map (told_by s) done))
  pub follows : Follows s h done

told_one_more : (s : ℕ) (end : Moment) (h : History) (d : Done) (done : List Done) → d.act ≡ next_act h → is_answer_to d.act (told_by s d) ≡ true → is_refused (told_by s d) ≡ is_denied s d → AreTold s end (and_told h (told_by s d)) done → AreTold s end h (d ∷ done)
told_one_more s end h d done act fits says more = record { kept = more.kept; follows = (act, fits, says, more.follows) }

told_here : (s : ℕ) (programs : List (List Request)) (m : Moment) (line : Option Request) (h : History) (end : Moment) (more : List Done) → (m.state.players s).sweep ≡ Some h → begins_none m.state s line ≡ true → ((h' : History) → ((moment_after m s line).state.players s).sweep ≡ Some h' → AreTold s end h' more) → AreTold s end h (done_at m.state s line ++ more)
told_here s programs m None h end more is none rest = rest h is
told_here s programs m (Some r) h end more is none rest = by (does_act m.state s (Some r)) refl
  where
    by : (b : Bool) → does_act m.state s (Some r) ≡ b → AreTold s end h ((if b then record { act = act_of m.state s; line = r; state = m.state } ∷ [] else []) ++ more)
    by false idle = rest h (ap (λ (p : Player). p.sweep) (own_player m.state s r) ∙ (same_sweep m.state s r none idle ∙ is))
    by true does =
        told_one_more s end h (record { act = act_of m.state s; line = r; state = m.state }) more (ap act_in is) (act_answered m.state s r does) (act_says m.state s r does)
        (rest (and_told h (answer_to m.state s (act_of m.state s) (is_some (refusal_of m.state s r)))) (ap (λ (p : Player). p.sweep) (own_player m.state s r) ∙ act_told m.state s r h does is))

-- One more advance, of whatever session.
told_advance : (s : ℕ) (programs : List (List Request)) (m : Moment) (t : ℕ) (schedule : List ℕ) (h : History) → (m.state.players s).sweep ≡ Some h → EachOwn begins_none s programs m (t ∷ schedule) → ((h' : History) → ((moment_after m t (next_line programs m t)).state.players s).sweep ≡ Some h' → AreTold s (end_from programs m (t ∷ schedule)) h' (acts_by s programs (moment_after m t (next_line programs m t)) schedule)) → AreTold s (end_from programs m (t ∷ schedule)) h (acts_by s programs m (t ∷ schedule))
told_advance s programs m t schedule h is none rest = elim (cases_eq t s) [
  | inl same ↦ subst P (sym same) here none rest
  | inr other ↦
      let differ : (t == s) ≡ false = grind (arith, nat_tests, other) in
      rw differ (rest h (subst (λ (p : Player). p.sweep ≡ Some h) (sym (other_player m s t (next_line programs m t) other)) is))
]
  where
    P : ℕ → Type 0
    P u = EachOwn begins_none s programs m (u ∷ schedule) → ((h' : History) → ((moment_after m u (next_line programs m u)).state.players s).sweep ≡ Some h' → AreTold s (end_from programs m (u ∷ schedule)) h' (acts_by s programs (moment_after m u (next_line programs m u)) schedule)) → AreTold s (end_from programs m (u ∷ schedule)) h (acts_by s programs m (u ∷ schedule))

    here : P s
    here none' rest' =
        let own : (s == s) ≡ true = itself s in
        rw own (told_here s programs m (next_line programs m s) h (end_from programs m (s ∷ schedule)) (acts_by s programs (moment_after m s (next_line programs m s)) schedule) is (none'.0 refl) rest')

-- Over a whole schedule.
pub all_told : (s : ℕ) (programs : List (List Request)) (m : Moment) (schedule : List ℕ) (h : History) → (m.state.players s).sweep ≡ Some h → EachOwn begins_none s programs m schedule → AreTold s (end_from programs m schedule) h (acts_by s programs m schedule)
all_told s programs m [] h is none = record { kept = is; follows = tt }
all_told s programs m (t ∷ schedule) h is none =
    told_advance s programs m t schedule h is none (λ h' is'. all_told s programs (moment_after m t (next_line programs m t)) schedule h' is' none.1)
