-- Each clean-up that a session has in a run was begun in it, by the session's last vacuumlo that was granted.
use Rattle.std.proofs.Common.{◌≡◌, refl, sym, ap, ◌∙◌, subst, ℕ, Bool, true, false, not, ◌&&◌, inl, inr, List, [], ◌∷◌, ◌++◌, Option, Some, None, append_assoc, append-nil}
use Rattle.std.specs.Prelude.{is_some}
use Rattle.std.proofs.lemmas.Bool.{cases_eq}
use Rattle.lo_base.specs.declared.refusal.Refusal.{Refusal}
use Rattle.lo_base.specs.declared.request.Request.{Request}
use Rattle.lo_base.specs.declared.request.Request.TheVariants.{Vacuumlo}
use Rattle.orphan_sweep.specs.History.{History}
use Rattle.lo_machine.specs.Replay.{Play, moment_of}
use Rattle.lo_machine.specs.Run.{Moment, next_line, moment_after, end_from, start_from}
use Rattle.lo_machine.specs.State.{State, Player}
use Rattle.lo_machine.specs.Step.{refusal_of}
use Rattle.lo_machine.specs.SweepRows.{act_in, is_idle}
use Rattle.lo_machine.specs.SweepLaw.{is_act_line, does_act, EachOwn, begins_none, Sweeping, IsSweeping, IsSweepOf, ComesFrom, EndsAtRun, beginning, end, history}
use Rattle.lo_machine.proofs.SweepActs.{own_player, other_player, same_sweep}
use Rattle.lo_machine.proofs.SweepReports.{keeps_history}

pub end_append : (programs : List (List Request)) (m : Moment) (xs ys : List ℕ) → end_from programs m (xs ++ ys) ≡ end_from programs (end_from programs m xs) ys
end_append programs m [] ys = refl
end_append programs m (x ∷ xs) ys = end_append programs (moment_after m x (next_line programs m x)) xs ys

pub each_append : (test : State → ℕ → Option Request → Bool) (s : ℕ) (programs : List (List Request)) (m : Moment) (xs ys : List ℕ) → EachOwn test s programs m xs → EachOwn test s programs (end_from programs m xs) ys → EachOwn test s programs m (xs ++ ys)
each_append test s programs m [] ys first then = then
each_append test s programs m (x ∷ xs) ys first then = (first.0, each_append test s programs (moment_after m x (next_line programs m x)) xs ys first.1 then)

-- where a schedule leads in which the vacuumlo of a clean-up stands
reaches : (programs : List (List Request)) (m0 : Moment) (before : List ℕ) (w : Sweeping) → w.programs ≡ programs → w.moment ≡ end_from programs m0 before → IsSweeping w → end w ≡ end_from programs m0 (before ++ w.session ∷ w.since)
reaches programs m0 before w same at is =
    ap (λ l. end_from w.programs (moment_after w.moment w.session l) w.since) (sym is.line)
    ∙ (ap (λ m. end_from w.programs m (w.session ∷ w.since)) at
    ∙ (ap (λ p. end_from p (end_from programs m0 before) (w.session ∷ w.since)) same
    ∙ sym (end_append programs m0 before (w.session ∷ w.since))))

pub ends_at_run : (play : Play) (w : Sweeping) → IsSweepOf play w → EndsAtRun play w
ends_at_run play w is =
    reaches play.programs (start_from play.opening) is.before w is.programs is.moment is.sweeping
    ∙ ap (λ xs. end_from play.programs (start_from play.opening) xs) (sym is.schedule)

-- the clean-up of a session that a schedule has begun
record Begun (programs : List (List Request)) (m0 : Moment) (past : List ℕ) (s : ℕ) : Type 0 where
  sweep : Sweeping
  before : List ℕ
  own : sweep.session ≡ s
  same : sweep.programs ≡ programs
  at : sweep.moment ≡ end_from programs m0 before
  split : past ≡ before ++ sweep.session ∷ sweep.since
  is : IsSweeping sweep

-- one advance more, in which the session begins none
more_since : (programs : List (List Request)) (m0 : Moment) (past : List ℕ) (s t : ℕ) → (t ≡ s → begins_none (end_from programs m0 past).state t (next_line programs (end_from programs m0 past) t) ≡ true) → Begun programs m0 past s → Begun programs m0 (past ++ t ∷ []) s
more_since programs m0 past s t none b = record {
  sweep = record {
    programs = b.sweep.programs;
    moment = b.sweep.moment;
    session = b.sweep.session;
    dry = b.sweep.dry;
    limit = b.sweep.limit;
    since = b.sweep.since ++ t ∷ [];
  };
  before = b.before;
  own = b.own;
  same = b.same;
  at = b.at;
  split = ap (λ xs. xs ++ t ∷ []) b.split ∙ append_assoc b.before (b.sweep.session ∷ b.sweep.since) (t ∷ []);
  is = record {
    line = b.is.line;
    granted = b.is.granted;
    last = each_append begins_none b.sweep.session b.sweep.programs (beginning b.sweep) b.sweep.since (t ∷ []) b.is.last (here, tt);
  };
}
  where
    reached : end b.sweep ≡ end_from programs m0 past
    reached = reaches programs m0 b.before b.sweep b.same b.at b.is ∙ ap (λ xs. end_from programs m0 xs) (sym b.split)

    here : t ≡ b.sweep.session → begins_none (end b.sweep).state t (next_line b.sweep.programs (end b.sweep) t) ≡ true
    here own =
        subst (λ (m : Moment). begins_none m.state t (next_line b.sweep.programs m t) ≡ true) (sym reached)
        (subst (λ p. begins_none (end_from programs m0 past).state t (next_line p (end_from programs m0 past) t) ≡ true) (sym b.same) (none (own ∙ b.own)))

-- a line that begins a clean-up
record Beginning (st : State) (s : ℕ) (line : Option Request) : Type 0 where
  dry : Bool
  limit : ℕ
  is : line ≡ Some (Vacuumlo dry limit)
  granted : refusal_of st s (Vacuumlo dry limit) ≡ None

is_beginning : (st : State) (s : ℕ) (line : Option Request) → begins_none st s line ≡ false → Beginning st s line
is_beginning st s None h = cc
is_beginning st s (Some (Vacuumlo dry limit)) h = record { dry = dry; limit = limit; is = refl; granted = none (refusal_of st s (Vacuumlo dry limit)) h }
  where
    none : (refusal : Option Refusal) → is_some refusal ≡ false → refusal ≡ None
    none None h = refl
    none (Some r) h = cc
is_beginning st s (Some r) h = cc

-- where a session has none, what begins none leaves it so
and_false : (a : Bool) → (a && false) ≡ false
and_false true = refl
and_false false = refl

still_none : (m : Moment) (s : ℕ) (line : Option Request) → begins_none m.state s line ≡ true → (m.state.players s).sweep ≡ None → ((moment_after m s line).state.players s).sweep ≡ None
still_none m s None none is = is
still_none m s (Some r) none is =
    let idle : does_act m.state s (Some r) ≡ false = ap (λ sweep. is_act_line r && not (is_idle (act_in sweep))) is ∙ and_false (is_act_line r) in
    ap (λ (p : Player). p.sweep) (own_player m.state s r) ∙ (same_sweep m.state s r none idle ∙ is)

abbrev Known : List (List Request) → Moment → (past : List ℕ) → (s : ℕ) → Type 0
Known programs m0 past s = (h : History) → ((end_from programs m0 past).state.players s).sweep ≡ Some h → Begun programs m0 past s

known_more : (programs : List (List Request)) (m0 : Moment) (past : List ℕ) (s t : ℕ) → Known programs m0 past s → Known programs m0 (past ++ t ∷ []) s
known_more programs m0 past s t known h is = elim (cases_eq t s) [
  | inl same ↦ by (begins_none m.state t (next_line programs m t)) refl same
  | inr other ↦ more_since programs m0 past s t (λ same. absurd (other same)) (known h (sym (ap (λ (p : Player). p.sweep) (other_player m s t (next_line programs m t) other)) ∙ after))
]
  where
    m : Moment
    m = end_from programs m0 past

    after : ((moment_after m t (next_line programs m t)).state.players s).sweep ≡ Some h
    after = sym (ap (λ (e : Moment). (e.state.players s).sweep) (end_append programs m0 past (t ∷ []))) ∙ is

    had : (sweep : Option History) → (m.state.players t).sweep ≡ sweep → t ≡ s → begins_none m.state t (next_line programs m t) ≡ true → Begun programs m0 past s
    had None none same begins =
        let gone = still_none m t (next_line programs m t) begins none in
        let at : ((moment_after m t (next_line programs m t)).state.players t).sweep ≡ Some h = subst (λ u. ((moment_after m t (next_line programs m t)).state.players u).sweep ≡ Some h) (sym same) after in
        absurd (let e = sym gone ∙ at in cc)
    had (Some h') some same begins = known h' (subst (λ u. (m.state.players u).sweep ≡ Some h') same some)

    by : (b : Bool) → begins_none m.state t (next_line programs m t) ≡ b → t ≡ s → Begun programs m0 (past ++ t ∷ []) s
    by true begins same = more_since programs m0 past s t (λ _. begins) (had (m.state.players t).sweep refl same begins)
    by false begins same =
        let it = is_beginning m.state t (next_line programs m t) begins in
        record {
          sweep = record { programs = programs; moment = m; session = t; dry = it.dry; limit = it.limit; since = [] };
          before = past;
          own = same;
          same = refl;
          at = refl;
          split = refl;
          is = record { line = it.is; granted = it.granted; last = tt };
        }

known_all : (programs : List (List Request)) (m0 : Moment) (past schedule : List ℕ) (s : ℕ) → Known programs m0 past s → Known programs m0 (past ++ schedule) s
known_all programs m0 past [] s known = subst (λ xs. Known programs m0 xs s) (sym (append-nil past)) known
known_all programs m0 past (t ∷ schedule) s known =
    subst (λ xs. Known programs m0 xs s) (append_assoc past (t ∷ []) schedule)
    (known_all programs m0 (past ++ t ∷ []) schedule s (known_more programs m0 past s t known))

same_some : (a b : History) → Some a ≡ Some b → a ≡ b
same_some a b e = cc

pub comes_from : (play : Play) (s : ℕ) (h : History) → ((moment_of play).state.players s).sweep ≡ Some h → ComesFrom play s h
comes_from play s h is =
    let b = known_all play.programs (start_from play.opening) [] play.schedule s (λ h' none. absurd (let e = none in cc)) h is in
    let of : IsSweepOf play b.sweep = record { before = b.before; programs = b.same; moment = b.at; schedule = b.split; sweeping = b.is } in
    let at : ((end b.sweep).state.players b.sweep.session).sweep ≡ Some h = subst (λ (m : Moment). (m.state.players b.sweep.session).sweep ≡ Some h) (sym (ends_at_run play b.sweep of)) (subst (λ u. ((moment_of play).state.players u).sweep ≡ Some h) (sym b.own) is) in
    record {
      sweep = b.sweep;
      own = b.own;
      is = of;
      kept = same_some h (history b.sweep) (sym at ∙ (keeps_history b.sweep b.is).kept);
    }
