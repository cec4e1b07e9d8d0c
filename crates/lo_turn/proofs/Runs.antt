-- Advances of runs: what stays done, and when a schedule is whole.
use Rattle.std.proofs.Common.{◌≡◌, ◌≢◌, ℕ, ◌+◌, ◌-◌, ◌<◌, ◌≤◌, List, [], length, Option, Some, None, refl, sym, ap, ◌∙◌, subst, arith, inl, inr}
use Rattle.std.specs.Prelude.{IsSome, slice_get, OnOk, OnErr, Result, Ok, Err}
use Rattle.std.proofs.lemmas.Bool.{cases_eq, cases_lt, cases_Bool}
use Rattle.std.proofs.lemmas.List.{get_or_past}
use Rattle.std.proofs.lemmas.Bool.Decides.{nat_tests}
use Rattle.lo_base.specs.declared.memory.NoMemory.{NoMemory}
use Rattle.lo_base.specs.declared.request.Request.{Request}
use Rattle.lo_machine.specs.Program.{program_of}
use Rattle.lo_machine.specs.Replay.{Play, HasLine, IsPlayed, Advances, moment_of}
use Rattle.lo_machine.specs.Run.{Moment, next_line, one_more, lines_after, stays_at_line, moment_after}
use Rattle.lo_turn.specs.Turns.{BeganAs, Proceeds, IsDone, AllDone, IsWholeRun}

pub began_self : (given : Play) → BeganAs given given
began_self given = record { opening = refl; programs = refl }

elsewhere : (s : ℕ) (count : ℕ → ℕ) (t : ℕ) → t ≢ s → one_more s count t ≡ count t
elsewhere s count t ne = grind (arith, nat_tests, ne)

lines_elsewhere : (m : Moment) (s t : ℕ) (request : Request) → t ≢ s → lines_after m.state s request m.lines_done t ≡ m.lines_done t
lines_elsewhere m s t request ne = elim (cases_Bool (stays_at_line m.state s request)) [
  | inl stays ↦ rw (stays) refl
  | inr over ↦ rw (over) (elsewhere s m.lines_done t ne)
]

done_after : (m : Moment) (s t : ℕ) (line : Option Request) → t ≢ s → (moment_after m s line).lines_done t ≡ m.lines_done t
done_after m s t None ne = refl
done_after m s t (Some request) ne = lines_elsewhere m s t request ne

-- a session that is done stays so while others advance
pub stays_done : (s : ℕ) (old new : Play) → HasLine old s → Advances s old new → (t : ℕ) → IsDone old t → IsDone new t
stays_done s old new line by t done left = elim (cases_eq t s) [
  | inl same ↦ done (subst (HasLine old) (sym same) line)
  | inr other ↦
      done (subst (λ (n : ℕ). IsSome (slice_get (program_of old.programs t) n)) (ap (λ (m : Moment). m.lines_done t) by.moment ∙ done_after (moment_of old) s t (next_line old.programs (moment_of old) s) other)
      (subst (λ (ps : List (List Request)). IsSome (next_line ps (moment_of new) t)) by.programs left))
]

pub proceeds_to : (s : ℕ) (old new : Play) (r : Result (Unit {0}) NoMemory) → HasLine old s → OnOk r (Advances s old new) → OnErr r (new ≡ old) → Proceeds old new
proceeds_to s old new (Ok x) line ok err = record { opening = ok.opening; programs = ok.programs; done = stays_done s old new line ok }
proceeds_to s old new (Err e) line ok err = subst (λ (play : Play). Proceeds old play) (sym err) (record { opening = refl; programs = refl; done = λ t d. d })

-- programs are sixteen, so no session above has a line
none_above : (programs : List (List Request)) (s : ℕ) → length programs < s → program_of programs s ≡ []
none_above programs s above = get_or_past programs (s - 1) [] (omega (arith, above))

none_left : (lines : List Request) (n : ℕ) → (IsSome (slice_get lines n) → ⊥) → slice_get lines n ≡ None
none_left lines n = not_some (slice_get lines n)
  where
    not_some : (o : Option Request) → (IsSome o → ⊥) → o ≡ None
    not_some (Some x) none = absurd (none refl)
    not_some None none = refl

-- a run of which no line is left has a whole schedule
pub whole_run : (play : Play) → length play.programs ≡ 16 → IsPlayed play → AllDone play → IsWholeRun play
whole_run play sixteen played done = record {
  sessions = played.sessions;
  playable = played.playable;
  complete = λ session low. elim (cases_lt 16 session) [
    | inl above ↦ rw (none_above play.programs session (omega (arith, sixteen, above))) refl
    | inr within ↦ none_left (program_of play.programs session) ((moment_of play).lines_done session) (done session low within)
  ];
}

-- The caller goes through the sessions.
pub began_on : {given old new : Play} → BeganAs given old → Proceeds old new → BeganAs given new
began_on b p = record { opening = p.opening ∙ b.opening; programs = p.programs ∙ b.programs }

pub done_up_to : {old new : Play} (n : ℕ) → Proceeds old new → ((session : ℕ) → 1 ≤ session → session < n → IsDone old session) → IsDone new n → (session : ℕ) → 1 ≤ session → session < n + 1 → IsDone new session
done_up_to {new = new} n p before here session low high = elim (cases_eq session n) [
  | inl same ↦ subst (IsDone new) (sym same) here
  | inr other ↦ p.done session (before session low (omega (arith, high, other)))
]
