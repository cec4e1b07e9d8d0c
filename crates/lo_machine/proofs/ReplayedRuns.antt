-- One advance more keeps a run's replay.
use Rattle.std.proofs.Common.{◌≡◌, ◌≢◌, ℕ, ◌+◌, ◌<◌, ◌≤◌, List, [], ◌∷◌, ◌++◌, length, set, get_or, Bool, true, false, Some, refl, ap, sym, ◌∙◌, subst, arith, append_assoc, append-nil, length-set, length-append, inl, inr}
use Rattle.std.specs.Prelude.{slice_get, IsSome, if◌then◌else◌}
use Rattle.std.proofs.lemmas.Bool.{cases_eq}
use Rattle.std.proofs.lemmas.Bool.Decides.{nat_tests}
use Rattle.std.proofs.lemmas.List.Elements.{All-push}
use Rattle.std.proofs.lemmas.List.{get_or-set_same, get_or-set_other}
use Rattle.std.proofs.lemmas.Option.{slice_get_within, slice_get_past}
use Rattle.lo_base.specs.declared.reply.Reply.{Reply}
use Rattle.lo_base.specs.declared.request.Request.{Request}
use Rattle.lo_opening.specs.Meaning.{opening_of}
use Rattle.lo_machine.specs.State.{State}
use Rattle.lo_machine.specs.declared.running.Running.TheInside.{Inside}
use Rattle.lo_machine.specs.Engine.{IsEngine, StandsFor}
use Rattle.lo_machine.specs.Program.{program_of}
use Rattle.lo_machine.specs.Replay.{Play, Replays, IsPlayed, Advances, moment_of}
use Rattle.lo_machine.specs.Run.{Moment, next_line, lines_after, one_more, stays_at_line, moment_after, replies_at, replies_from, end_from, start_from, IsPlayable}
use Rattle.lo_machine.specs.Running.{play_of, IsReplay}
use Rattle.lo_machine.specs.Step.{reply_to, state_after}

end_more : (programs : List (List Request)) (m : Moment) (schedule : List ℕ) (s : ℕ) → end_from programs m (schedule ++ s ∷ []) ≡ moment_after (end_from programs m schedule) s (next_line programs (end_from programs m schedule) s)
end_more programs m [] s = refl
end_more programs m (t ∷ schedule) s = end_more programs (moment_after m t (next_line programs m t)) schedule s

replies_more : (programs : List (List Request)) (m : Moment) (schedule : List ℕ) (s : ℕ) → replies_from programs m (schedule ++ s ∷ []) ≡ replies_from programs m schedule ++ replies_at (end_from programs m schedule) s (next_line programs (end_from programs m schedule) s)
replies_more programs m [] s = append-nil (replies_at m s (next_line programs m s))
replies_more programs m (t ∷ schedule) s =
    ap (λ more. replies_at m t (next_line programs m t) ++ more) (replies_more programs (moment_after m t (next_line programs m t)) schedule s)
    ∙ sym (append_assoc (replies_at m t (next_line programs m t)) _ _)

playable_more : (programs : List (List Request)) (m : Moment) (schedule : List ℕ) (s : ℕ) → IsPlayable programs m schedule → IsSome (next_line programs (end_from programs m schedule) s) → IsPlayable programs m (schedule ++ s ∷ [])
playable_more programs m [] s played line = (line, tt)
playable_more programs m (t ∷ schedule) s played line = (played.0, playable_more programs (moment_after m t (next_line programs m t)) schedule s played.1 line)

pub slice_get_some_within : {X : Type 0} (xs : List X) (i : ℕ) → IsSome (slice_get xs i) → i < length xs
slice_get_some_within xs i h = grind (arith, slice_get_past, h)

-- how many lines a session has done, after an advance of one
done_here : (s : ℕ) (count : ℕ → ℕ) (t : ℕ) → t ≡ s → one_more s count t ≡ count t + 1
done_here s count t e = grind (arith, nat_tests, e)

done_elsewhere : (s : ℕ) (count : ℕ → ℕ) (t : ℕ) → t ≢ s → one_more s count t ≡ count t
done_elsewhere s count t ne = grind (arith, nat_tests, ne)

-- what one advance changes in a run
pub record AdvancedBy (s place : ℕ) (request : Request) (reply : Reply) (old new : Inside) : Type 0 where
  pub session : s ≡ place + 1
  pub within : place < 16
  pub line : next_line old.programs (moment_of (play_of old)) s ≡ Some request
  pub opening : new.opening ≡ old.opening
  pub programs : new.programs ≡ old.programs
  pub schedule : new.schedule.items ≡ old.schedule.items ++ s ∷ []
  pub replies : new.replies.items ≡ old.replies.items ++ (s, reply) ∷ []
  pub lines_done : new.lines_done.items ≡ set old.lines_done.items place (lines_after (moment_of (play_of old)).state s request (moment_of (play_of old)).lines_done s)
  pub answer : reply ≡ reply_to (moment_of (play_of old)).state s request
  pub stands : StandsFor new.engine (state_after (moment_of (play_of old)).state s request)
  pub sound : IsEngine new.engine

moment_more : (s place : ℕ) (request : Request) (reply : Reply) (old new : Inside) → AdvancedBy s place request reply old new → moment_of (play_of new) ≡ moment_after (moment_of (play_of old)) s (Some request)
moment_more s place request reply old new by =
    rw (by.opening, by.programs, by.schedule, end_more old.programs (start_from (opening_of old.opening)) old.schedule.items s) (ap (moment_after (moment_of (play_of old)) s) by.line)

pub replies_at_line : (s place : ℕ) (request : Request) (reply : Reply) (old new : Inside) → AdvancedBy s place request reply old new → replies_at (moment_of (play_of old)) s (next_line old.programs (moment_of (play_of old)) s) ≡ (s, reply) ∷ []
replies_at_line s place request reply old new by = rw (by.line, by.answer) refl

-- whether or not a session stays at its line
line_elsewhere : (stays : Bool) (s : ℕ) (count : ℕ → ℕ) (t : ℕ) → t ≢ s → (if stays then count else one_more s count) t ≡ count t
line_elsewhere true s count t other = refl
line_elsewhere false s count t other = done_elsewhere s count t other

line_more : (stays : Bool) (s : ℕ) (count : ℕ → ℕ) → (if stays then count else one_more s count) s ≤ count s + 1
line_more true s count = omega arith
line_more false s count = omega (arith, done_here s count s refl)

done_at : (s place : ℕ) (request : Request) (reply : Reply) (old new : Inside) → IsReplay old → AdvancedBy s place request reply old new → (p : ℕ) → p < 16 → get_or new.lines_done.items p 0 ≡ lines_after (moment_of (play_of old)).state s request (moment_of (play_of old)).lines_done (p + 1)
done_at s place request reply old new keeps by p low =
    let count : ℕ → ℕ = (moment_of (play_of old)).lines_done in
    let after : ℕ → ℕ = lines_after (moment_of (play_of old)).state s request count in
    elim (cases_eq p place) [
      | inl same ↦
          let here : place < length old.lines_done.items = omega (arith, keeps.sessions, by.within) in
          let is : s ≡ p + 1 = omega (arith, by.session, same) in
          rw (by.lines_done, same, get_or-set_same old.lines_done.items place (after s) 0 here) (ap after (is ∙ ap (λ (n : ℕ). n + 1) same))
      | inr other ↦
          rw (by.lines_done, get_or-set_other old.lines_done.items place p (after s) 0 other, keeps.lines_done p low)
          (sym (line_elsewhere (stays_at_line (moment_of (play_of old)).state s request) s count (p + 1) (omega (arith, by.session, other))))
    ]

within_at : (s place : ℕ) (request : Request) (reply : Reply) (old new : Inside) → IsReplay old → AdvancedBy s place request reply old new → (p : ℕ) → p < 16 → get_or new.lines_done.items p 0 ≤ length (program_of new.programs (p + 1))
within_at s place request reply old new keeps by p low =
    let count : ℕ → ℕ = (moment_of (play_of old)).lines_done in
    let after : ℕ → ℕ = lines_after (moment_of (play_of old)).state s request count in
    elim (cases_eq p place) [
      | inl same ↦
          let here : place < length old.lines_done.items = omega (arith, keeps.sessions, by.within) in
          let left : count s < length (program_of old.programs s) = slice_get_within (program_of old.programs s) (count s) request by.line in
          let more : after s ≤ count s + 1 = line_more (stays_at_line (moment_of (play_of old)).state s request) s count in
          let least : after s ≤ length (program_of old.programs s) = omega (arith, left, more) in
          rw (by.programs, by.lines_done, same, get_or-set_same old.lines_done.items place (after s) 0 here)
          (subst (λ (t : ℕ). after s ≤ length (program_of old.programs t)) by.session least)
      | inr other ↦
          rw (by.programs, by.lines_done, get_or-set_other old.lines_done.items place p (after s) 0 other) (keeps.within p low)
    ]

played_more : (s place : ℕ) (request : Request) (reply : Reply) (old new : Inside) → IsReplay old → AdvancedBy s place request reply old new → IsPlayed (play_of new)
played_more s place request reply old new keeps by = record {
  sessions = rw by.schedule (All-push (λ (session : ℕ). 1 ≤ session) old.schedule.items s keeps.played.sessions (omega (arith, by.session)));
  playable =
      rw (by.opening, by.programs, by.schedule)
      (playable_more old.programs (start_from (opening_of old.opening)) old.schedule.items s keeps.played.playable (subst IsSome (sym by.line) refl));
}

pub advanced : (s place : ℕ) (request : Request) (reply : Reply) (old new : Inside) → IsReplay old → AdvancedBy s place request reply old new → IsReplay new
advanced s place request reply old new keeps by = record {
  replays =
      rw (by.replies, by.opening, by.programs, by.schedule, replies_more old.programs (start_from (opening_of old.opening)) old.schedule.items s, keeps.replays)
      (ap (λ more. replies_from old.programs (start_from (opening_of old.opening)) old.schedule.items ++ more) (sym (replies_at_line s place request reply old new by)));
  played = played_more s place request reply old new keeps by;
  stands = subst (λ (m : Moment). StandsFor new.engine m.state) (sym (moment_more s place request reply old new by)) by.stands;
  sound = by.sound;
  time =
      ap (λ (m : Moment). m.state.advances) (moment_more s place request reply old new by)
      ∙ (ap (λ (n : ℕ). n + 1) keeps.time ∙ sym (ap (λ (xs : List ℕ). length xs) by.schedule ∙ length-append old.schedule.items (s ∷ [])));
  sessions = rw (by.lines_done, length-set) keeps.sessions;
  within = within_at s place request reply old new keeps by;
  lines_done = λ p low.
      done_at s place request reply old new keeps by p low
      ∙ ap (λ (m : Moment). m.lines_done (p + 1)) (sym (moment_more s place request reply old new by));
}

-- what contracts see of it
pub advances : (s place : ℕ) (request : Request) (reply : Reply) (old new : Inside) (seen : Play) → play_of old ≡ seen → AdvancedBy s place request reply old new → Advances s seen (play_of new)
advances s place request reply old new seen is by = subst (λ (play : Play). Advances s play (play_of new)) is record {
  opening = ap opening_of by.opening;
  programs = by.programs;
  schedule = by.schedule;
  replies = by.replies ∙ ap (λ more. old.replies.items ++ more) (sym (replies_at_line s place request reply old new by));
  moment = moment_more s place request reply old new by ∙ ap (moment_after (moment_of (play_of old)) s) (sym by.line);
}

-- want of memory leaves the lists, and the engine stands for what it stood for
pub record StaysBy (old new : Inside) : Type 0 where
  pub opening : new.opening ≡ old.opening
  pub programs : new.programs ≡ old.programs
  pub schedule : new.schedule.items ≡ old.schedule.items
  pub replies : new.replies.items ≡ old.replies.items
  pub lines_done : new.lines_done.items ≡ old.lines_done.items
  pub sound : IsEngine new.engine
  pub stands : (st : State) → StandsFor old.engine st → StandsFor new.engine st

same_play : (old new : Inside) → StaysBy old new → play_of new ≡ play_of old
same_play old new by = rw (by.opening, by.programs, by.schedule, by.replies) refl

pub stayed : (old new : Inside) → IsReplay old → StaysBy old new → IsReplay new
stayed old new keeps by = record {
  replays = subst Replays (sym (same_play old new by)) keeps.replays;
  played = subst IsPlayed (sym (same_play old new by)) keeps.played;
  sound = by.sound;
  stands = by.stands _ (subst (λ (play : Play). StandsFor old.engine (moment_of play).state) (sym (same_play old new by)) keeps.stands);
  time = ap (λ (play : Play). (moment_of play).state.advances) (same_play old new by) ∙ (keeps.time ∙ ap (λ (xs : List ℕ). length xs) (sym by.schedule));
  sessions = ap (λ (xs : List ℕ). length xs) by.lines_done ∙ keeps.sessions;
  within = λ p low. rw (by.lines_done, by.programs) (keeps.within p low);
  lines_done = λ p low. ap (λ (xs : List ℕ). get_or xs p 0) by.lines_done ∙ (keeps.lines_done p low ∙ ap (λ (play : Play). (moment_of play).lines_done (p + 1)) (sym (same_play old new by)));
}
