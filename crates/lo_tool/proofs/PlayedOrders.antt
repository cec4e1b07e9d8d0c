-- A script's order, of which the first lines are done.
use Rattle.std.proofs.Common.{◌≡◌, ◌≤◌, ◌<◌, ℕ, ◌+◌, Ok, Err, drop, get_or, length, List, [], ◌∷◌, ◌++◌, refl, ap, sym, subst, ◌∙◌, append_assoc, append-nil}
use Rattle.std.specs.Prelude.{All, IfOk, IsSome, Result}
use Rattle.std.proofs.lemmas.List.{drop_more}
use Rattle.std.proofs.lemmas.List.Elements.{All-head, All-tail}
use Rattle.lo_base.specs.declared.memory.NoMemory.{NoMemory}
use Rattle.lo_base.specs.declared.request.Request.{Request}
use Rattle.lo_machine.specs.declared.running.Finished.{Finished}
use Rattle.lo_machine.specs.Committed.{committed_opening}
use Rattle.lo_machine.specs.Replay.{DoesLine, HasLine, Play, Replays, moment_of}
use Rattle.lo_machine.specs.Run.{IsOrderOf, Moment, end_from, next_line, schedule_from, schedule_of_line, start_from}
use Rattle.lo_machine.proofs.Orders.{Covers, covered_at_start, covered_more, left_here, runs_here}
use Rattle.lo_model.specs.Opening.{Opening}
use Rattle.lo_opening.specs.Meaning.{opening_of}
use Rattle.lo_tool.specs.ScriptFile.{PlaysTo}

-- a run of the programs, whose schedule so far begins the one of the whole order: what is left of the order gives the rest
pub record HasPlayed (opening : Opening) (programs : List (List Request)) (order rest : List ℕ) (now : Play) : Type 0 where
  pub opening_is : now.opening ≡ opening
  pub programs_are : now.programs ≡ programs
  pub sessions : All (λ s. 1 ≤ s) rest
  pub covers : Covers programs (moment_of now) rest
  pub schedule : now.schedule ++ schedule_from programs (moment_of now) rest ≡ schedule_from programs (start_from opening) order

pub none_played : (opening : Opening) (programs : List (List Request)) (order : List ℕ) → IsOrderOf programs order →
    let first : Play = record { opening = opening; programs = programs; schedule = []; replies = [] } in
    HasPlayed opening programs order order first
none_played opening programs order is = record {
  opening_is = refl;
  programs_are = refl;
  sessions = is.sessions;
  covers = covered_at_start opening programs order is;
  schedule = refl;
}

module _ (opening : Opening) (programs : List (List Request)) (order : List ℕ) (s : ℕ) (rest : List ℕ) (now : Play) (played : HasPlayed opening programs order (s ∷ rest) now) where
  low : 1 ≤ s
  low = All-head (λ t. 1 ≤ t) s rest played.sessions

  -- the session has a line left
  pub line_left : HasLine now s
  line_left = subst (λ (ps : List (List Request)). IsSome (next_line ps (moment_of now) s)) (sym played.programs_are) (left_here programs (moment_of now) s rest low played.covers)

  -- and once it is done the rest is left
  pub line_played : (next : Play) → DoesLine s now next → HasPlayed opening programs order rest next
  line_played next does =
      let sl : List ℕ = schedule_of_line programs (moment_of now) s in
      let there : Moment = end_from programs (moment_of now) sl in
      let line_is : schedule_of_line now.programs (moment_of now) s ≡ sl = ap (λ (ps : List (List Request)). schedule_of_line ps (moment_of now) s) played.programs_are in
      let moment_is : moment_of next ≡ there = does.moment ∙ rw played.programs_are refl in
      record {
        opening_is = does.opening ∙ played.opening_is;
        programs_are = does.programs ∙ played.programs_are;
        sessions = All-tail (λ t. 1 ≤ t) s rest played.sessions;
        covers = subst (λ (m : Moment). Covers programs m rest) (sym moment_is) (covered_more programs (moment_of now) there s rest (runs_here programs (moment_of now) s rest low played.covers).over played.covers);
        schedule =
            ap (λ (done : List ℕ). done ++ schedule_from programs (moment_of next) rest) (does.schedule ∙ ap (λ (run : List ℕ). now.schedule ++ run) line_is)
            ∙ (ap (λ (m : Moment). (now.schedule ++ sl) ++ schedule_from programs m rest) moment_is
            ∙ (append_assoc now.schedule sl (schedule_from programs there rest)
            ∙ played.schedule));
      }

-- at the end of the order the run is the whole one
pub all_played : (opening : Opening) (programs : List (List Request)) (order : List ℕ) (now : Play) (end : Finished) → HasPlayed opening programs order [] now → Replays now → opening_of end.opening ≡ committed_opening now.opening.blocks (moment_of now).state → end.replies ≡ now.replies → PlaysTo opening programs (schedule_from programs (start_from opening) order) end
all_played opening programs order now end played replays left replies =
    let schedule : now.schedule ≡ schedule_from programs (start_from opening) order = sym (append-nil now.schedule) ∙ played.schedule in
    record {
      replies = replies ∙ (replays ∙ rw (played.programs_are, played.opening_is, schedule) refl);
      left = left ∙ rw (played.programs_are, played.opening_is, schedule) refl;
    }

-- what is left of an order at a place

pub here : (order : List ℕ) (i s : ℕ) → i < length order → s ≡ get_or order i s → drop i order ≡ s ∷ drop (i + 1) order
here order i s within is = drop_more order i s within ∙ ap (λ (t : ℕ). t ∷ drop (i + 1) order) (sym is)

-- and what a run answers at its end
pub played_to : (opening : Opening) (programs : List (List Request)) (order rest : List ℕ) (now : Play) (result : Result Finished NoMemory) → rest ≡ [] → HasPlayed opening programs order rest now → Replays now → IfOk result (λ end. opening_of end.opening ≡ committed_opening now.opening.blocks (moment_of now).state) → IfOk result (λ end. end.replies ≡ now.replies) → IfOk result (PlaysTo opening programs (schedule_from programs (start_from opening) order))
played_to opening programs order rest now (Ok end) none played replays left replies = all_played opening programs order now end (subst (λ (more : List ℕ). HasPlayed opening programs order more now) none played) replays left replies
played_to opening programs order rest now (Err e) none played replays left replies = tt
