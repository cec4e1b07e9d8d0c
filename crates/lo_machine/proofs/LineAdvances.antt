-- A line's advances, one after another: the schedule of a line is its first advance and the schedule of what is left of it.
use Rattle.std.proofs.Common.{◌≡◌, ◌≢◌, ◌≤◌, ◌<◌, ℕ, zero, suc, ◌+◌, Bool, true, false, List, [], ◌∷◌, ◌++◌, Option, Some, None, refl, ap, sym, subst, ◌∙◌, arith, append_assoc, append-nil}
use Rattle.std.specs.Prelude.{IsSome, if◌then◌else◌}
use Rattle.lo_base.specs.declared.request.Request.{Request}
use Rattle.lo_machine.specs.Replay.{Play, HasLine, Advances, DoesLine, moment_of}
use Rattle.lo_machine.specs.Run.{Moment, acts_before, end_from, line_schedule, lines_after, moment_after, next_line, one_more, schedule_of_line, start_from, stays_at_line}
use Rattle.lo_machine.proofs.Orders.{end_append, the_line}
use Rattle.lo_machine.proofs.ScriptLines.{itself, same_line, stays_shorter}

-- a line that goes on, where one advance more is allowed
goes_by : (more : ℕ) (programs : List (List Request)) (m : Moment) (s : ℕ) (request : Request) → stays_at_line m.state s request ≡ true → line_schedule (suc more) programs m s (Some request) ≡ s ∷ line_schedule more programs (moment_after m s (Some request)) s (next_line programs (moment_after m s (Some request)) s)
goes_by more programs m s request stays = ap (λ (b : Bool). if b then s ∷ line_schedule more programs (moment_after m s (Some request)) s (next_line programs (moment_after m s (Some request)) s) else s ∷ []) stays

-- How many advances are allowed at most does not matter, where it is no less than the acts that are left.
line_fuel : (a b : ℕ) (programs : List (List Request)) (m : Moment) (s : ℕ) (line : Option Request) → acts_before (m.state.players s).sweep ≤ a → acts_before (m.state.players s).sweep ≤ b → line_schedule a programs m s line ≡ line_schedule b programs m s line
line_fuel a b programs m s None low high = refl
line_fuel zero zero programs m s (Some request) low high = refl
line_fuel zero (suc b) programs m s (Some request) low high = by (stays_at_line m.state s request) refl
  where
    by : (stays : Bool) → stays_at_line m.state s request ≡ stays → s ∷ [] ≡ line_schedule (suc b) programs m s (Some request)
    by false over = rw over refl
    by true stays = absurd (omega (arith, low, stays_shorter m.state s request stays))
line_fuel (suc a) zero programs m s (Some request) low high = by (stays_at_line m.state s request) refl
  where
    by : (stays : Bool) → stays_at_line m.state s request ≡ stays → line_schedule (suc a) programs m s (Some request) ≡ s ∷ []
    by false over = rw over refl
    by true stays = absurd (omega (arith, high, stays_shorter m.state s request stays))
line_fuel (suc a) (suc b) programs m s (Some request) low high = by (stays_at_line m.state s request) refl (line_fuel a b programs (moment_after m s (Some request)) s (next_line programs (moment_after m s (Some request)) s))
  where
    by : (stays : Bool) → stays_at_line m.state s request ≡ stays → (acts_before ((moment_after m s (Some request)).state.players s).sweep ≤ a → acts_before ((moment_after m s (Some request)).state.players s).sweep ≤ b → line_schedule a programs (moment_after m s (Some request)) s (next_line programs (moment_after m s (Some request)) s) ≡ line_schedule b programs (moment_after m s (Some request)) s (next_line programs (moment_after m s (Some request)) s)) → line_schedule (suc a) programs m s (Some request) ≡ line_schedule (suc b) programs m s (Some request)
    by false over on = rw over refl
    by true stays on =
        let shorter = stays_shorter m.state s request stays in
        let more = ap (λ (run : List ℕ). s ∷ run) (on (omega (arith, low, shorter)) (omega (arith, high, shorter))) in
        goes_by a programs m s request stays ∙ (more ∙ sym (goes_by b programs m s request stays))

module _ (programs : List (List Request)) (m : Moment) (s : ℕ) (request : Request) (line : next_line programs m s ≡ Some request) where
  abbrev after : Moment
  after = moment_after m s (Some request)

  -- the line is over
  line_ends : stays_at_line m.state s request ≡ false → schedule_of_line programs m s ≡ s ∷ []
  line_ends over = ap (line_schedule (acts_before (m.state.players s).sweep) programs m s) line ∙ by (acts_before (m.state.players s).sweep)
    where
      by : (more : ℕ) → line_schedule more programs m s (Some request) ≡ s ∷ []
      by zero = refl
      by (suc more) = rw over refl

  -- or it goes on
  line_goes : stays_at_line m.state s request ≡ true → schedule_of_line programs m s ≡ s ∷ schedule_of_line programs after s
  line_goes stays = ap (line_schedule (acts_before (m.state.players s).sweep) programs m s) line ∙ by (acts_before (m.state.players s).sweep) (stays_shorter m.state s request stays)
    where
      by : (more : ℕ) → acts_before (after.state.players s).sweep + 1 ≤ more → line_schedule more programs m s (Some request) ≡ s ∷ schedule_of_line programs after s
      by zero shorter = absurd (omega (arith, shorter))
      by (suc more) shorter =
          let rest = ap (λ (run : List ℕ). s ∷ run) (line_fuel more (acts_before (after.state.players s).sweep) programs after s (next_line programs after s) (omega (arith, shorter)) (omega arith)) in
          goes_by more programs m s request stays ∙ rest

-- Some of a line's advances are done, and it is not over.
pub record IsWithin (s : ℕ) (first now : Play) : Type 0 where
  pub opening : now.opening ≡ first.opening
  pub programs : now.programs ≡ first.programs
  pub left : HasLine now s
  pub done : List ℕ
  pub schedule : now.schedule ≡ first.schedule ++ done
  pub rest : schedule_of_line first.programs (moment_of first) s ≡ done ++ schedule_of_line first.programs (moment_of now) s
  pub same : (moment_of now).lines_done s ≡ (moment_of first).lines_done s

pub none_done : (s : ℕ) (play : Play) → HasLine play s → IsWithin s play play
none_done s play left = record { opening = refl; programs = refl; left = left; done = []; schedule = sym (append-nil play.schedule); rest = refl; same = refl }

abbrev pub acts_of : (s : ℕ) → Play → ℕ
acts_of s play = acts_before ((moment_of play).state.players s).sweep

module _ (s : ℕ) (first now next : Play) (within : IsWithin s first now) (advances : Advances s now next) where
  abbrev m : Moment
  m = moment_of now

  abbrev line : Option Request
  line = next_line now.programs m s

  -- the same in the words of the first programs
  line_same : next_line first.programs m s ≡ line
  line_same = ap (λ (programs : List (List Request)). next_line programs m s) (sym within.programs)

  module _ (request : Request) (is : line ≡ Some request) where
    moment_is : moment_of next ≡ moment_after m s (Some request)
    moment_is = advances.moment ∙ ap (moment_after m s) is

    count : (moment_of next).lines_done s ≡ lines_after m.state s request m.lines_done s
    count = ap (λ (one : Moment). one.lines_done s) moment_is

    abbrev more : List ℕ
    more = within.done ++ s ∷ []

    schedule_more : next.schedule ≡ first.schedule ++ more
    schedule_more = advances.schedule ∙ (ap (λ (run : List ℕ). run ++ s ∷ []) within.schedule ∙ append_assoc first.schedule within.done (s ∷ []))

    goes_on : stays_at_line m.state s request ≡ true → IsWithin s first next
    goes_on stays = record {
      opening = advances.opening ∙ within.opening;
      programs = advances.programs ∙ within.programs;
      left =
          subst (λ (programs : List (List Request)). IsSome (next_line programs (moment_of next) s)) (sym advances.programs)
          (subst (λ (one : Moment). IsSome (next_line now.programs one s)) (sym moment_is)
          (subst IsSome (sym (same_line now.programs m s request stays ∙ is)) refl));
      done = more;
      schedule = schedule_more;
      rest =
          within.rest
          ∙ (ap (λ (run : List ℕ). within.done ++ run) (line_goes first.programs m s request (line_same ∙ is) stays)
          ∙ (sym (append_assoc within.done (s ∷ []) (schedule_of_line first.programs (moment_after m s (Some request)) s))
          ∙ ap (λ (one : Moment). more ++ schedule_of_line first.programs one s) (sym moment_is)));
      same = count ∙ (ap (λ (b : Bool). (if b then m.lines_done else one_more s m.lines_done) s) stays ∙ within.same);
    }

    fewer : stays_at_line m.state s request ≡ true → acts_of s next + 1 ≤ acts_of s now
    fewer stays = subst (λ (one : Moment). acts_before (one.state.players s).sweep + 1 ≤ acts_of s now) (sym moment_is) (stays_shorter m.state s request stays)

    over : stays_at_line m.state s request ≡ false → DoesLine s first next
    over ends =
        let whole : schedule_of_line first.programs (moment_of first) s ≡ more = within.rest ∙ ap (λ (run : List ℕ). within.done ++ run) (line_ends first.programs m s request (line_same ∙ is) ends) in
        let schedule : next.schedule ≡ first.schedule ++ schedule_of_line first.programs (moment_of first) s = schedule_more ∙ ap (λ (run : List ℕ). first.schedule ++ run) (sym whole) in
        record {
          opening = advances.opening ∙ within.opening;
          programs = advances.programs ∙ within.programs;
          schedule = schedule;
          moment =
              rw (advances.programs ∙ within.programs, advances.opening ∙ within.opening, schedule)
              (end_append first.programs (start_from first.opening) first.schedule (schedule_of_line first.programs (moment_of first) s));
        }

    one_more_line : stays_at_line m.state s request ≡ false → (moment_of next).lines_done s ≡ m.lines_done s + 1
    one_more_line ends = count ∙ (ap (λ (b : Bool). (if b then m.lines_done else one_more s m.lines_done) s) ends ∙ ap (λ (b : Bool). if b then m.lines_done s + 1 else m.lines_done s) (itself s))

    -- by where the session stands after it

    pub still : (moment_of next).lines_done s ≡ (moment_of first).lines_done s → IsWithin s first next × (acts_of s next + 1 ≤ acts_of s now)
    still stands = by (stays_at_line m.state s request) refl
      where
        by : (stays : Bool) → stays_at_line m.state s request ≡ stays → IsWithin s first next × (acts_of s next + 1 ≤ acts_of s now)
        by true stays = (goes_on stays, fewer stays)
        by false ends = absurd (omega (arith, one_more_line ends, within.same, stands))

    pub ended : (moment_of next).lines_done s ≢ (moment_of first).lines_done s → DoesLine s first next
    ended moved = by (stays_at_line m.state s request) refl
      where
        by : (stays : Bool) → stays_at_line m.state s request ≡ stays → DoesLine s first next
        by true stays = absurd (moved (goes_on stays).same)
        by false ends = over ends

  pub within_more : (moment_of next).lines_done s ≡ (moment_of first).lines_done s → IsWithin s first next × (acts_of s next + 1 ≤ acts_of s now)
  within_more stands = let one = the_line line within.left in still one.item one.is stands

  pub line_done : (moment_of next).lines_done s ≢ (moment_of first).lines_done s → DoesLine s first next
  line_done moved = let one = the_line line within.left in ended one.item one.is moved
