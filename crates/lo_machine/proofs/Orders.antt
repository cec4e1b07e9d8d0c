-- The schedule of an order is whole.
use Rattle.std.proofs.Common.{◌≡◌, ◌≢◌, inl, inr, cond, ℕ, zero, suc, ◌+◌, ◌-◌, ◌<◌, ◌≤◌, ◌==◌, false, List, [], ◌∷◌, ◌++◌, length, Option, Some, None, refl, ap, sym, ◌∙◌, subst, arith}
use Rattle.std.specs.Prelude.{slice_get, IsSome, IfSome, All, count_by}
use Rattle.std.proofs.lemmas.Bool.{cases_eq, cases_lt, false≢true}
use Rattle.std.proofs.lemmas.List.{get_or_past}
use Rattle.std.proofs.lemmas.List.Sums.{sum_by-cons}
use Rattle.std.proofs.lemmas.Bool.Decides.{nat_tests}
use Rattle.std.proofs.lemmas.List.Elements.{All-head, All-tail, All-nil, All-append, All-weaker, All-get_or}
use Rattle.std.proofs.lemmas.Option.{slice_get_past, slice_get-get_or, slice_get_within, same_Some}
use Rattle.lo_base.specs.declared.request.Request.{Request}
use Rattle.lo_base.specs.declared.request.Request.TheVariants.{Finish}
use Rattle.lo_machine.specs.State.{State}
use Rattle.lo_model.specs.Opening.{Opening}
use Rattle.lo_machine.specs.Program.{program_of}
use Rattle.lo_machine.specs.Served.{IsPlain, ArePlain}
use Rattle.lo_machine.specs.Run.{Moment, next_line, one_more, stays_at_line, moment_after, end_from, IsPlayable, IsWholeFrom, IsOrderOf, acts_before, line_schedule, schedule_of_line, schedule_from, start_from}
use Rattle.lo_machine.proofs.ScriptLines.{Runs, line_runs}

pub record IsThe {X : Type 0} (line : Option X) : Type 0 where
  pub item : X
  pub is : line ≡ Some item

-- what is left of the order names each session once for each line left
abbrev pub Covers : List (List Request) → Moment → List ℕ → Type 0
Covers programs m rest = (s : ℕ) → 1 ≤ s → m.lines_done s + count_by (λ t. t == s) rest ≡ length (program_of programs s)

some_line : {X : Type 0} (xs : List X) (i : ℕ) → i < length xs → IsSome (slice_get xs i)
some_line [] i h = absurd (omega (arith, h))
some_line (x ∷ xs) i h = rw (slice_get-get_or (x ∷ xs) i x h) refl

count_here : (s t : ℕ) (rest : List ℕ) → t ≡ s → count_by (λ u. u == s) (t ∷ rest) ≡ 1 + count_by (λ u. u == s) rest
count_here s t rest same =
    let first : cond (t == s) 1 0 ≡ 1 = grind (arith, nat_tests, same) in
    sum_by-cons (λ (u : ℕ). cond (u == s) 1 0) t rest ∙ ap (λ n. n + count_by (λ u. u == s) rest) first

count_elsewhere : (s t : ℕ) (rest : List ℕ) → t ≢ s → count_by (λ u. u == s) (t ∷ rest) ≡ 0 + count_by (λ u. u == s) rest
count_elsewhere s t rest other =
    let first : cond (t == s) 1 0 ≡ 0 = grind (arith, nat_tests, other) in
    sum_by-cons (λ (u : ℕ). cond (u == s) 1 0) t rest ∙ ap (λ n. n + count_by (λ u. u == s) rest) first

done_here : (s t : ℕ) (count : ℕ → ℕ) → t ≡ s → one_more t count s ≡ count s + 1
done_here s t count same = grind (arith, nat_tests, same)

done_elsewhere : (s t : ℕ) (count : ℕ → ℕ) → t ≢ s → one_more t count s ≡ count s
done_elsewhere s t count other = grind (arith, nat_tests, other)

-- once a line is over, its session has one line less to do
pub covered_more : (programs : List (List Request)) (m after : Moment) (t : ℕ) (rest : List ℕ) → ((s : ℕ) → after.lines_done s ≡ one_more t m.lines_done s) → Covers programs m (t ∷ rest) → Covers programs after rest
covered_more programs m after t rest over h s low = elim (cases_eq t s) [
  | inl same ↦ omega (arith, h s low, over s, count_here s t rest same, done_here s t m.lines_done same)
  | inr other ↦ omega (arith, h s low, over s, count_elsewhere s t rest other, done_elsewhere s t m.lines_done other)
]

pub left_here : (programs : List (List Request)) (m : Moment) (t : ℕ) (rest : List ℕ) → 1 ≤ t → Covers programs m (t ∷ rest) → IsSome (next_line programs m t)
left_here programs m t rest low h = some_line (program_of programs t) (m.lines_done t) (omega (arith, h t low, count_here t t rest refl))

pub the_line : {X : Type 0} (line : Option X) → IsSome line → IsThe line
the_line None some = absurd (grind (arith, some))
the_line (Some x) some = record { item = x; is = refl }

-- one line of the order
pub runs_here : (programs : List (List Request)) (m : Moment) (t : ℕ) (rest : List ℕ) → 1 ≤ t → Covers programs m (t ∷ rest) → Runs programs m t (schedule_of_line programs m t)
runs_here programs m t rest low h =
    let line = the_line (next_line programs m t) (left_here programs m t rest low h) in
    subst (λ (l : Option Request). Runs programs m t (line_schedule (acts_before (m.state.players t).sweep) programs m t l)) (sym line.is)
    (line_runs (acts_before (m.state.players t).sweep) programs m t line.item line.is (omega arith))

pub end_append : (programs : List (List Request)) (m : Moment) (xs ys : List ℕ) → end_from programs m (xs ++ ys) ≡ end_from programs (end_from programs m xs) ys
end_append programs m [] ys = refl
end_append programs m (x ∷ xs) ys = end_append programs (moment_after m x (next_line programs m x)) xs ys

playable_append : (programs : List (List Request)) (m : Moment) (xs ys : List ℕ) → IsPlayable programs m xs → IsPlayable programs (end_from programs m xs) ys → IsPlayable programs m (xs ++ ys)
playable_append programs m [] ys first then = then
playable_append programs m (x ∷ xs) ys first then = (first.0, playable_append programs (moment_after m x (next_line programs m x)) xs ys first.1 then)

pub whole_from : (programs : List (List Request)) (m : Moment) (order : List ℕ) → All (λ s. 1 ≤ s) order → Covers programs m order → IsWholeFrom programs m (schedule_from programs m order)
whole_from programs m [] low h = record {
  sessions = All-nil (λ s. 1 ≤ s);
  playable = tt;
  complete = λ s positive. slice_get_past (program_of programs s) (m.lines_done s) (omega (arith, h s positive));
}
whole_from programs m (t ∷ rest) low h =
    let first : 1 ≤ t = All-head (λ s. 1 ≤ s) t rest low in
    let runs = runs_here programs m t rest first h in
    let more = whole_from programs (end_from programs m (schedule_of_line programs m t)) rest (All-tail (λ s. 1 ≤ s) t rest low) (covered_more programs m (end_from programs m (schedule_of_line programs m t)) t rest runs.over h) in
    record {
      sessions = All-append (λ s. 1 ≤ s) (schedule_of_line programs m t) _ (All-weaker (λ s. s ≡ t) (λ s. 1 ≤ s) (λ s same. subst (λ (n : ℕ). 1 ≤ n) (sym same) first) (schedule_of_line programs m t) runs.sessions) more.sessions;
      playable = playable_append programs m (schedule_of_line programs m t) _ runs.playable more.playable;
      complete = λ s positive. ap (λ (end : Moment). next_line programs end s) (end_append programs m (schedule_of_line programs m t) _) ∙ more.complete s positive;
    }

pub covered_at_start : (opening : Opening) (programs : List (List Request)) (order : List ℕ) → IsOrderOf programs order → Covers programs (start_from opening) order
covered_at_start opening programs order by s low = omega (arith, by.lines s low)

pub whole : (opening : Opening) (programs : List (List Request)) (order : List ℕ) → IsOrderOf programs order → IsWholeFrom programs (start_from opening) (schedule_from programs (start_from opening) order)
whole opening programs order by = whole_from programs (start_from opening) order by.sessions (covered_at_start opening programs order by)

-- Where no request is one of a clean-up, no line takes more than one advance.

-- such a request is no finish, so its line is over after one advance
moves_on : (st : State) (s : ℕ) (request : Request) → IsPlain request → stays_at_line st s request ≡ false
moves_on st s Finish plain = absurd (false≢true plain.0)
moves_on st s other plain = refl

has_here : (P : Request → Type 0) (program : List Request) (i : ℕ) (request : Request) → All P program → slice_get program i ≡ Some request → P request
has_here P program i request all here =
    subst P (same_Some _ _ (sym (slice_get-get_or program i request (slice_get_within program i request here)) ∙ here))
    (All-get_or P program i request (slice_get_within program i request here) all)

one_advance : (more : ℕ) (programs : List (List Request)) (m : Moment) (s : ℕ) (line : Option Request) → IfSome line IsPlain → line_schedule more programs m s line ≡ s ∷ []
one_advance more programs m s None served = refl
one_advance zero programs m s (Some request) served = refl
one_advance (suc more) programs m s (Some request) served = rw (moves_on m.state s request served) refl

-- what holds of all requests of some programs holds of the next line
pub line_has : (P : Request → Type 0) (programs : List (List Request)) (m : Moment) (s : ℕ) → All (λ lines. All P lines) programs → IfSome (next_line programs m s) P
line_has P programs m s all = by (next_line programs m s) refl
  where
    program : All P (program_of programs s)
    program = elim (cases_lt (s - 1) (length programs)) [
      | inl within ↦ All-get_or (All P) programs (s - 1) [] within all
      | inr past ↦ subst (All P) (sym (get_or_past programs (s - 1) [] past)) (All-nil P)
    ]

    by : (line : Option Request) → next_line programs m s ≡ line → IfSome line P
    by None is = tt
    by (Some request) is = has_here P (program_of programs s) (m.lines_done s) request program is

served_from : (programs : List (List Request)) (m : Moment) (order : List ℕ) → ArePlain programs → schedule_from programs m order ≡ order
served_from programs m [] all = refl
served_from programs m (s ∷ order) all =
    let here : schedule_of_line programs m s ≡ s ∷ [] = one_advance (acts_before (m.state.players s).sweep) programs m s (next_line programs m s) (line_has IsPlain programs m s all) in
    ap (λ (run : List ℕ). run ++ schedule_from programs (end_from programs m (schedule_of_line programs m s)) order) here
    ∙ ap (λ (rest : List ℕ). s ∷ rest) (served_from programs (end_from programs m (schedule_of_line programs m s)) order all)

pub served : (opening : Opening) (programs : List (List Request)) (order : List ℕ) → ArePlain programs → schedule_from programs (start_from opening) order ≡ order
served opening programs order all = served_from programs (start_from opening) order all
