-- What holds of every sweep, over any answers. `src/law.rt` promises these.
use Rattle.std.specs.Prelude.{◌≡◌, ◌≤◌, ◌<◌, ◌+◌, ◌↔◌, ℕ, Bool, true, false, IsTrue, List, [], ◌∷◌, ◌++◌, length, take, map, filter, All, Contains, slice_index_or}
use Rattle.std.specs.List.{list_any, flat_map, concat}
use Rattle.std.specs.List.Sorted.{IsStrictlyIncreasing}
use Rattle.orphan_sweep.specs.declared.act.Scan.{Scan}
use Rattle.orphan_sweep.specs.declared.act.SweepAct.{SweepAct}
use Rattle.orphan_sweep.specs.declared.act.SweepAct.TheVariants.{Scan as Scanning, Begin, Unlink, Commit, Rollback, Report, Idle}
use Rattle.orphan_sweep.specs.declared.act.Told.{Told}
use Rattle.orphan_sweep.specs.declared.act.Told.TheVariants.{Found, Granted, Refused}
use Rattle.orphan_sweep.specs.Rest.{groups}
use Rattle.orphan_sweep.specs.Plan.{scan_act, group_acts, groups_to_remove, removal, is_answer_to, unlinks}
use Rattle.orphan_sweep.specs.History.{History, begun, and_told, rest_of, next_act, is_commit, removed_of}
use Rattle.orphan_sweep.specs.State.{state_of}
use Rattle.orphan_sweep.specs.Place.{after}

-- the state after an answer of the act's kind is fixed by the state before it
abbrev pub KeepsState : History → Told → Type 0
KeepsState h answer = IsTrue (is_answer_to (next_act h) answer) → state_of (and_told h answer) ≡ after (state_of h) answer

-- each answer is one to the act that was next when it came
abbrev pub AreAnswers : History → List Told → Type 0
AreAnswers h [] = Unit {0}
AreAnswers h (answer ∷ answers) =
    IsTrue (is_answer_to (next_act h) answer) × AreAnswers (and_told h answer) answers

-- the acts that these answers were given to, one after another
abbrev pub asked : History → List Told → List SweepAct
asked h [] = []
asked h (answer ∷ answers) = next_act h ∷ asked (and_told h answer) answers

abbrev pub and_all_told : History → List Told → History
and_all_told h [] = h
and_all_told h (answer ∷ answers) = and_all_told (and_told h answer) answers

abbrev pub is_refused : Told → Bool
is_refused (Found numbers) = false
is_refused Granted = false
is_refused Refused = true

-- they are the answers of its history
abbrev pub KeepsAnswers : Bool → ℕ → List ℕ → List Scan → List Told → Type 0
KeepsAnswers dry limit list scans answers =
    and_all_told (begun dry limit list scans) answers ≡ record { dry = dry; limit = limit; list = list; scans = scans; answers = answers }

-- as long as nothing is refused, what is asked for is a front of the plan: the scans, the groups of the list less all
-- that was found, the report
abbrev pub AsksByPlan : Bool → ℕ → List ℕ → List Scan → List Told → Type 0
AsksByPlan dry limit list scans answers =
    let h0 = begun dry limit list scans in
    let h = and_all_told h0 answers in
    AreAnswers h0 answers → list_any is_refused answers ≡ false → asked h0 answers ≡ take (length answers) (map scan_act scans ++ removal dry limit (rest_of h))

-- what a sweep with this rest has asked for and removed when nothing is left but its report: an unlink for each number of
-- the rest, in its groups
pub record RemovesAll (limit : ℕ) (scans : List Scan) (rest : List ℕ) (acts : List SweepAct) (count : ℕ) : Type 0 where
  pub by_groups : acts ≡ map scan_act scans ++ flat_map group_acts (groups limit rest)
  pub each : unlinks acts ≡ rest
  pub counted : count ≡ length rest

-- so it is at the report, if nothing was refused
abbrev pub RemovesTheRest : ℕ → List ℕ → List Scan → List Told → Type 0
RemovesTheRest limit list scans answers =
    let h0 = begun false limit list scans in
    let h = and_all_told h0 answers in
    AreAnswers h0 answers → list_any is_refused answers ≡ false → next_act h ≡ Report → RemovesAll limit scans (rest_of h) (asked h0 answers) (removed_of h)

-- after a refusal come a rollback and the report, and no more is removed than in the groups committed before
abbrev pub StopsAtARefusal : Bool → ℕ → List ℕ → List Scan → List Told → List Told → Type 0
StopsAtARefusal dry limit list scans before later =
    let h0 = begun dry limit list scans in
    let refused = and_told (and_all_told h0 before) Refused in
    let h = and_all_told refused later in
    let groups_before = length (filter is_commit (asked h0 before)) in
    AreAnswers h0 (before ++ Refused ∷ later) → (asked refused later ≡ take (length later) (Rollback ∷ Report ∷ [])) × (removed_of h ≡ length (concat (take groups_before (groups_to_remove dry limit (rest_of h)))))

-- a dry run asks for its scans and the report alone
abbrev pub OnlyScans : ℕ → List ℕ → List Scan → List Told → Type 0
OnlyScans limit list scans answers =
    let h0 = begun true limit list scans in
    AreAnswers h0 answers → asked h0 answers ≡ take (length answers) (map scan_act scans ++ Report ∷ [])

abbrev pub is_report : SweepAct → Bool
is_report (Scanning table column) = false
is_report Begin = false
is_report (Unlink o) = false
is_report Commit = false
is_report Rollback = false
is_report Report = true
is_report Idle = false

-- the next act is idle exactly where the report was made
abbrev pub IsIdleAfterReport : Bool → ℕ → List ℕ → List Scan → List Told → Type 0
IsIdleAfterReport dry limit list scans answers =
    let h0 = begun dry limit list scans in
    AreAnswers h0 answers → (next_act (and_all_told h0 answers) ≡ Idle) ↔ IsTrue (list_any is_report (asked h0 answers))

-- a number is left exactly where it is on the list and was not found, and the order is the list's
pub record IsTheRest (list found rest : List ℕ) : Type 0 where
  pub members : (o : ℕ) → Contains rest o ↔ (Contains list o × ¬ Contains found o)
  pub ascending : IsStrictlyIncreasing list → IsStrictlyIncreasing rest

-- consecutive groups that are the numbers one after another: none is empty, none is above the limit, each but the last is
-- as large as the limit, and without a limit there is one at most
pub record AreGroups (limit : ℕ) (numbers : List ℕ) (gs : List (List ℕ)) : Type 0 where
  pub whole : concat gs ≡ numbers
  pub some : All (λ g. 0 < length g) gs
  pub small : 0 < limit → All (λ g. length g ≤ limit) gs
  pub full : 0 < limit → (k : ℕ) (d : List ℕ) → k + 1 < length gs → length (slice_index_or gs k d) ≡ limit
  pub one : limit ≡ 0 → length gs ≤ 1
