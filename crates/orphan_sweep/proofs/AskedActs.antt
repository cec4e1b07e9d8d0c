-- What a sweep asks for and removes over any answers.
use Rattle.std.proofs.Common.{◌≡◌, ℕ, zero, suc, ◌-◌, ◌≤◌, Bool, true, false, ◌||◌, IsTrue, if◌then◌else◌, List, [], ◌∷◌, ◌++◌, length, take, drop, map, refl, ap, sym, ◌∙◌, subst, arith, append_assoc, append-nil, length-append}
use Rattle.std.proofs.lemmas.List.{take_all}
use Rattle.std.proofs.lemmas.List.Elements.{filter-append}
use Rattle.std.proofs.lemmas.List.Folds.{list_any-append}
use Rattle.std.specs.List.{filter, concat, list_any, flat_map}
use Rattle.orphan_sweep.specs.declared.act.Scan.{Scan}
use Rattle.orphan_sweep.specs.declared.act.SweepAct.{SweepAct}
use Rattle.orphan_sweep.specs.declared.act.SweepAct.TheVariants.{Scan as Scanning, Begin, Unlink, Commit, Rollback, Report, Idle}
use Rattle.orphan_sweep.specs.declared.act.Told.{Told}
use Rattle.orphan_sweep.specs.declared.act.Told.TheVariants.{Found, Granted, Refused}
use Rattle.orphan_sweep.specs.Rest.{groups}
use Rattle.orphan_sweep.specs.Plan.{scan_act, group_acts, groups_to_remove, removal, is_answer_to, unlinks}
use Rattle.orphan_sweep.specs.History.{History, begun, and_told, rest_of, acts_of, acts_done, acts_left, first_act, next_act, is_commit, removed_of}
use Rattle.orphan_sweep.specs.Law.{AreAnswers, asked, and_all_told, is_refused, is_report, KeepsAnswers, AsksByPlan, RemovesTheRest, RemovesAll, StopsAtARefusal, OnlyScans}
use Rattle.orphan_sweep.proofs.Groups.{unlinks-append, unlinks-groups, concat-groups, none-work, work}
use Rattle.orphan_sweep.proofs.Histories.{none-drop, is_ending, acts-whole, take-more, not_true, right_or}
use Rattle.orphan_sweep.specs.Place.{is_unlink}
use Rattle.orphan_sweep.proofs.ActKinds.{the_refused}
use Rattle.orphan_sweep.proofs.OneMoreAnswer.{plan_of, rest-kept, left_there, done-granted, done-refused_of, whole-found, acts-found, state-granted, state-refused}

-- the answers of a history that is told more
told-answers : (h : History) (answers : List Told) → and_all_told h answers ≡ record { dry = h.dry; limit = h.limit; list = h.list; scans = h.scans; answers = h.answers ++ answers }
told-answers h [] =
    ap (λ told. let g : History = record { dry = h.dry; limit = h.limit; list = h.list; scans = h.scans; answers = told } in g) (sym (append-nil h.answers))
told-answers h (answer ∷ answers) =
    told-answers (and_told h answer) answers ∙ ap (λ told. let g : History = record { dry = h.dry; limit = h.limit; list = h.list; scans = h.scans; answers = told } in g) (append_assoc h.answers (answer ∷ []) answers)

pub keeps_answers : (dry : Bool) (limit : ℕ) (list : List ℕ) (scans : List Scan) (answers : List Told) → KeepsAnswers dry limit list scans answers
keeps_answers dry limit list scans answers = told-answers (begun dry limit list scans) answers

-- more numbers found change no act up to the present scan
take-scans : (n : ℕ) (scans : List Scan) (xs ys : List SweepAct) → n ≤ length scans → take n (map scan_act scans ++ xs) ≡ take n (map scan_act scans ++ ys)
take-scans zero scans xs ys h = refl
take-scans (suc n) [] xs ys h = absurd (omega arith)
take-scans (suc n) (scan ∷ scans) xs ys h =
    ap (λ acts. scan_act scan ∷ acts) (take-scans n scans xs ys (omega arith))

done-found : (h : History) (numbers : List ℕ) → is_answer_to (next_act h) (Found numbers) ≡ true → acts_done (and_told h (Found numbers)) ≡ acts_done h ++ next_act h ∷ []
done-found h numbers fits =
    let n : ℕ = length (h.answers ++ Found numbers ∷ []) in
    let scan = whole-found h numbers fits in
    let few : n ≤ length h.scans = omega (arith, length-append h.answers (Found numbers ∷ []), scan.1) in
    let whole : acts_of h ≡ plan_of h = acts-whole (plan_of h) h.answers scan.0 in
    ap (take n) (acts-found h numbers scan.0) ∙ take-scans n h.scans (removal h.dry h.limit (rest_of (and_told h (Found numbers)))) (removal h.dry h.limit (rest_of h)) few ∙ ap (take n) (sym whole) ∙ take-more (acts_of h) h.answers (Found numbers) (next_act h) (drop 1 (acts_left h)) (left_there h (Found numbers) fits)

done-more : (h : History) (answer : Told) → is_answer_to (next_act h) answer ≡ true → acts_done (and_told h answer) ≡ acts_done h ++ next_act h ∷ []
done-more h (Found numbers) fits = done-found h numbers fits
done-more h Granted fits = done-granted h fits
done-more h Refused fits = done-refused_of h fits

-- what was asked for is what is done of the acts that the answers fix in the end
asked-done : (h : History) (answers : List Told) → AreAnswers h answers → acts_done h ++ asked h answers ≡ acts_done (and_all_told h answers)
asked-done h [] fit = append-nil (acts_done h)
asked-done h (answer ∷ answers) fit =
    sym (append_assoc (acts_done h) (next_act h ∷ []) (asked (and_told h answer) answers)) ∙ ap (λ acts. acts ++ asked (and_told h answer) answers) (sym (done-more h answer fit.0)) ∙ asked-done (and_told h answer) answers fit.1

pub asked-from_start : (dry : Bool) (limit : ℕ) (list : List ℕ) (scans : List Scan) (answers : List Told) → AreAnswers (begun dry limit list scans) answers → asked (begun dry limit list scans) answers ≡ acts_done (and_all_told (begun dry limit list scans) answers)
asked-from_start dry limit list scans answers fit = asked-done (begun dry limit list scans) answers fit

-- a sweep to which nothing was refused has done a front of its plan
done-plan : (h : History) → list_any is_refused h.answers ≡ false → acts_done h ≡ take (length h.answers) (plan_of h)
done-plan h none = ap (take (length h.answers)) (acts-whole (plan_of h) h.answers none)

pub asks_by_plan : (dry : Bool) (limit : ℕ) (list : List ℕ) (scans : List Scan) (answers : List Told) → AsksByPlan dry limit list scans answers
asks_by_plan dry limit list scans answers fit none =
    let h0 : History = begun dry limit list scans in
    let P : History → Type 0 = λ h. asked h0 answers ≡ acts_done h → asked h0 answers ≡ take (length answers) (map scan_act scans ++ removal dry limit (rest_of h)) in
    let end = sym (keeps_answers dry limit list scans answers) in
    subst P end (λ e. e ∙ done-plan (record { dry = dry; limit = limit; list = list; scans = scans; answers = answers }) none) (asked-from_start dry limit list scans answers fit)

-- before the report comes all that stands before it
before_report : (xs : List SweepAct) (n : ℕ) → list_any is_report xs ≡ false → first_act (drop n (xs ++ Report ∷ [])) ≡ Report → take n (xs ++ Report ∷ []) ≡ xs
before_report [] zero h e = refl
before_report [] (suc zero) h e = cc
before_report [] (suc (suc n)) h e = cc
before_report (act ∷ xs) zero h e =
    let k : (is_report act || list_any is_report xs) ≡ true = ap (λ b. is_report b || list_any is_report xs) e in cc
before_report (act ∷ xs) (suc n) h e =
    ap (λ acts. act ∷ acts) (before_report xs n (not_true (list_any is_report xs) (λ f. let k = right_or (is_report act) (list_any is_report xs) f in cc)) e)

unlinks-scans : (scans : List Scan) → unlinks (map scan_act scans) ≡ []
unlinks-scans [] = refl
unlinks-scans (scan ∷ scans) = unlinks-scans scans

commits-scans : (scans : List Scan) → filter is_commit (map scan_act scans) ≡ []
commits-scans [] = refl
commits-scans (scan ∷ scans) = commits-scans scans

commits-group : (g : List ℕ) → filter is_commit (map (λ o. Unlink o) g ++ Commit ∷ []) ≡ Commit ∷ []
commits-group [] = refl
commits-group (o ∷ g) = commits-group g

commits-groups : (gs : List (List ℕ)) → length (filter is_commit (flat_map group_acts gs)) ≡ length gs
commits-groups [] = refl
commits-groups (g ∷ gs) =
    ap length (filter-append is_commit (group_acts g) (flat_map group_acts gs) ∙ ap (λ xs. xs ++ filter is_commit (flat_map group_acts gs)) (commits-group g)) ∙ ap suc (commits-groups gs)

unlinks-work : (limit : ℕ) (scans : List Scan) (rest : List ℕ) → unlinks (work scans (groups limit rest)) ≡ rest
unlinks-work limit scans rest =
    unlinks-append (map scan_act scans) (flat_map group_acts (groups limit rest)) ∙ ap (λ xs. xs ++ unlinks (flat_map group_acts (groups limit rest))) (unlinks-scans scans) ∙ unlinks-groups (groups limit rest) ∙ concat-groups limit rest

commits-work : (limit : ℕ) (scans : List Scan) (rest : List ℕ) → length (concat (take (length (filter is_commit (work scans (groups limit rest)))) (groups limit rest))) ≡ length rest
commits-work limit scans rest =
    let gs : List (List ℕ) = groups limit rest in
    let same : length (filter is_commit (work scans gs)) ≡ length gs = ap length (filter-append is_commit (map scan_act scans) (flat_map group_acts gs) ∙ ap (λ xs. xs ++ filter is_commit (flat_map group_acts gs)) (commits-scans scans)) ∙ commits-groups gs in
    ap (λ n. length (concat (take n gs))) same ∙ ap (λ ps. length (concat ps)) (take_all (length gs) gs (omega arith)) ∙ ap length (concat-groups limit rest)

-- a sweep to which nothing was refused, at its report
reported : (limit : ℕ) (list : List ℕ) (scans : List Scan) (answers : List Told) → let h : History = record { dry = false; limit = limit; list = list; scans = scans; answers = answers } in list_any is_refused answers ≡ false → next_act h ≡ Report → RemovesAll limit scans (rest_of h) (acts_done h) (removed_of h)
reported limit list scans answers none next =
    let h : History = record { dry = false; limit = limit; list = list; scans = scans; answers = answers } in
    let gs : List (List ℕ) = groups limit (rest_of h) in
    let split : plan_of h ≡ work scans gs ++ Report ∷ [] = sym (append_assoc (map scan_act scans) (flat_map group_acts gs) (Report ∷ [])) in
    let whole : acts_of h ≡ work scans gs ++ Report ∷ [] = acts-whole (plan_of h) answers none ∙ split in
    let done : acts_done h ≡ work scans gs = ap (take (length answers)) whole ∙ before_report (work scans gs) (length answers) (none-work is_report (record { scan = λ table column. refl; begin = refl; unlink = λ o. refl; commit = refl }) scans gs) (ap (λ acts. first_act (drop (length answers) acts)) (sym whole) ∙ next) in
    record {
      by_groups = done;
      each = ap unlinks done ∙ unlinks-work limit scans (rest_of h);
      counted = ap (λ acts. length (concat (take (length (filter is_commit acts)) gs))) done ∙ commits-work limit scans (rest_of h);
    }

pub removes_the_rest : (limit : ℕ) (list : List ℕ) (scans : List Scan) (answers : List Told) → RemovesTheRest limit list scans answers
removes_the_rest limit list scans answers fit none =
    let h0 : History = begun false limit list scans in
    let P : History → Type 0 = λ h. asked h0 answers ≡ acts_done h → next_act h ≡ Report → RemovesAll limit scans (rest_of h) (asked h0 answers) (removed_of h) in
    subst P (sym (keeps_answers false limit list scans answers)) (λ e next. rw e (reported limit list scans answers none next)) (asked-from_start false limit list scans answers fit)

-- the last acts are only granted
pub only_granted : (act : SweepAct) (answer : Told) → is_ending act ≡ true → is_answer_to act answer ≡ true → answer ≡ Granted
only_granted (Scanning table column) answer e h = cc
only_granted Begin answer e h = cc
only_granted (Unlink o) answer e h = cc
only_granted Commit answer e h = cc
only_granted Rollback (Found numbers) e h = cc
only_granted Rollback Granted e h = refl
only_granted Rollback Refused e h = cc
only_granted Report (Found numbers) e h = cc
only_granted Report Granted e h = refl
only_granted Report Refused e h = cc
only_granted Idle answer e h = cc

-- from here on the acts are these, and nothing more is removed
pub record Ends (h : History) (answers : List Told) (acts : List SweepAct) : Type 0 where
  pub asks : asked h answers ≡ take (length answers) acts
  pub removed : removed_of (and_all_told h answers) ≡ removed_of h
  pub rest : rest_of (and_all_told h answers) ≡ rest_of h

pub ends-idle : (h : History) (answers : List Told) → acts_left h ≡ [] → AreAnswers h answers → Ends h answers []
ends-idle h [] e fit = record { asks = refl; removed = refl; rest = refl }
ends-idle h (answer ∷ answers) e fit =
    let idle : is_answer_to (next_act h) answer ≡ false = ap (λ acts. is_answer_to (first_act acts) answer) e in
    absurd (let f = fit.0 in cc)

-- an act that is neither a commit nor answered but by granted
ends-step : (h : History) (act : SweepAct) (acts : List SweepAct) (answers : List Told) → acts_left h ≡ act ∷ acts → is_ending act ≡ true → is_commit act ≡ false → (acts_left (and_told h Granted) ≡ acts → AreAnswers (and_told h Granted) answers → Ends (and_told h Granted) answers acts) → IsTrue (is_answer_to (next_act h) Granted) → AreAnswers (and_told h Granted) answers → Ends h (Granted ∷ answers) (act ∷ acts)
ends-step h act acts answers e ending other later fits fit =
    let state = state-granted h fits in
    let next : next_act h ≡ act = ap first_act e in
    let left : acts_left (and_told h Granted) ≡ acts = ap (λ s. s.left) state ∙ ap (drop 1) e in
    let kept : removed_of (and_told h Granted) ≡ removed_of h = ap (λ s. s.removed) state ∙ ap (λ b. if b then length (rest_of h) - length (unlinks (drop 1 (acts_left h))) else removed_of h) (ap is_commit next ∙ other) in
    let ends = later left fit in
    record {
      asks = ap (λ first. first ∷ asked (and_told h Granted) answers) next ∙ ap (λ xs. act ∷ xs) ends.asks;
      removed = ends.removed ∙ kept;
      rest = ends.rest ∙ rest-kept h Granted refl;
    }

ends-act : (h : History) (act : SweepAct) (acts : List SweepAct) (answers : List Told) → acts_left h ≡ act ∷ acts → is_ending act ≡ true → is_commit act ≡ false → ((answers : List Told) → acts_left (and_told h Granted) ≡ acts → AreAnswers (and_told h Granted) answers → Ends (and_told h Granted) answers acts) → AreAnswers h answers → Ends h answers (act ∷ acts)
ends-act h act acts [] e ending other later fit = record { asks = refl; removed = refl; rest = refl }
ends-act h act acts (answer ∷ answers) e ending other later fit =
    let next : next_act h ≡ act = ap first_act e in
    let granted : answer ≡ Granted = only_granted act answer ending (ap (λ a. is_answer_to a answer) (sym next) ∙ fit.0) in
    let P : Told → Type 0 = λ a. IsTrue (is_answer_to (next_act h) a) → AreAnswers (and_told h a) answers → Ends h (a ∷ answers) (act ∷ acts) in
    subst P (sym granted) (ends-step h act acts answers e ending other (later answers)) fit.0 fit.1

ends-report : (h : History) (answers : List Told) → acts_left h ≡ Report ∷ [] → AreAnswers h answers → Ends h answers (Report ∷ [])
ends-report h answers e fit =
    ends-act h Report [] answers e refl refl (λ more. ends-idle (and_told h Granted) more) fit

ends-rollback : (h : History) (answers : List Told) → acts_left h ≡ Rollback ∷ Report ∷ [] → AreAnswers h answers → Ends h answers (Rollback ∷ Report ∷ [])
ends-rollback h answers e fit =
    ends-act h Rollback (Report ∷ []) answers e refl refl (λ more. ends-report (and_told h Granted) more) fit

-- answers in two goes
answers-split : (h : History) (first second : List Told) → AreAnswers h (first ++ second) → AreAnswers h first × AreAnswers (and_all_told h first) second
answers-split h [] second fit = (tt, fit)
answers-split h (answer ∷ first) second fit =
    let both = answers-split (and_told h answer) first second fit.1 in ((fit.0, both.0), both.1)

pub stops_at_a_refusal : (dry : Bool) (limit : ℕ) (list : List ℕ) (scans : List Scan) (before later : List Told) → StopsAtARefusal dry limit list scans before later
stops_at_a_refusal dry limit list scans before later fit =
    let h0 : History = begun dry limit list scans in
    let h1 : History = and_all_told h0 before in
    let h2 : History = and_told h1 Refused in
    let both = answers-split h0 before (Refused ∷ later) fit in
    let state = state-refused h1 both.1.0 in
    let ends = ends-rollback h2 later (ap (λ s. s.left) state) both.1.1 in
    let rest : rest_of (and_all_told h2 later) ≡ rest_of h1 = ends.rest ∙ rest-kept h1 Refused refl in
    let kept = keeps_answers dry limit list scans before in
    let count : ℕ = length (filter is_commit (asked h0 before)) in (
      ends.asks,
      ends.removed ∙ ap (λ s. s.removed) state ∙ ap (λ acts. length (concat (take (length (filter is_commit acts)) (groups_to_remove h1.dry h1.limit (rest_of h1))))) (sym (asked-from_start dry limit list scans before both.0))
          ∙ ap (λ h. length (concat (take count (groups_to_remove h.dry h.limit (rest_of h1))))) kept ∙ ap (λ r. length (concat (take count (groups_to_remove dry limit r)))) (sym rest),
    )

unlink-scans : (scans : List Scan) → list_any is_unlink (map scan_act scans ++ Report ∷ []) ≡ false
unlink-scans [] = refl
unlink-scans (scan ∷ scans) = unlink-scans scans

-- nothing is refused in a dry run
dry_unrefused : (limit : ℕ) (list : List ℕ) (scans : List Scan) (told answers : List Told) → let h : History = record { dry = true; limit = limit; list = list; scans = scans; answers = told } in list_any is_refused told ≡ false → AreAnswers h answers → list_any is_refused answers ≡ false
dry_unrefused limit list scans told [] none fit = refl
dry_unrefused limit list scans told (Refused ∷ answers) none fit =
    let h : History = record { dry = true; limit = limit; list = list; scans = scans; answers = told } in
    let whole : acts_of h ≡ plan_of h = acts-whole (plan_of h) told none in
    let other : is_unlink (next_act h) ≡ false = ap (λ acts. is_unlink (first_act (drop (length told) acts))) whole ∙ none-drop is_unlink refl (plan_of h) (length told) (unlink-scans scans) in
    let it = the_refused (next_act h) fit.0 in
    let unlink : is_unlink (next_act h) ≡ true = ap is_unlink it.1 in
    cc
dry_unrefused limit list scans told (Granted ∷ answers) none fit =
    dry_unrefused limit list scans (told ++ Granted ∷ []) answers (list_any-append is_refused told (Granted ∷ []) ∙ ap (λ b. b || false) none) fit.1
dry_unrefused limit list scans told (Found numbers ∷ answers) none fit =
    dry_unrefused limit list scans (told ++ Found numbers ∷ []) answers (list_any-append is_refused told (Found numbers ∷ []) ∙ ap (λ b. b || false) none) fit.1

pub only_scans : (limit : ℕ) (list : List ℕ) (scans : List Scan) (answers : List Told) → OnlyScans limit list scans answers
only_scans limit list scans answers fit =
    asks_by_plan true limit list scans answers fit (dry_unrefused limit list scans [] answers refl fit)
