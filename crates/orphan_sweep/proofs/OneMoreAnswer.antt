-- The state of a history with one more answer.
use Rattle.std.proofs.Common.{◌≡◌, ℕ, ◌-◌, ◌<◌, ◌≤◌, Bool, true, false, cond, IsTrue, if◌then◌else◌, List, [], ◌∷◌, ◌++◌, length, take, drop, map, refl, ap, sym, ◌∙◌, arith, append-nil, length-append}
use Rattle.std.proofs.lemmas.List.Elements.{filter-append}
use Rattle.std.specs.List.{filter, concat, list_any}
use Rattle.orphan_sweep.specs.declared.act.Scan.{Scan}
use Rattle.orphan_sweep.specs.declared.act.SweepAct.{SweepAct}
use Rattle.orphan_sweep.specs.declared.act.SweepAct.TheVariants.{Commit}
use Rattle.orphan_sweep.specs.declared.act.Told.{Told}
use Rattle.orphan_sweep.specs.declared.act.Told.TheVariants.{Found, Granted, Refused}
use Rattle.orphan_sweep.specs.Rest.{less}
use Rattle.orphan_sweep.specs.Plan.{scan_act, groups_to_remove, removal, acts_given, is_answer_to, unlinks}
use Rattle.orphan_sweep.specs.History.{History, and_told, numbers_found, rest_of, acts_of, acts_done, acts_left, first_act, next_act, is_commit, removed_of}
use Rattle.orphan_sweep.specs.Place.{after}
use Rattle.orphan_sweep.specs.State.{State, state_of, next_of}
use Rattle.orphan_sweep.specs.Law.{is_refused}
use Rattle.orphan_sweep.proofs.Histories.{less-nil, rest-more, is_ending, is_scan, drop-more, acts-granted, acts-whole, unrefused, left-refused, done-refused, take-more, there, within, commits-scans, among_scans, left-found}
use Rattle.orphan_sweep.proofs.Commits.{commit_removes}
use Rattle.orphan_sweep.proofs.ActKinds.{the_commit, the_refused, the_scan}

-- the plan of a history
abbrev pub plan_of : History → List SweepAct
plan_of h = map scan_act h.scans ++ removal h.dry h.limit (rest_of h)

same_state : (dry : Bool) (limit : ℕ) (a b : List Scan) (c d : List ℕ) (m n : ℕ) (xs ys : List SweepAct) → a ≡ b → c ≡ d → m ≡ n → xs ≡ ys → ◌≡◌ {A = State} (record { dry = dry; limit = limit; scans = a; rest = c; removed = m; left = xs }) (record { dry = dry; limit = limit; scans = b; rest = d; removed = n; left = ys })
same_state dry limit a b c d m n xs ys e f g h = cc

-- an answer that finds nothing leaves the rest, and with it the plan
pub rest-kept : (h : History) (answer : Told) → numbers_found answer ≡ [] → rest_of (and_told h answer) ≡ rest_of h
rest-kept h answer none =
    rest-more h answer ∙ ap (less (rest_of h)) none ∙ less-nil (rest_of h)

pub plan-kept : (h : History) (answer : Told) → numbers_found answer ≡ [] → plan_of (and_told h answer) ≡ plan_of h
plan-kept h answer none =
    ap (λ r. map scan_act h.scans ++ removal h.dry h.limit r) (rest-kept h answer none)

pub acts-kept : (h : History) → acts_of (and_told h Granted) ≡ acts_of h
acts-kept h =
    ap (λ plan. acts_given plan (h.answers ++ Granted ∷ [])) (plan-kept h Granted refl) ∙ acts-granted (plan_of h) h.answers Granted refl

-- an act that can be granted stands first of what is left
pub left_there : (h : History) (answer : Told) → is_answer_to (next_act h) answer ≡ true → acts_left h ≡ next_act h ∷ drop 1 (acts_left h)
left_there h answer fits = there (acts_left h) answer fits

pub done-granted : (h : History) → is_answer_to (next_act h) Granted ≡ true → acts_done (and_told h Granted) ≡ acts_done h ++ next_act h ∷ []
done-granted h fits =
    ap (take (length (h.answers ++ Granted ∷ []))) (acts-kept h) ∙ take-more (acts_of h) h.answers Granted (next_act h) (drop 1 (acts_left h)) (left_there h Granted fits)

-- how many numbers are removed after one more act is done
abbrev removed_by : History → List SweepAct → ℕ
removed_by h done = length (concat (take (length (filter is_commit done)) (groups_to_remove h.dry h.limit (rest_of h))))

removed-other : (h : History) (act : SweepAct) → is_commit act ≡ false → removed_by h (acts_done h ++ act ∷ []) ≡ removed_of h
removed-other h act e =
    let same : filter is_commit (acts_done h ++ act ∷ []) ≡ filter is_commit (acts_done h) = filter-append is_commit (acts_done h) (act ∷ []) ∙ ap (λ b. filter is_commit (acts_done h) ++ cond b (act ∷ []) []) e ∙ append-nil (filter is_commit (acts_done h)) in
    ap (λ xs. length (concat (take (length xs) (groups_to_remove h.dry h.limit (rest_of h))))) same

-- a commit comes only where nothing was refused, so the acts are the plan
whole-commit : (h : History) → next_act h ≡ Commit → acts_of h ≡ plan_of h
whole-commit h e = acts-whole (plan_of h) h.answers (unrefused (plan_of h) h.answers (ap is_ending e))

removed-commit : (h : History) → next_act h ≡ Commit → acts_left h ≡ Commit ∷ drop 1 (acts_left h) → removed_by h (acts_done h ++ Commit ∷ []) ≡ length (rest_of h) - length (unlinks (drop 1 (acts_left h)))
removed-commit h e there =
    let n : ℕ = length h.answers in
    let whole : acts_of h ≡ plan_of h = whole-commit h e in
    ap (λ acts. removed_by h (take n acts ++ Commit ∷ [])) whole ∙ commit_removes h.dry h.limit h.scans (rest_of h) n (drop 1 (acts_left h)) (ap (drop n) (sym whole) ∙ there)

-- the count of a history whose rest did not change
removed-kept : (h : History) (answer : Told) (act : SweepAct) → numbers_found answer ≡ [] → acts_done (and_told h answer) ≡ acts_done h ++ act ∷ [] → removed_of (and_told h answer) ≡ removed_by h (acts_done h ++ act ∷ [])
removed-kept h answer act none done =
    ap (λ acts. length (concat (take (length (filter is_commit acts)) (groups_to_remove h.dry h.limit (rest_of (and_told h answer)))))) done ∙ ap (λ r. length (concat (take (length (filter is_commit (acts_done h ++ act ∷ []))) (groups_to_remove h.dry h.limit r)))) (rest-kept h answer none)

removed-granted : (h : History) (b : Bool) → is_answer_to (next_act h) Granted ≡ true → is_commit (next_act h) ≡ b → removed_of (and_told h Granted) ≡ (if b then length (rest_of h) - length (unlinks (drop 1 (acts_left h))) else removed_of h)
removed-granted h true fits e =
    let next : next_act h ≡ Commit = the_commit (next_act h) e in
    removed-kept h Granted Commit refl (done-granted h fits ∙ ap (λ act. acts_done h ++ act ∷ []) next) ∙ removed-commit h next (left_there h Granted fits ∙ ap (λ act. act ∷ drop 1 (acts_left h)) next)
removed-granted h false fits e =
    removed-kept h Granted (next_act h) refl (done-granted h fits) ∙ removed-other h (next_act h) e

pub state-granted : (h : History) → is_answer_to (next_act h) Granted ≡ true → state_of (and_told h Granted) ≡ after (state_of h) Granted
state-granted h fits =
    same_state h.dry h.limit _ _ _ _ _ _ _ _ (drop-more h.scans h.answers Granted) (rest-kept h Granted refl) (removed-granted h (is_commit (next_act h)) fits refl)
    (ap (drop (length (h.answers ++ Granted ∷ []))) (acts-kept h) ∙ drop-more (acts_of h) h.answers Granted)

pub whole-refused : (h : History) → is_answer_to (next_act h) Refused ≡ true → list_any is_refused h.answers ≡ false
whole-refused h fits =
    unrefused (plan_of h) h.answers (ap is_ending (the_refused (next_act h) fits).1)

pub done-refused_of : (h : History) → is_answer_to (next_act h) Refused ≡ true → acts_done (and_told h Refused) ≡ acts_done h ++ next_act h ∷ []
done-refused_of h fits =
    ap (λ plan. take (length (h.answers ++ Refused ∷ [])) (acts_given plan (h.answers ++ Refused ∷ []))) (plan-kept h Refused refl) ∙ done-refused (plan_of h) h.answers (next_act h) (drop 1 (acts_left h)) (left_there h Refused fits)

pub state-refused : (h : History) → is_answer_to (next_act h) Refused ≡ true → state_of (and_told h Refused) ≡ after (state_of h) Refused
state-refused h fits =
    let n : ℕ = length h.answers in
    let none : list_any is_refused h.answers ≡ false = whole-refused h fits in
    let whole : acts_of h ≡ plan_of h = acts-whole (plan_of h) h.answers none in
    let few : n < length (plan_of h) = within (plan_of h) n (next_act h) (drop 1 (acts_left h)) (ap (drop n) (sym whole) ∙ left_there h Refused fits) in
    same_state h.dry h.limit _ _ _ _ _ _ _ _ (drop-more h.scans h.answers Refused) (rest-kept h Refused refl)
    (removed-kept h Refused (next_act h) refl (done-refused_of h fits) ∙ removed-other h (next_act h) (ap is_commit (the_refused (next_act h) fits).1))
    (ap (λ plan. drop (length (h.answers ++ Refused ∷ [])) (acts_given plan (h.answers ++ Refused ∷ []))) (plan-kept h Refused refl) ∙ left-refused (plan_of h) h.answers none few)

-- where a scan is next, nothing was refused, and fewer answers came than there are scans
pub whole-found : (h : History) (numbers : List ℕ) → is_answer_to (next_act h) (Found numbers) ≡ true → (list_any is_refused h.answers ≡ false) × (length h.answers < length h.scans)
whole-found h numbers fits =
    let scan = (the_scan (next_act h) numbers fits).2 in
    let none : list_any is_refused h.answers ≡ false = unrefused (plan_of h) h.answers (ap is_ending scan) in
    let whole : acts_of h ≡ plan_of h = acts-whole (plan_of h) h.answers none in
    (none, among_scans (length h.answers) h.scans (groups_to_remove h.dry h.limit (rest_of h)) (ap (λ acts. is_scan (first_act (drop (length h.answers) acts))) (sym whole) ∙ ap is_scan scan))

-- among the scans nothing is removed
removed-none : (h : History) → acts_of h ≡ plan_of h → length h.answers ≤ length h.scans → removed_of h ≡ 0
removed-none h whole few =
    ap (λ acts. removed_by h (take (length h.answers) acts)) whole ∙ ap (λ xs. length (concat (take (length xs) (groups_to_remove h.dry h.limit (rest_of h))))) (commits-scans (length h.answers) h.scans (removal h.dry h.limit (rest_of h)) few)

pub acts-found : (h : History) (numbers : List ℕ) → list_any is_refused h.answers ≡ false → acts_of (and_told h (Found numbers)) ≡ plan_of (and_told h (Found numbers))
acts-found h numbers none =
    let plan : List SweepAct = plan_of (and_told h (Found numbers)) in
    acts-granted plan h.answers (Found numbers) refl ∙ acts-whole plan h.answers none

pub state-found : (h : History) (numbers : List ℕ) → is_answer_to (next_act h) (Found numbers) ≡ true → state_of (and_told h (Found numbers)) ≡ after (state_of h) (Found numbers)
state-found h numbers fits =
    let scan = whole-found h numbers fits in
    let many : length (h.answers ++ Found numbers ∷ []) ≤ length h.scans = omega (arith, length-append h.answers (Found numbers ∷ []), scan.1) in
    same_state h.dry h.limit _ _ _ _ _ _ _ _ (drop-more h.scans h.answers (Found numbers)) (rest-more h (Found numbers))
    (removed-none (and_told h (Found numbers)) (acts-found h numbers scan.0) many ∙ sym (removed-none h (acts-whole (plan_of h) h.answers scan.0) (omega (arith, scan.1))))
    (left-found h.answers (Found numbers) h.scans (removal h.dry h.limit (rest_of (and_told h (Found numbers)))) scan.0 refl scan.1 ∙ ap (λ r. map scan_act (drop 1 (drop (length h.answers) h.scans)) ++ removal h.dry h.limit r) (rest-more h (Found numbers)))

pub state-told : (h : History) (answer : Told) → is_answer_to (next_act h) answer ≡ true → state_of (and_told h answer) ≡ after (state_of h) answer
state-told h (Found numbers) fits = state-found h numbers fits
state-told h Granted fits = state-granted h fits
state-told h Refused fits = state-refused h fits

-- the same, for a sweep that stands where the history leads
pub told_from : (h : History) (answer : Told) (old new : State) → old ≡ state_of h → IsTrue (is_answer_to (next_of old) answer) → new ≡ after old answer → new ≡ state_of (and_told h answer)
told_from h answer old new e fits is =
    is ∙ ap (λ v. after v answer) e ∙ sym (state-told h answer (ap (λ v. is_answer_to (next_of v) answer) (sym e) ∙ fits))
