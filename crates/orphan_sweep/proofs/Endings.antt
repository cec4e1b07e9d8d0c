-- Each answer leaves fewer acts: one less where an act is done, no more removals where a scan finds numbers, and a
-- rollback and the report in place of an unlink, a commit and at least the report where an unlink is refused.
use Rattle.std.proofs.Common.{◌≡◌, ℕ, zero, suc, ◌+◌, ◌-◌, ◌<◌, ◌≤◌, Bool, true, false, List, [], ◌∷◌, ◌++◌, length, drop, map, refl, ap, sym, ◌∙◌, arith, length-append, length-drop, ◌*◌, ◌==◌, not}
use Rattle.std.proofs.lemmas.List.{length-map}
use Rattle.std.proofs.lemmas.List.Sums.{length-filter, count_by-le-length}
use Rattle.std.specs.List.{concat, list_any}
use Rattle.orphan_sweep.specs.declared.act.Scan.{Scan}
use Rattle.orphan_sweep.specs.declared.act.SweepAct.{SweepAct}
use Rattle.orphan_sweep.specs.declared.act.SweepAct.TheVariants.{Unlink, Commit, Rollback, Report}
use Rattle.orphan_sweep.specs.declared.act.Told.{Told}
use Rattle.orphan_sweep.specs.declared.act.Told.TheVariants.{Found, Granted, Refused}
use Rattle.orphan_sweep.specs.Rest.{less, pieces, groups}
use Rattle.orphan_sweep.specs.Plan.{scan_act, groups_to_remove, removal, is_answer_to}
use Rattle.orphan_sweep.specs.History.{History, and_told, rest_of, acts_left, first_act}
use Rattle.orphan_sweep.specs.Ending.{LeavesFewer}
use Rattle.orphan_sweep.proofs.Histories.{body, body-cons, acts-whole}
use Rattle.orphan_sweep.proofs.Groups.{concat-groups, groups_opens}
use Rattle.orphan_sweep.proofs.Rests.{limited, are_groups}
use Rattle.orphan_sweep.proofs.OneMoreAnswer.{plan_of, left_there, state-told, whole-found, whole-refused}

-- fewer numbers are cut into no more pieces
pieces-fewer : (m n size : ℕ) (xs ys : List ℕ) → 0 < size → length xs ≤ length ys → length ys ≤ n → length (pieces m size xs) ≤ length (pieces n size ys)
pieces-fewer zero n size xs ys some less whole = omega arith
pieces-fewer (suc m) n size [] ys some less whole = omega arith
pieces-fewer (suc m) n size (x ∷ xs) [] some less whole = absurd (omega arith)
pieces-fewer (suc m) zero size (x ∷ xs) (y ∷ ys) some less whole = absurd (omega arith)
pieces-fewer (suc m) (suc n) size (x ∷ xs) (y ∷ ys) some less whole =
    let a : length (drop size (x ∷ xs)) ≡ suc (length xs) - size = length-drop size (x ∷ xs) in
    let b : length (drop size (y ∷ ys)) ≡ suc (length ys) - size = length-drop size (y ∷ ys) in
    let fewer = pieces-fewer m n size (drop size (x ∷ xs)) (drop size (y ∷ ys)) some (omega arith) (omega arith) in
    omega arith

-- and so into no more groups
groups-fewer : (limit : ℕ) (xs ys : List ℕ) → length xs ≤ length ys → length (groups limit xs) ≤ length (groups limit ys)
groups-fewer zero [] ys less = omega arith
groups-fewer zero (x ∷ xs) [] less = absurd (omega arith)
groups-fewer zero (x ∷ xs) (y ∷ ys) less =
    let one : length (groups zero (x ∷ xs)) ≤ 1 = (are_groups zero (x ∷ xs)).one refl in
    let first = ap length (groups_opens zero y ys) in
    omega arith
groups-fewer (suc l) xs ys less =
    let a = ap length (limited l xs) in
    let b = ap length (limited l ys) in
    let fewer = pieces-fewer (length xs) (length ys) (suc l) xs ys (omega arith) less (omega arith) in
    omega arith

-- a begin and a commit for each group, an unlink for each number, and the report
length-body : (gs : List (List ℕ)) → length (body gs) ≡ length (concat gs) + 2 * length gs + 1
length-body [] = refl
length-body (g ∷ gs) =
    let unlinks : List SweepAct = map (λ o. Unlink o) g in
    let is : length (body (g ∷ gs)) ≡ suc (length (unlinks ++ Commit ∷ body gs)) = ap length (body-cons g gs) in
    omega (arith, is, length-append unlinks (Commit ∷ body gs), length-map g (λ o. Unlink o), length-body gs, length-append g (concat gs))

-- fewer numbers are removed in no more acts
pub removal-fewer : (dry : Bool) (limit : ℕ) (xs ys : List ℕ) → length xs ≤ length ys → length (removal dry limit xs) ≤ length (removal dry limit ys)
removal-fewer true limit xs ys less = omega arith
removal-fewer false limit xs ys less =
    let a = ap length (concat-groups limit xs) in
    let b = ap length (concat-groups limit ys) in
    omega (arith, length-body (groups limit xs), length-body (groups limit ys), groups-fewer limit xs ys less)

pub less-fewer : (list found : List ℕ) → length (less list found) ≤ length list
less-fewer list found =
    omega (arith, length-filter (λ o. not (list_any (λ f. f == o) found)) list, count_by-le-length (λ o. not (list_any (λ f. f == o) found)) list)

-- at an unlink, its commit and the report are left too
abbrev HasThree : List SweepAct → Type 0
HasThree acts = is_answer_to (first_act acts) Refused ≡ true → 3 ≤ length acts

three_in_group : (g : List ℕ) (gs : List (List ℕ)) (k : ℕ) → ((j : ℕ) → HasThree (drop j (body gs))) → HasThree (drop k (map (λ o. Unlink o) g ++ Commit ∷ body gs))
three_in_group [] gs zero later h = cc
three_in_group [] gs (suc k) later h = later k h
three_in_group (o ∷ g) gs zero later h =
    omega (arith, length-append (map (λ n. Unlink n) g) (Commit ∷ body gs), length-body gs)
three_in_group (o ∷ g) gs (suc k) later h = three_in_group g gs k later h

three_in_body : (gs : List (List ℕ)) (k : ℕ) → HasThree (drop k (body gs))
three_in_body [] zero h = cc
three_in_body [] (suc zero) h = cc
three_in_body [] (suc (suc k)) h = cc
three_in_body (g ∷ gs) zero h = cc
three_in_body (g ∷ gs) (suc k) h =
    let is = ap (λ acts. drop k (drop 1 acts)) (body-cons g gs) in
    let three = three_in_group g gs k (λ j. three_in_body gs j) (ap (λ acts. is_answer_to (first_act acts) Refused) (sym is) ∙ h) in
    omega (arith, three, ap length is)

three_in_plan : (scans : List Scan) (gs : List (List ℕ)) (k : ℕ) → HasThree (drop k (map scan_act scans ++ body gs))
three_in_plan [] gs k h = three_in_body gs k h
three_in_plan (scan ∷ scans) gs zero h = cc
three_in_plan (scan ∷ scans) gs (suc k) h = three_in_plan scans gs k h

fewer-found : (h : History) (numbers : List ℕ) → LeavesFewer h (Found numbers)
fewer-found h numbers fits =
    let n : ℕ = length h.answers in
    let scan = whole-found h numbers fits in
    let later : List Scan = drop 1 (drop n h.scans) in
    let fewer : List SweepAct = removal h.dry h.limit (less (rest_of h) numbers) in
    let more : List SweepAct = removal h.dry h.limit (rest_of h) in
    let new : acts_left (and_told h (Found numbers)) ≡ map scan_act later ++ fewer = ap (λ s. s.left) (state-told h (Found numbers) fits) in
    let old : acts_left h ≡ drop n (map scan_act h.scans ++ more) = ap (drop n) (acts-whole (plan_of h) h.answers scan.0) in
    omega (
      arith,
      ap length new,
      length-append (map scan_act later) fewer,
      length-map later scan_act,
      length-drop 1 (drop n h.scans),
      length-drop n h.scans,
      ap length old,
      length-drop n (map scan_act h.scans ++ more),
      length-append (map scan_act h.scans) more,
      length-map h.scans scan_act,
      removal-fewer h.dry h.limit (less (rest_of h) numbers) (rest_of h) (less-fewer (rest_of h) numbers),
      scan.1,
    )

fewer-granted : (h : History) → LeavesFewer h Granted
fewer-granted h fits =
    let new : acts_left (and_told h Granted) ≡ drop 1 (acts_left h) = ap (λ s. s.left) (state-told h Granted fits) in
    omega (arith, ap length new, ap length (left_there h Granted fits))

fewer-refused : (h : History) → LeavesFewer h Refused
fewer-refused h fits =
    let n : ℕ = length h.answers in
    let new : acts_left (and_told h Refused) ≡ Rollback ∷ Report ∷ [] = ap (λ s. s.left) (state-told h Refused fits) in
    let old : acts_left h ≡ drop n (plan_of h) = ap (drop n) (acts-whole (plan_of h) h.answers (whole-refused h fits)) in
    let three = three_in_plan h.scans (groups_to_remove h.dry h.limit (rest_of h)) n (ap (λ acts. is_answer_to (first_act acts) Refused) (sym old) ∙ fits) in
    omega (arith, ap length new, ap length old, three)

pub leaves_fewer : (h : History) (answer : Told) → LeavesFewer h answer
leaves_fewer h (Found numbers) fits = fewer-found h numbers fits
leaves_fewer h Granted fits = fewer-granted h fits
leaves_fewer h Refused fits = fewer-refused h fits
