-- What one more answer does to the acts of a sweep, and so to its state.
use Rattle.std.proofs.Common.{◌≡◌, ◌==◌, ℕ, zero, suc, ◌<◌, ◌≤◌, Bool, true, false, not, ◌||◌, cond, List, [], ◌∷◌, ◌++◌, length, take, drop, map, refl, ap, ◌∙◌, arith, append_assoc, append-nil}
use Rattle.std.proofs.lemmas.List.Folds.{list_any-append}
use Rattle.std.proofs.lemmas.List.Concat.{flat_map-append}
use Rattle.std.specs.List.{filter, flat_map, list_any}
use Rattle.orphan_sweep.specs.declared.act.Scan.{Scan}
use Rattle.orphan_sweep.specs.declared.act.SweepAct.{SweepAct}
use Rattle.orphan_sweep.specs.declared.act.SweepAct.TheVariants.{Scan as Scanning, Begin, Unlink, Commit, Rollback, Report, Idle}
use Rattle.orphan_sweep.specs.declared.act.Told.{Told}
use Rattle.orphan_sweep.specs.declared.act.Told.TheVariants.{Found, Granted, Refused}
use Rattle.orphan_sweep.specs.Rest.{less}
use Rattle.orphan_sweep.specs.Plan.{scan_act, group_acts, acts_given, is_answer_to}
use Rattle.orphan_sweep.specs.History.{History, and_told, numbers_found, rest_of, first_act, is_commit}
use Rattle.orphan_sweep.specs.Law.{is_refused}

-- taking numbers off the list in two goes
filter-twice : (p q r : ℕ → Bool) → ((x : ℕ) → not (r x) ≡ cond (not (p x)) (not (q x)) false) → (xs : List ℕ) → filter (λ x. not (r x)) xs ≡ filter (λ x. not (q x)) (filter (λ x. not (p x)) xs)
filter-twice p q r h [] = refl
filter-twice p q r h (x ∷ xs) =
    rw (h x)
    (elim (p x) as (λ b. cond (cond (not b) (not (q x)) false) (x ∷ filter (λ x. not (r x)) xs) (filter (λ x. not (r x)) xs) ≡ filter (λ x. not (q x)) (cond (not b) (x ∷ filter (λ x. not (p x)) xs) (filter (λ x. not (p x)) xs))) [
      | true ↦ filter-twice p q r h xs
      | false ↦ ap (λ ys. cond (not (q x)) (x ∷ ys) ys) (filter-twice p q r h xs)
    ])

none_or : (a b : Bool) → not (a || b) ≡ cond (not a) (not b) false
none_or true b = refl
none_or false b = refl

pub less-append : (list first second : List ℕ) → less list (first ++ second) ≡ less (less list first) second
less-append list first second =
    filter-twice (λ o. list_any (λ f. f == o) first) (λ o. list_any (λ f. f == o) second) (λ o. list_any (λ f. f == o) (first ++ second))
    (λ o. ap not (list_any-append (λ f. f == o) first second) ∙ none_or (list_any (λ f. f == o) first) (list_any (λ f. f == o) second)) list

pub less-nil : (list : List ℕ) → less list [] ≡ list
less-nil [] = refl
less-nil (x ∷ list) = ap (λ ys. x ∷ ys) (less-nil list)

-- the answers with one more
found-more : (answers : List Told) (answer : Told) → flat_map numbers_found (answers ++ answer ∷ []) ≡ flat_map numbers_found answers ++ numbers_found answer
found-more answers answer =
    flat_map-append numbers_found answers (answer ∷ []) ∙ ap (λ ys. flat_map numbers_found answers ++ ys) (append-nil (numbers_found answer))

pub rest-more : (h : History) (answer : Told) → rest_of (and_told h answer) ≡ less (rest_of h) (numbers_found answer)
rest-more h answer =
    ap (less h.list) (found-more h.answers answer) ∙ less-append h.list (flat_map numbers_found h.answers) (numbers_found answer)

-- of two lists of one length, the rest with one less
pub drop-more : {A B : Type 0} (xs : List A) (ys : List B) (b : B) → drop (length (ys ++ b ∷ [])) xs ≡ drop 1 (drop (length ys) xs)
drop-more [] [] b = refl
drop-more (x ∷ xs) [] b = refl
drop-more [] (y ∷ ys) b = refl
drop-more (x ∷ xs) (y ∷ ys) b = drop-more xs ys b

-- an act that is granted changes none of those after it
pub acts-granted : (plan : List SweepAct) (answers : List Told) (answer : Told) → is_refused answer ≡ false → acts_given plan (answers ++ answer ∷ []) ≡ acts_given plan answers
acts-granted [] [] answer h = refl
acts-granted (act ∷ plan) [] (Found numbers) h = refl
acts-granted (act ∷ plan) [] Granted h = refl
acts-granted (act ∷ plan) [] Refused h = cc
acts-granted [] (a ∷ answers) answer h = refl
acts-granted (act ∷ plan) (Found numbers ∷ answers) answer h =
    ap (λ acts. act ∷ acts) (acts-granted plan answers answer h)
acts-granted (act ∷ plan) (Granted ∷ answers) answer h =
    ap (λ acts. act ∷ acts) (acts-granted plan answers answer h)
acts-granted (act ∷ plan) (Refused ∷ answers) answer h = refl

-- without a refusal the acts are the plan
pub acts-whole : (plan : List SweepAct) (answers : List Told) → list_any is_refused answers ≡ false → acts_given plan answers ≡ plan
acts-whole plan [] h = refl
acts-whole [] (a ∷ answers) h = refl
acts-whole (act ∷ plan) (Found numbers ∷ answers) h =
    ap (λ acts. act ∷ acts) (acts-whole plan answers h)
acts-whole (act ∷ plan) (Granted ∷ answers) h = ap (λ acts. act ∷ acts) (acts-whole plan answers h)
acts-whole (act ∷ plan) (Refused ∷ answers) h = cc

-- the acts that end a sweep
abbrev pub is_ending : SweepAct → Bool
is_ending (Scanning table column) = false
is_ending Begin = false
is_ending (Unlink o) = false
is_ending Commit = false
is_ending Rollback = true
is_ending Report = true
is_ending Idle = true

ending-drop : (answers : List Told) → is_ending (first_act (drop (length answers) (Rollback ∷ Report ∷ []))) ≡ true
ending-drop [] = refl
ending-drop (a ∷ []) = refl
ending-drop (a ∷ b ∷ []) = refl
ending-drop (a ∷ b ∷ c ∷ answers) = refl

-- after a refusal only these come
acts-ending : (plan : List SweepAct) (answers : List Told) → list_any is_refused answers ≡ true → is_ending (first_act (drop (length answers) (acts_given plan answers))) ≡ true
acts-ending plan [] h = cc
acts-ending [] (a ∷ answers) h = refl
acts-ending (act ∷ plan) (Found numbers ∷ answers) h = acts-ending plan answers h
acts-ending (act ∷ plan) (Granted ∷ answers) h = acts-ending plan answers h
acts-ending (act ∷ plan) (Refused ∷ answers) h = ending-drop answers

pub not_true : (b : Bool) → (b ≡ true → ⊥) → b ≡ false
not_true true h = absurd (h refl)
not_true false h = refl

-- so as long as other acts come, nothing was refused
pub unrefused : (plan : List SweepAct) (answers : List Told) → is_ending (first_act (drop (length answers) (acts_given plan answers))) ≡ false → list_any is_refused answers ≡ false
unrefused plan answers h =
    not_true (list_any is_refused answers) (λ r. let e = acts-ending plan answers r in cc)

-- what is left after an unlink is refused
pub left-refused : (plan : List SweepAct) (answers : List Told) → list_any is_refused answers ≡ false → length answers < length plan → drop (length (answers ++ Refused ∷ [])) (acts_given plan (answers ++ Refused ∷ [])) ≡ Rollback ∷ Report ∷ []
left-refused [] answers h less = absurd (omega arith)
left-refused (act ∷ plan) [] h less = refl
left-refused (act ∷ plan) (Found numbers ∷ answers) h less = left-refused plan answers h (omega arith)
left-refused (act ∷ plan) (Granted ∷ answers) h less = left-refused plan answers h (omega arith)
left-refused (act ∷ plan) (Refused ∷ answers) h less = cc

-- the first act that is left is the next to be done
pub take-more : {A B : Type 0} (xs : List A) (ys : List B) (b : B) (x : A) (rest : List A) → drop (length ys) xs ≡ x ∷ rest → take (length (ys ++ b ∷ [])) xs ≡ take (length ys) xs ++ x ∷ []
take-more [] [] b x rest e = cc
take-more (y ∷ xs) [] b x rest e = cc
take-more [] (c ∷ ys) b x rest e = cc
take-more (y ∷ xs) (c ∷ ys) b x rest e = ap (λ zs. y ∷ zs) (take-more xs ys b x rest e)

-- an act that is refused was done too, and those before it stay
pub done-refused : (plan : List SweepAct) (answers : List Told) (act : SweepAct) (left : List SweepAct) → drop (length answers) (acts_given plan answers) ≡ act ∷ left → take (length (answers ++ Refused ∷ [])) (acts_given plan (answers ++ Refused ∷ [])) ≡ take (length answers) (acts_given plan answers) ++ act ∷ []
done-refused [] [] act left e = cc
done-refused (first ∷ plan) [] act left e = cc
done-refused [] (a ∷ answers) act left e = cc
done-refused (first ∷ plan) (Found numbers ∷ answers) act left e =
    ap (λ acts. first ∷ acts) (done-refused plan answers act left e)
done-refused (first ∷ plan) (Granted ∷ answers) act left e =
    ap (λ acts. first ∷ acts) (done-refused plan answers act left e)
done-refused (first ∷ plan) (Refused ∷ answers) act left e =
    ap (λ acts. first ∷ acts) (take-more (Rollback ∷ Report ∷ []) answers Refused act left e)

-- an act that can be answered is there
pub there : (acts : List SweepAct) (answer : Told) → is_answer_to (first_act acts) answer ≡ true → acts ≡ first_act acts ∷ drop 1 acts
there [] (Found numbers) h = cc
there [] Granted h = cc
there [] Refused h = cc
there (act ∷ acts) answer h = refl

pub within : (plan : List SweepAct) (n : ℕ) (act : SweepAct) (left : List SweepAct) → drop n plan ≡ act ∷ left → n < length plan
within [] zero act left e = cc
within [] (suc n) act left e = cc
within (first ∷ plan) zero act left e = omega arith
within (first ∷ plan) (suc n) act left e = let h = within plan n act left e in omega arith

-- no commit is among the scans
pub commits-scans : (n : ℕ) (scans : List Scan) (others : List SweepAct) → n ≤ length scans → filter is_commit (take n (map scan_act scans ++ others)) ≡ []
commits-scans zero scans others h = refl
commits-scans (suc n) [] others h = absurd (omega arith)
commits-scans (suc n) (scan ∷ scans) others h = commits-scans n scans others (omega arith)

abbrev pub is_scan : SweepAct → Bool
is_scan (Scanning table column) = true
is_scan Begin = false
is_scan (Unlink o) = false
is_scan Commit = false
is_scan Rollback = false
is_scan Report = false
is_scan Idle = false

-- a scan comes only among the scans
scans-group : (g : List ℕ) (others : List SweepAct) → list_any is_scan (map (λ o. Unlink o) g ++ others) ≡ list_any is_scan others
scans-group [] others = refl
scans-group (o ∷ g) others = scans-group g others

-- the groups and the report, and the same after the begin of the first group
abbrev pub body : List (List ℕ) → List SweepAct
body gs = flat_map group_acts gs ++ Report ∷ []

pub body-cons : (g : List ℕ) (gs : List (List ℕ)) → body (g ∷ gs) ≡ Begin ∷ (map (λ o. Unlink o) g ++ Commit ∷ body gs)
body-cons g gs =
    let first : List SweepAct = map (λ o. Unlink o) g in
    ap (λ acts. Begin ∷ acts) (append_assoc (first ++ Commit ∷ []) (flat_map group_acts gs) (Report ∷ []) ∙ append_assoc first (Commit ∷ []) (flat_map group_acts gs ++ Report ∷ []))

scans-body : (gs : List (List ℕ)) → list_any is_scan (body gs) ≡ false
scans-body [] = refl
scans-body (g ∷ gs) = ap (list_any is_scan) (body-cons g gs) ∙ scans-group g (Commit ∷ body gs) ∙ scans-body gs

pub right_or : (a b : Bool) → b ≡ true → (a || b) ≡ true
right_or true b e = refl
right_or false b e = e

pub none-drop : (p : SweepAct → Bool) → p Idle ≡ false → (acts : List SweepAct) (n : ℕ) → list_any p acts ≡ false → p (first_act (drop n acts)) ≡ false
none-drop p idle [] zero h = idle
none-drop p idle [] (suc n) h = idle
none-drop p idle (act ∷ acts) zero h =
    not_true (p act) (λ e. let k : (p act || list_any p acts) ≡ true = ap (λ b. b || list_any p acts) e in cc)
none-drop p idle (act ∷ acts) (suc n) h =
    none-drop p idle acts n (not_true (list_any p acts) (λ e. let k = right_or (p act) (list_any p acts) e in cc))

-- where a scan is next, fewer answers came than there are scans
pub among_scans : (n : ℕ) (scans : List Scan) (gs : List (List ℕ)) → is_scan (first_act (drop n (map scan_act scans ++ body gs))) ≡ true → n < length scans
among_scans n [] gs h = let e = none-drop is_scan refl (body gs) n (scans-body gs) in cc
among_scans zero (scan ∷ scans) gs h = omega arith
among_scans (suc n) (scan ∷ scans) gs h = let e = among_scans n scans gs h in omega arith

-- what is left after a scan
pub left-found : (answers : List Told) (answer : Told) (scans : List Scan) (others : List SweepAct) → list_any is_refused answers ≡ false → is_refused answer ≡ false → length answers < length scans → drop (length (answers ++ answer ∷ [])) (acts_given (map scan_act scans ++ others) (answers ++ answer ∷ [])) ≡ map scan_act (drop 1 (drop (length answers) scans)) ++ others
left-found answers answer [] others h k less = absurd (omega arith)
left-found [] (Found numbers) (scan ∷ scans) others h k less = refl
left-found [] Granted (scan ∷ scans) others h k less = refl
left-found [] Refused (scan ∷ scans) others h k less = cc
left-found (Found numbers ∷ answers) answer (scan ∷ scans) others h k less = left-found answers answer scans others h k (omega arith)
left-found (Granted ∷ answers) answer (scan ∷ scans) others h k less = left-found answers answer scans others h k (omega arith)
left-found (Refused ∷ answers) answer (scan ∷ scans) others h k less = cc
