-- How many numbers are removed once a group is committed.
use Rattle.std.proofs.Common.{◌≡◌, ℕ, zero, suc, ◌+◌, ◌-◌, ◌⊎◌, inl, inr, Bool, true, false, List, [], ◌∷◌, ◌++◌, length, take, drop, map, refl, ap, sym, ◌∙◌, arith, append-nil, length-append}
use Rattle.std.proofs.lemmas.List.Elements.{filter-append}
use Rattle.std.specs.List.{filter, concat, flat_map}
use Rattle.orphan_sweep.specs.declared.act.Scan.{Scan}
use Rattle.orphan_sweep.specs.declared.act.SweepAct.{SweepAct}
use Rattle.orphan_sweep.specs.declared.act.SweepAct.TheVariants.{Unlink, Commit, Report}
use Rattle.orphan_sweep.specs.Plan.{scan_act, group_acts, groups_to_remove, removal, unlinks}
use Rattle.orphan_sweep.specs.History.{is_commit}
use Rattle.orphan_sweep.proofs.Groups.{unlinks-append, unlinks-groups, concat-groups}
use Rattle.orphan_sweep.proofs.Histories.{body, body-cons}

abbrev commits : List SweepAct → ℕ
commits acts = length (filter is_commit acts)

-- a commit within these acts is the first group's own, or one of the groups after it
abbrev Later : List (List ℕ) → (count : ℕ) → List SweepAct → Type 0
Later gs count left = (k : ℕ) × (count ≡ suc (commits (take k (body gs)))) × (drop k (body gs) ≡ Commit ∷ left)

commit_at : (g : List ℕ) (gs : List (List ℕ)) (k : ℕ) (left : List SweepAct) → drop k (map (λ o. Unlink o) g ++ Commit ∷ body gs) ≡ Commit ∷ left → ((commits (take k (map (λ o. Unlink o) g ++ Commit ∷ body gs)) ≡ 0) × (left ≡ body gs)) ⊎ Later gs (commits (take k (map (λ o. Unlink o) g ++ Commit ∷ body gs))) left
commit_at [] gs zero left e = inl (refl, cc)
commit_at [] gs (suc k) left e = inr (k, refl, e)
commit_at (o ∷ g) gs zero left e = cc
commit_at (o ∷ g) gs (suc k) left e = commit_at g gs k left e

-- at a commit, the numbers of the groups up to its own and those of the unlinks after it are all numbers
abbrev Splits : List (List ℕ) → (count : ℕ) → List SweepAct → Type 0
Splits gs count left = length (concat (take (suc count) gs)) + length (unlinks left) ≡ length (concat gs)

unlinks-body : (gs : List (List ℕ)) → unlinks (body gs) ≡ concat gs
unlinks-body gs =
    unlinks-append (flat_map group_acts gs) (Report ∷ []) ∙ append-nil (unlinks (flat_map group_acts gs)) ∙ unlinks-groups gs

split_first : (g : List ℕ) (gs : List (List ℕ)) (count : ℕ) (left : List SweepAct) → count ≡ 0 → left ≡ body gs → Splits (g ∷ gs) count left
split_first g gs count left none own =
    rw (none, own, unlinks-body gs) (omega (arith, length-append g [], length-append g (concat gs)))

split_later : (g : List ℕ) (gs : List (List ℕ)) (count n : ℕ) (left : List SweepAct) → count ≡ suc n → Splits gs n left → Splits (g ∷ gs) count left
split_later g gs count n left more h =
    rw more (omega (arith, h, length-append g (concat (take (suc n) gs)), length-append g (concat gs)))

split_group : (g : List ℕ) (gs : List (List ℕ)) (k : ℕ) (left acts : List SweepAct) → ((j : ℕ) → drop j (body gs) ≡ Commit ∷ left → Splits gs (commits (take j (body gs))) left) → acts ≡ map (λ o. Unlink o) g ++ Commit ∷ body gs → drop k acts ≡ Commit ∷ left → Splits (g ∷ gs) (commits (take k acts)) left
split_group g gs k left acts others is e =
    elim (commit_at g gs k left (ap (drop k) (sym is) ∙ e)) [
      | inl p ↦ split_first g gs _ left (ap (λ xs. commits (take k xs)) is ∙ p.0) p.1
      | inr p ↦ split_later g gs _ (commits (take p.0 (body gs))) left (ap (λ xs. commits (take k xs)) is ∙ p.1) (others p.0 p.2)
    ]

commit_splits : (gs : List (List ℕ)) (k : ℕ) (left : List SweepAct) → drop k (body gs) ≡ Commit ∷ left → Splits gs (commits (take k (body gs))) left
commit_splits [] zero left e = cc
commit_splits [] (suc zero) left e = cc
commit_splits [] (suc (suc k)) left e = cc
commit_splits (g ∷ gs) zero left e = cc
commit_splits (g ∷ gs) (suc k) left e =
    split_group g gs k left _ (λ j f. commit_splits gs j left f) (ap (drop 1) (body-cons g gs)) e

-- the same with the scans before
pub commit_splits_plan : (scans : List Scan) (gs : List (List ℕ)) (k : ℕ) (left : List SweepAct) → drop k (map scan_act scans ++ body gs) ≡ Commit ∷ left → length (concat (take (suc (length (filter is_commit (take k (map scan_act scans ++ body gs))))) gs)) + length (unlinks left) ≡ length (concat gs)
commit_splits_plan [] gs k left e = commit_splits gs k left e
commit_splits_plan (scan ∷ scans) gs zero left e = cc
commit_splits_plan (scan ∷ scans) gs (suc k) left e = commit_splits_plan scans gs k left e

-- a dry run has no commit
pub no_commit : (scans : List Scan) (k : ℕ) (left : List SweepAct) → drop k (map scan_act scans ++ body []) ≡ Commit ∷ left → ⊥
no_commit [] zero left e = cc
no_commit [] (suc zero) left e = cc
no_commit [] (suc (suc k)) left e = cc
no_commit (scan ∷ scans) zero left e = cc
no_commit (scan ∷ scans) (suc k) left e = no_commit scans k left e

-- what a commit adds to what is removed
pub commit_removes : (dry : Bool) (limit : ℕ) (scans : List Scan) (rest : List ℕ) (k : ℕ) (left : List SweepAct) → drop k (map scan_act scans ++ removal dry limit rest) ≡ Commit ∷ left → length (concat (take (length (filter is_commit (take k (map scan_act scans ++ removal dry limit rest) ++ Commit ∷ []))) (groups_to_remove dry limit rest))) ≡ length rest - length (unlinks left)
commit_removes true limit scans rest k left e = absurd (no_commit scans k left e)
commit_removes false limit scans rest k left e =
    let done : List SweepAct = take k (map scan_act scans ++ removal false limit rest) in
    let one_more : length (filter is_commit (done ++ Commit ∷ [])) ≡ suc (length (filter is_commit done)) = ap length (filter-append is_commit done (Commit ∷ [])) ∙ length-append (filter is_commit done) (Commit ∷ []) ∙ omega arith in
    let all : length (concat (groups_to_remove false limit rest)) ≡ length rest = ap length (concat-groups limit rest) in
    let splits = commit_splits_plan scans (groups_to_remove false limit rest) k left e in
    ap (λ n. length (concat (take n (groups_to_remove false limit rest)))) one_more ∙ omega arith
