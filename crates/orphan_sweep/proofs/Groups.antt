-- How the groups are cut, and what their acts unlink.
use Rattle.std.proofs.Common.{◌≡◌, ◌==◌, ℕ, zero, suc, ◌<◌, ◌≤◌, min, Bool, false, List, [], ◌∷◌, ◌++◌, length, take, drop, map, refl, ap, ◌∙◌, arith, length-drop, append_assoc, append-nil}
use Rattle.std.proofs.lemmas.Bool.Decides.{nat_tests}
use Rattle.std.proofs.lemmas.List.{take-append-drop}
use Rattle.std.proofs.Math.Nat.{suc-min-suc, zero-min, min-zero}
use Rattle.std.proofs.Math.Seq.{drop-length}
use Rattle.std.proofs.lemmas.Bool.{or_from}
use Rattle.std.proofs.lemmas.List.Concat.{flat_map-append}
use Rattle.std.proofs.lemmas.List.Folds.{list_any-append}
use Rattle.std.specs.List.{flat_map, concat, list_any}
use Rattle.orphan_sweep.specs.declared.act.Scan.{Scan}
use Rattle.orphan_sweep.specs.declared.act.SweepAct.{SweepAct}
use Rattle.orphan_sweep.specs.declared.act.SweepAct.TheVariants.{Scan as Scanning, Begin, Unlink, Commit, Report}
use Rattle.orphan_sweep.specs.Rest.{pieces, groups}
use Rattle.orphan_sweep.specs.Plan.{scan_act, group_acts, removal, unlinks, unlinked_by}
use Rattle.orphan_sweep.specs.Place.{group_size, in_group}

-- the count of the pieces does not matter where it is large enough
pieces-any : (m n size : ℕ) (xs : List ℕ) → 0 < size → length xs ≤ m → length xs ≤ n → pieces m size xs ≡ pieces n size xs
pieces-any zero zero size xs some a b = refl
pieces-any zero (suc n) size [] some a b = refl
pieces-any zero (suc n) size (x ∷ xs) some a b = absurd (omega arith)
pieces-any (suc m) zero size [] some a b = refl
pieces-any (suc m) zero size (x ∷ xs) some a b = absurd (omega arith)
pieces-any (suc m) (suc n) size [] some a b = refl
pieces-any (suc m) (suc n) size (x ∷ xs) some a b =
    ap (λ ps. take size (x ∷ xs) ∷ ps) (pieces-any m n size (drop size (x ∷ xs)) some (omega (arith, length-drop size (x ∷ xs))) (omega (arith, length-drop size (x ∷ xs))))

pub pieces-nil : (n size : ℕ) → pieces n size [] ≡ []
pieces-nil zero size = refl
pieces-nil (suc n) size = refl

take-min : (size : ℕ) (xs : List ℕ) → take (min (length xs) size) xs ≡ take size xs
take-min zero xs = rw min-zero refl
take-min (suc size) [] = rw zero-min refl
take-min (suc size) (x ∷ xs) = rw suc-min-suc (ap (λ ys. x ∷ ys) (take-min size xs))

drop-min : (size : ℕ) (xs : List ℕ) → drop (min (length xs) size) xs ≡ drop size xs
drop-min zero xs = rw min-zero refl
drop-min (suc size) [] = rw zero-min refl
drop-min (suc size) (x ∷ xs) = rw suc-min-suc (drop-min size xs)

pub suc-not_zero : (l : ℕ) → (suc l == 0) ≡ false
suc-not_zero l = grind (arith, nat_tests)

-- the first group takes as many as the limit allows
pub groups_opens : (limit x : ℕ) (xs : List ℕ) → groups limit (x ∷ xs) ≡ take (group_size limit (length (x ∷ xs))) (x ∷ xs) ∷ groups limit (drop (group_size limit (length (x ∷ xs))) (x ∷ xs))
groups_opens zero x xs =
    rw (drop-length xs) (rw (pieces-nil (length xs) (suc (length xs))) refl)
groups_opens (suc l) x xs =
    rw (suc-not_zero l) (rw (take-min (suc l) (x ∷ xs)) (rw (drop-min (suc l) (x ∷ xs))
    (ap (λ ps. take (suc l) (x ∷ xs) ∷ ps) (pieces-any (length xs) (length (drop (suc l) (x ∷ xs))) (suc l) (drop (suc l) (x ∷ xs)) (omega arith) (omega (arith, length-drop l xs)) (omega arith)))))

pub unlinks-append : (xs ys : List SweepAct) → unlinks (xs ++ ys) ≡ unlinks xs ++ unlinks ys
unlinks-append xs ys = flat_map-append unlinked_by xs ys

pub unlinks-map : (xs : List ℕ) → unlinks (map (λ o. Unlink o) xs) ≡ xs
unlinks-map [] = refl
unlinks-map (x ∷ xs) = ap (λ ys. x ∷ ys) (unlinks-map xs)

-- what the acts of a group unlink is the group
pub unlinks-group : (g : List ℕ) → unlinks (group_acts g) ≡ g
unlinks-group g =
    unlinks-append (map (λ o. Unlink o) g) (Commit ∷ []) ∙ ap (λ ys. ys ++ []) (unlinks-map g) ∙ append-nil g

-- what the acts of these groups unlink is the groups, one after another
pub unlinks-groups : (gs : List (List ℕ)) → unlinks (flat_map group_acts gs) ≡ concat gs
unlinks-groups [] = refl
unlinks-groups (g ∷ gs) =
    unlinks-append (group_acts g) (flat_map group_acts gs) ∙ ap (λ ys. ys ++ unlinks (flat_map group_acts gs)) (unlinks-group g) ∙ ap (λ ys. g ++ ys) (unlinks-groups gs)

concat-pieces : (n size : ℕ) (xs : List ℕ) → 0 < size → length xs ≤ n → concat (pieces n size xs) ≡ xs
concat-pieces zero size [] some a = refl
concat-pieces zero size (x ∷ xs) some a = absurd (omega arith)
concat-pieces (suc n) size [] some a = refl
concat-pieces (suc n) size (x ∷ xs) some a =
    ap (λ ys. take size (x ∷ xs) ++ ys) (concat-pieces n size (drop size (x ∷ xs)) some (omega (arith, length-drop size (x ∷ xs)))) ∙ take-append-drop size (x ∷ xs)

-- the groups, one after another, are the rest
pub concat-groups : (limit : ℕ) (xs : List ℕ) → concat (groups limit xs) ≡ xs
concat-groups limit [] = refl
concat-groups zero (x ∷ xs) =
    concat-pieces (suc (length xs)) (suc (length xs)) (x ∷ xs) (omega arith) (omega arith)
concat-groups (suc l) (x ∷ xs) =
    rw (suc-not_zero l) (concat-pieces (suc (length xs)) (suc l) (x ∷ xs) (omega arith) (omega arith))

-- the report unlinks nothing
pub unlinks-removal : (limit : ℕ) (xs : List ℕ) → unlinks (removal false limit xs) ≡ xs
unlinks-removal limit xs =
    unlinks-append (flat_map group_acts (groups limit xs)) (Report ∷ []) ∙ append-nil (unlinks (flat_map group_acts (groups limit xs))) ∙ unlinks-groups (groups limit xs) ∙ concat-groups limit xs

-- a removal of some numbers begins a group of as many as the limit allows
pub removal_opens : (limit x : ℕ) (xs : List ℕ) → removal false limit (x ∷ xs) ≡ Begin ∷ in_group limit (group_size limit (length (x ∷ xs))) (x ∷ xs)
removal_opens limit x xs =
    let n : ℕ = group_size limit (length (x ∷ xs)) in
    let first : List SweepAct = map (λ o. Unlink o) (take n (x ∷ xs)) in
    let others : List SweepAct = flat_map group_acts (groups limit (drop n (x ∷ xs))) in
    ap (λ gs. flat_map group_acts gs ++ Report ∷ []) (groups_opens limit x xs) ∙ ap (λ acts. Begin ∷ acts) (append_assoc (first ++ Commit ∷ []) others (Report ∷ []) ∙ append_assoc first (Commit ∷ []) (others ++ Report ∷ []))

-- ---- acts that are not there

-- a test that neither a scan nor an act of a group passes
pub record SparesWork (p : SweepAct → Bool) : Type 0 where
  pub scan : (table column : List ℕ) → p (Scanning table column) ≡ false
  pub begin : p Begin ≡ false
  pub unlink : (o : ℕ) → p (Unlink o) ≡ false
  pub commit : p Commit ≡ false

-- the scans and the groups
abbrev pub work : List Scan → List (List ℕ) → List SweepAct
work scans gs = map scan_act scans ++ flat_map group_acts gs

none-group : (p : SweepAct → Bool) → SparesWork p → (g : List ℕ) → list_any p (map (λ o. Unlink o) g ++ Commit ∷ []) ≡ false
none-group p spares [] = or_from (p Commit) false spares.commit refl
none-group p spares (o ∷ g) = or_from (p (Unlink o)) (list_any p (map (λ o. Unlink o) g ++ Commit ∷ [])) (spares.unlink o) (none-group p spares g)

none-groups : (p : SweepAct → Bool) → SparesWork p → (gs : List (List ℕ)) → list_any p (flat_map group_acts gs) ≡ false
none-groups p spares [] = refl
none-groups p spares (g ∷ gs) =
    list_any-append p (group_acts g) (flat_map group_acts gs)
    ∙ or_from (list_any p (group_acts g)) (list_any p (flat_map group_acts gs)) (or_from (p Begin) (list_any p (map (λ o. Unlink o) g ++ Commit ∷ [])) spares.begin (none-group p spares g)) (none-groups p spares gs)

pub none-work : (p : SweepAct → Bool) → SparesWork p → (scans : List Scan) (gs : List (List ℕ)) → list_any p (work scans gs) ≡ false
none-work p spares [] gs = none-groups p spares gs
none-work p spares (scan ∷ scans) gs = or_from (p (scan_act scan)) (list_any p (work scans gs)) (spares.scan scan.table scan.column) (none-work p spares scans gs)
