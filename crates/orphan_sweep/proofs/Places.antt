-- What an answer does at each place of the automaton.
use Rattle.std.proofs.Common.{◌≡◌, ℕ, zero, suc, ◌+◌, ◌-◌, ◌<◌, ◌≤◌, ◌⊎◌, inl, inr, Bool, true, false, if◌then◌else◌, List, [], ◌∷◌, ◌++◌, length, drop, map, slice_index, refl, ap, sym, ◌∙◌, arith, length-drop, drop-cons, add-one}
use Rattle.std.proofs.lemmas.List.{drop_all}
use Rattle.orphan_sweep.specs.declared.act.Scan.{Scan}
use Rattle.orphan_sweep.specs.declared.act.SweepAct.{SweepAct}
use Rattle.orphan_sweep.specs.declared.act.SweepAct.TheVariants.{Scan as Scanning, Begin, Unlink, Commit, Rollback, Report, Idle}
use Rattle.orphan_sweep.specs.declared.act.Told.TheVariants.{Granted}
use Rattle.orphan_sweep.specs.Plan.{scan_act, removal, unlinks}
use Rattle.orphan_sweep.specs.History.{first_act, is_commit}
use Rattle.orphan_sweep.specs.State.{State}
use Rattle.orphan_sweep.specs.Place.{stands, left_at, Fits, in_group, group_size, opening_act, after}
use Rattle.orphan_sweep.proofs.Groups.{removal_opens, unlinks-removal}

-- a list from a place within it
opened : (n : ℕ) (xs : List ℕ) → n < length xs → drop n xs ≡ slice_index xs n ∷ drop (n + 1) xs
opened n xs h = rw add-one (drop-cons xs n 0 h)

same_state : (dry : Bool) (limit : ℕ) (scans : List Scan) (rest : List ℕ) (m n : ℕ) (xs ys : List SweepAct) → m ≡ n → xs ≡ ys → ◌≡◌ {A = State} (record { dry = dry; limit = limit; scans = scans; rest = rest; removed = m; left = xs }) (record { dry = dry; limit = limit; scans = scans; rest = rest; removed = n; left = ys })
same_state dry limit scans rest m n xs ys e f = cc

-- what is left where some numbers wait
removal_at : (limit n : ℕ) (xs : List ℕ) → n < length xs → removal false limit (drop n xs) ≡ Begin ∷ in_group limit (group_size limit (length xs - n)) (drop n xs)
removal_at limit n xs h =
    let e : drop n xs ≡ slice_index xs n ∷ drop (n + 1) xs = opened n xs h in
    let same : length (slice_index xs n ∷ drop (n + 1) xs) ≡ length xs - n = ap length (sym e) ∙ length-drop n xs in
    ap (λ ys. removal false limit ys) e ∙ removal_opens limit (slice_index xs n) (drop (n + 1) xs) ∙ ap (λ k. Begin ∷ in_group limit (group_size limit k) (slice_index xs n ∷ drop (n + 1) xs)) same ∙ ap (λ ys. Begin ∷ in_group limit (group_size limit (length xs - n)) ys) (sym e)

-- the automaton's act is the first that is left
pub act_is_first : (act : SweepAct) (dry : Bool) (limit unlinked room removed : ℕ) (list : List ℕ) (others : List Scan) → Fits act dry unlinked room removed list → first_act (left_at act dry limit room list (drop unlinked list) others) ≡ act
act_is_first (Scanning table column) dry limit unlinked room removed list others h = refl
act_is_first Begin dry limit unlinked room removed list others h =
    ap first_act (removal_at limit unlinked list h.2)
act_is_first (Unlink o) dry limit unlinked zero removed list others h = absurd (omega (arith, h.1))
act_is_first (Unlink o) dry limit unlinked (suc room) removed list others h =
    rw (opened unlinked list (omega (arith, h.2))) (ap (λ n. Unlink n) (sym h.3))
act_is_first Commit dry limit unlinked room removed list others h = rw h.1 refl
act_is_first Rollback dry limit unlinked room removed list others h = refl
act_is_first Report dry limit unlinked room removed list others h = refl
act_is_first Idle dry limit unlinked room removed list others h = refl

pub begun_after : (dry : Bool) (limit unlinked room removed o : ℕ) (list : List ℕ) (others : List Scan) → Fits Begin dry unlinked room removed list → stands dry limit others (Unlink o) unlinked (group_size limit (length list - unlinked)) removed list ≡ after (stands dry limit others Begin unlinked room removed list) Granted
begun_after dry limit unlinked room removed o list others h =
    let acts : List SweepAct = removal false limit (drop unlinked list) in
    let next : first_act acts ≡ Begin = act_is_first Begin dry limit unlinked room removed list others h in
    same_state dry limit [] list _ _ _ _
    (ap (λ act. if is_commit act then length list - length (unlinks (drop 1 acts)) else removed) (sym next))
    (ap (drop 1) (sym (removal_at limit unlinked list h.2)))

-- what is left of a group once its first number is unlinked
in_group_on : (limit room n : ℕ) (xs : List ℕ) → n < length xs → drop 1 (in_group limit (suc room) (drop n xs)) ≡ in_group limit room (drop (n + 1) xs)
in_group_on limit room n xs h = ap (λ ys. drop 1 (in_group limit (suc room) ys)) (opened n xs h)

-- within a group the same state is seen at an unlink and at the commit
in_group_after : (dry : Bool) (limit unlinked room removed o : ℕ) (list : List ℕ) (others : List Scan) → Fits (Unlink o) dry unlinked (suc room) removed list → stands dry limit others Commit (unlinked + 1) (suc room - 1) removed list ≡ after (stands dry limit others (Unlink o) unlinked (suc room) removed list) Granted
in_group_after dry limit unlinked room removed o list others h =
    let acts : List SweepAct = in_group limit (suc room) (drop unlinked list) in
    let next : first_act acts ≡ Unlink o = act_is_first (Unlink o) dry limit unlinked (suc room) removed list others h in
    let fewer : suc room - 1 ≡ room = omega arith in
    same_state dry limit [] list _ _ _ _
    (ap (λ act. if is_commit act then length list - length (unlinks (drop 1 acts)) else removed) (sym next))
    (ap (λ k. in_group limit k (drop (unlinked + 1) list)) fewer ∙ sym (in_group_on limit room unlinked list (omega (arith, h.2))))

pub unlinked_after : (dry : Bool) (limit unlinked room removed o : ℕ) (next : SweepAct) (list : List ℕ) (others : List Scan) → Fits (Unlink o) dry unlinked room removed list → (next ≡ Commit) ⊎ ((n : ℕ) × (next ≡ Unlink n)) → stands dry limit others next (unlinked + 1) (room - 1) removed list ≡ after (stands dry limit others (Unlink o) unlinked room removed list) Granted
unlinked_after dry limit unlinked zero removed o next list others h e = absurd (omega (arith, h.1))
unlinked_after dry limit unlinked (suc room) removed o next list others h (inl e) =
    rw e (in_group_after dry limit unlinked room removed o list others h)
unlinked_after dry limit unlinked (suc room) removed o next list others h (inr e) =
    rw e.1 (in_group_after dry limit unlinked room removed o list others h)

-- at a commit, all numbers but those that are still to be unlinked are removed
committed_length : (limit unlinked : ℕ) (list : List ℕ) → unlinked ≤ length list → length list - length (unlinks (removal false limit (drop unlinked list))) ≡ unlinked
committed_length limit unlinked list h =
    rw (unlinks-removal limit (drop unlinked list)) (rw (length-drop unlinked list) (omega arith))

pub committed_after : (dry : Bool) (limit unlinked room removed : ℕ) (next : SweepAct) (list : List ℕ) (others : List Scan) → Fits Commit dry unlinked room removed list → ((next ≡ Begin) × (unlinked < length list)) ⊎ ((next ≡ Report) × (length list ≤ unlinked)) → stands dry limit others next unlinked room unlinked list ≡ after (stands dry limit others Commit unlinked room removed list) Granted
committed_after dry limit unlinked (suc room) removed next list others h e = absurd (omega (arith, h.1))
committed_after dry limit unlinked zero removed next list others h (inl e) =
    rw e.0 (same_state dry limit [] list _ _ _ _ (sym (committed_length limit unlinked list h.2)) refl)
committed_after dry limit unlinked zero removed next list others h (inr e) =
    rw e.0 (same_state dry limit [] list _ _ _ _ (sym (committed_length limit unlinked list h.2)) (ap (removal false limit) (sym (drop_all unlinked list e.1))))

-- before the removal: the next scan, or what comes after the last
pub opening_stands : (dry : Bool) (limit room removed : ℕ) (list : List ℕ) (others : List Scan) → stands dry limit (drop 1 others) (opening_act others dry list) 0 room removed list ≡ record { dry = dry; limit = limit; scans = others; rest = list; removed = removed; left = map scan_act others ++ removal dry limit list }
opening_stands dry limit room removed list (scan ∷ others) = refl
opening_stands true limit room removed list [] = refl
opening_stands false limit room removed [] [] = refl
opening_stands false limit room removed (x ∷ list) [] = refl

pub opening_fits : (dry : Bool) (room : ℕ) (list : List ℕ) (others : List Scan) → Fits (opening_act others dry list) dry 0 room 0 list
opening_fits dry room list (scan ∷ others) = (refl, refl)
opening_fits true room list [] = tt
opening_fits false room [] [] = tt
opening_fits false room (x ∷ list) [] = (refl, refl, omega arith)
