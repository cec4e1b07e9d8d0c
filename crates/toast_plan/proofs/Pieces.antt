-- Two pieces that are written one behind the other are one piece.
use Rattle.std.proofs.lemmas.Grind.{common_steps}
use Rattle.std.proofs.Common.{◌≡◌, ℕ, ◌+◌, ◌<◌, ◌≤◌, All, get_or, List, ◌++◌, length, take, drop, sym, ap, ◌∙◌, append_assoc, length-append, arith}
use Rattle.std.proofs.lemmas.List.{take_at, drop_at, length-take-le, drop-drop}
use Rattle.toast_plan.specs.Writing.{with_piece}

-- the bytes up to the end of a piece, and those behind it
pub front_of_piece : (at : ℕ) (p old : List ℕ) → at ≤ length old → take (at + length p) (with_piece at p old) ≡ take at old ++ p
front_of_piece at p old le =
    let regrouped : with_piece at p old ≡ (take at old ++ p) ++ drop (at + length p) old = sym (append_assoc (take at old) p (drop (at + length p) old)) in
    let len : length (take at old ++ p) ≡ at + length p = omega (arith, length-append (take at old) p, length-take-le at old le) in
    ap (take (at + length p)) regrouped ∙ take_at (take at old ++ p) (drop (at + length p) old) (at + length p) len

pub rest_of_piece : (at : ℕ) (p old : List ℕ) → at ≤ length old → drop (at + length p) (with_piece at p old) ≡ drop (at + length p) old
rest_of_piece at p old le =
    let regrouped : with_piece at p old ≡ (take at old ++ p) ++ drop (at + length p) old = sym (append_assoc (take at old) p (drop (at + length p) old)) in
    let len : length (take at old ++ p) ≡ at + length p = omega (arith, length-append (take at old) p, length-take-le at old le) in
    ap (drop (at + length p)) regrouped ∙ drop_at (take at old ++ p) (drop (at + length p) old) (at + length p) len

pub piece_then_piece : (at : ℕ) (p q old : List ℕ) → at ≤ length old → with_piece (at + length p) q (with_piece at p old) ≡ with_piece at (p ++ q) old
piece_then_piece at p q old le =
    let mid = with_piece at p old in
    let end = at + length p + length q in
    let behind : drop end mid ≡ drop end old = sym (drop-drop (length q) (at + length p) mid) ∙ ap (drop (length q)) (rest_of_piece at p old le) ∙ drop-drop (length q) (at + length p) old in
    let same : end ≡ at + length (p ++ q) = omega (arith, length-append p q) in
    ap (λ (x : List ℕ). x ++ (q ++ drop end mid)) (front_of_piece at p old le)
    ∙ ap (λ (x : List ℕ). (take at old ++ p) ++ (q ++ x)) behind
    ∙ append_assoc (take at old) p (q ++ drop end old)
    ∙ ap (λ (x : List ℕ). take at old ++ x) (sym (append_assoc p q (drop end old)))
    ∙ ap (λ (x : ℕ). take at old ++ ((p ++ q) ++ drop x old)) same

pub piece_behind_piece : (at mid : ℕ) (p q old : List ℕ) → mid ≡ at + length p → at ≤ length old → with_piece mid q (with_piece at p old) ≡ with_piece at (p ++ q) old
piece_behind_piece at mid p q old e le = ap (λ (m : ℕ). with_piece m q (with_piece at p old)) e ∙ piece_then_piece at p q old le

-- what the type of bytes says of each
pub small_bytes : (bytes : List ℕ) → ((i : ℕ) → get_or bytes i 0 < 256) → All (λ b. b < 256) bytes
small_bytes bytes fits = λ k d lt. grind (arith, common_steps, fits k)
