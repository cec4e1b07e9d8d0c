-- Names without a second one.
use Rattle.std.proofs.Common.{◌≡◌, ◌≢◌, ◌↔◌, ℕ, suc, ◌+◌, ◌<◌, All, List, [], ◌∷◌, length, get_or, drop, map, ap, sym, ◌∙◌, add-one}
use Rattle.std.specs.List.{AllByRecursion}
use Rattle.std.proofs.Math.Seq.{drop-cons}
use Rattle.std.proofs.lemmas.List.Elements.{All-from_recursion, recursion_from_All}
use Rattle.lo_base.specs.declared.column.Column.{Column}
use Rattle.toast_plan.specs.Columns.{AreDistinct}

abbrev names : List Column → List (List ℕ)
names cs = map (λ (c : Column). c.name) cs

named_otherwise : (n : List ℕ) (cs : List Column) → AllByRecursion (λ (c : Column). c.name ≢ n) cs → AllByRecursion (λ m. m ≢ n) (names cs)
named_otherwise n [] h = tt
named_otherwise n (c ∷ cs) h = (h.0, named_otherwise n cs h.1)

otherwise_named : (n : List ℕ) (cs : List Column) → AllByRecursion (λ m. m ≢ n) (names cs) → AllByRecursion (λ (c : Column). c.name ≢ n) cs
otherwise_named n [] h = tt
otherwise_named n (c ∷ cs) h = (h.0, otherwise_named n cs h.1)

at_place : (cs : List Column) (i : ℕ) (c : Column) → c ≡ get_or cs i c → i < length cs → names (drop i cs) ≡ c.name ∷ names (drop (i + 1) cs)
at_place cs i c is lt =
    let step : drop i cs ≡ c ∷ drop (i + 1) cs = rw (add-one) (drop-cons cs i c lt ∙ ap (λ (x : Column). x ∷ drop (suc i) cs) (sym is)) in
    ap names step

abbrev Distinct : List (List ℕ) → Type 0
Distinct ns = AreDistinct ns

pub goes_on : (cs : List Column) (i : ℕ) (c : Column) → c ≡ get_or cs i c → i < length cs → All (λ (d : Column). d.name ≢ c.name) (drop (i + 1) cs) → AreDistinct (names (drop i cs)) ↔ AreDistinct (names cs) → AreDistinct (names (drop (i + 1) cs)) ↔ AreDistinct (names cs)
goes_on cs i c is lt others so_far =
    let step = at_place cs i c is lt in
    let apart : AllByRecursion (λ m. m ≢ c.name) (names (drop (i + 1) cs)) = named_otherwise c.name (drop (i + 1) cs) (recursion_from_All (λ (d : Column). d.name ≢ c.name) (drop (i + 1) cs) others) in
    ((λ h. so_far.0 (rw step (apart, h))), (λ h. let all = rw step at (so_far.1 h) in all.1))

pub stops : (cs : List Column) (i : ℕ) (c : Column) → c ≡ get_or cs i c → i < length cs → (All (λ (d : Column). d.name ≢ c.name) (drop (i + 1) cs) → ⊥) → AreDistinct (names (drop i cs)) ↔ AreDistinct (names cs) → AreDistinct (names cs) → ⊥
stops cs i c is lt twice so_far h =
    let all = rw (at_place cs i c is lt) at (so_far.1 h) in
    twice (All-from_recursion (λ (d : Column). d.name ≢ c.name) (drop (i + 1) cs) (otherwise_named c.name (drop (i + 1) cs) all.0))
