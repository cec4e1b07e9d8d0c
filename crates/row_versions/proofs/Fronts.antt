-- Each view sees a front of the stack of a place.
use Rattle.std.proofs.Common.{ℕ, suc, ◌≤◌, ◌≡◌, Bool, true, false, cond, List, [], ◌∷◌, take, refl, ap, sym, ◌∙◌, arith}
use Rattle.std.proofs.lemmas.Bool.{false≢true}
use Rattle.std.proofs.lemmas.Bool.Decides.{nat_tests}
use Rattle.lo_model.specs.declared.owner.Owner.{Owner}
use Rattle.lo_model.specs.declared.owner.Owner.TheVariants.{Running, Committed}
use Rattle.lo_model.specs.declared.viewer.Viewer.{Viewer}
use Rattle.lo_model.specs.declared.viewer.Viewer.TheVariants.{Nobody, Whole, Below}
use Rattle.lo_model.specs.Edit.{Edit}
use Rattle.lo_model.specs.View.{sees, view}
use Rattle.row_versions.specs.Stack.{Each, Pairwise, Follows, IsOver}
use Rattle.row_versions.proofs.Stacking.{each_more}

-- whoever sees the later of two sees the earlier
pub sees_under : (n : ℕ) (viewer : Viewer) (c : ℕ) (v : Owner) (d : ℕ) (w : Owner) → Follows c v d w → sees n viewer d w ≡ true → sees n viewer c v ≡ true
sees_under n viewer c (Committed a) d (Committed b) over seen = let x : c ≤ a = over.0 in let y : a ≤ b = over.1 in grind (arith, nat_tests)
sees_under n Nobody c (Committed a) d (Running t m) over seen = let x : c ≤ a = over.0 in let y : a ≤ d = over.1 in grind (arith, nat_tests)
sees_under n (Whole u) c (Committed a) d (Running t m) over seen = let x : c ≤ a = over.0 in let y : a ≤ d = over.1 in grind (arith, nat_tests)
sees_under n (Below u k) c (Committed a) d (Running t m) over seen = let x : c ≤ a = over.0 in let y : a ≤ d = over.1 in grind (arith, nat_tests)
sees_under n viewer c (Running s l) d (Committed b) over seen = absurd over
sees_under n Nobody c (Running s l) d (Running t m) over seen = grind (arith, nat_tests)
sees_under n (Whole u) c (Running s l) d (Running t m) over seen = let x : s ≡ t = over.0 in let y : c ≤ d = over.2 in grind (arith, nat_tests)
sees_under n (Below u k) c (Running s l) d (Running t m) over seen = let x : s ≡ t = over.0 in let y : l ≤ m = over.1 in let z : c ≤ d = over.2 in grind (arith, nat_tests)

none_seen : {D : Type 0} (n : ℕ) (viewer : Viewer) (es : List (Edit D)) → Each (λ (e : Edit D). sees n viewer e.clock e.owner ≡ false) es → view n viewer es ≡ []
none_seen n viewer [] none = refl
none_seen n viewer (e ∷ es) none = let first : sees n viewer e.clock e.owner ≡ false = none.0 in rw (first, none_seen n viewer es none.1) refl

pub record IsFront {X : Type 0} (xs ys : List X) : Type 0 where
  pub count : ℕ
  pub is : xs ≡ take count ys

pub view_front : {D : Type 0} (n : ℕ) (viewer : Viewer) (es : List (Edit D)) → Pairwise IsOver es → IsFront (view n viewer es) es
view_front n viewer [] order = record { count = 0; is = refl }
view_front {D} n viewer (e ∷ es) order = by_seen (sees n viewer e.clock e.owner) refl (view_front n viewer es order.1)
  where
    unseen : sees n viewer e.clock e.owner ≡ false → (f : Edit D) → IsOver e f → sees n viewer f.clock f.owner ≡ false
    unseen at f over = by_later (sees n viewer f.clock f.owner) refl
      where
        by_later : (b : Bool) → sees n viewer f.clock f.owner ≡ b → sees n viewer f.clock f.owner ≡ false
        by_later false is = is
        by_later true is = absurd (false≢true (sym at ∙ sees_under n viewer e.clock e.owner f.clock f.owner over is))

    by_seen : (b : Bool) → sees n viewer e.clock e.owner ≡ b → IsFront (view n viewer es) es → IsFront (cond b (e ∷ view n viewer es) (view n viewer es)) (e ∷ es)
    by_seen true at rest = record { count = suc rest.count; is = ap (λ fs. e ∷ fs) rest.is }
    by_seen false at rest = record { count = 0; is = none_seen n viewer es (each_more (IsOver e) (λ (f : Edit D). sees n viewer f.clock f.owner ≡ false) (λ f over. unseen at f over) es order.0) }
