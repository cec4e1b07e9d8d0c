use Rattle.std.proofs.Common.{◌≡◌, ◌++◌, sym, ◌∙◌, refl, List, ℕ, [], append_assoc, append-nil}
use Rattle.std.specs.Prelude.{codes}
use Rattle.std.proofs.lemmas.Result.{on_ok_weaker, on_err_weaker}
use Rattle.expanded_array.specs.Array.{elements_of}
use Rattle.expanded_array.specs.Kept.{kept_array}
use Rattle.expanded_array.specs.Text.{array_text, bounds_of, joined}
use Rattle.expanded_array.proofs.Fronts.{join2, front_of, front_then}
use Rattle.expanded_array.proofs.array_var.Kept.push_text.Goals as goal

-- the text behind the bounds
behind : (b j : List ℕ) → b ++ (codes "{" ++ (j ++ codes "}")) ≡ b ++ codes "{" ++ j ++ codes "}"
behind b j = sym (append_assoc (b ++ codes "{") j (codes "}") ∙ append_assoc b (codes "{") (j ++ codes "}"))

pub returns-in_default-clause-err : goal.returns-in_default-clause-err
returns-in_default-clause-err c =
    front_then c.args.out.now c.args.out.now c.push_bounds.new.out [] (bounds_of (kept_array c.args.self.now)) (codes "{" ++ (joined (elements_of (kept_array c.args.self.now)) ++ codes "}")) (array_text (kept_array c.args.self.now))
    (sym (append-nil c.args.out.now)) c.in_default.ensures.err (behind (bounds_of (kept_array c.args.self.now)) (joined (elements_of (kept_array c.args.self.now))))

pub returns-in_default-extend-clause-err : goal.returns-in_default-extend-clause-err
returns-in_default-extend-clause-err c =
    front_of c.args.out.now c.extend.new.self (bounds_of (kept_array c.args.self.now)) (codes "{" ++ (joined (elements_of (kept_array c.args.self.now)) ++ codes "}")) (array_text (kept_array c.args.self.now))
    (c.in_default-extend.ensures.err ∙ c.in-Ok.ensures.ok) (behind (bounds_of (kept_array c.args.self.now)) (joined (elements_of (kept_array c.args.self.now))))

pub returns-in_default-push_elements-clause-err : goal.returns-in_default-push_elements-clause-err
returns-in_default-push_elements-clause-err c =
    front_then c.args.out.now c.extend.new.self c.push_elements.new.out (bounds_of (kept_array c.args.self.now) ++ codes "{") (joined (elements_of (kept_array c.args.self.now))) (codes "}") (array_text (kept_array c.args.self.now))
    (join2 c.args.out.now c.push_bounds.new.out c.extend.new.self (bounds_of (kept_array c.args.self.now)) (codes "{") c.in-Ok.ensures.ok c.in-Ok-extend.ensures.ok)
    c.in_default-push_elements.ensures.err refl

pub returns-clause-ok : goal.returns-clause-ok
returns-clause-ok c =
    let second = join2 c.args.out.now c.push_bounds.new.out c.extend.new.self (bounds_of (kept_array c.args.self.now)) (codes "{") c.in-Ok.ensures.ok c.in-Ok-extend.ensures.ok in
    let third = join2 c.args.out.now c.extend.new.self c.push_elements.new.out (bounds_of (kept_array c.args.self.now) ++ codes "{") (joined (elements_of (kept_array c.args.self.now))) second c.in-Ok-push_elements.ensures.ok in
    on_ok_weaker c.extend-2.result (λ e. join2 c.args.out.now c.push_elements.new.out c.extend-2.new.self (bounds_of (kept_array c.args.self.now) ++ codes "{" ++ joined (elements_of (kept_array c.args.self.now))) (codes "}") third e) c.extend-2.ensures.ok

pub returns-clause-err : goal.returns-clause-err
returns-clause-err c =
    let second = join2 c.args.out.now c.push_bounds.new.out c.extend.new.self (bounds_of (kept_array c.args.self.now)) (codes "{") c.in-Ok.ensures.ok c.in-Ok-extend.ensures.ok in
    let third = join2 c.args.out.now c.extend.new.self c.push_elements.new.out (bounds_of (kept_array c.args.self.now) ++ codes "{") (joined (elements_of (kept_array c.args.self.now))) second c.in-Ok-push_elements.ensures.ok in
    on_err_weaker c.extend-2.result (λ e. front_of c.args.out.now c.extend-2.new.self (bounds_of (kept_array c.args.self.now) ++ codes "{" ++ joined (elements_of (kept_array c.args.self.now))) (codes "}") (array_text (kept_array c.args.self.now)) (e ∙ third) refl) c.extend-2.ensures.err
