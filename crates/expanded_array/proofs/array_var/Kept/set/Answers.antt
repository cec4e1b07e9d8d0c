use Rattle.std.proofs.Common.{◌≡◌, sym, ap, subst, ◌∙◌, rules}
use Rattle.std.specs.Prelude.{FitsSigned, IfSome}
use Rattle.std.specs.Int.{w32, cast_signed, cast_unsigned}
use Rattle.std.proofs.lemmas.Int.{to_z-of_z}
use Rattle.expanded_array.specs.Array.{IsHeld, excess}
use Rattle.expanded_array.specs.Kept.{IsKept, kept_array, expanded_array, IsRead}
use Rattle.expanded_array.proofs.ArrayLaws.{held_after, set_held}
use Rattle.expanded_array.proofs.array_var.Kept.set.Goals as goal

pub returns-in_ok-set-in-Flat-clause-kept : goal.returns-in_ok-set-in-Flat-clause-kept
returns-in_ok-set-in-Flat-clause-kept c =
    let value : IfSome c.args.value (FitsSigned w32) = search rules in
    let sub : cast_signed w32 (cast_unsigned w32 c.args.sub) ≡ c.args.sub = to_z-of_z w32 c.args.sub c.ranges.sub in
    let read : IsRead c.in-Flat.flat = subst IsKept c.in-Flat.is c.requires.kept in
    let held : IsHeld (kept_array c.args.self.now) = subst (λ k. IsHeld (kept_array k)) (sym c.in-Flat.is) read.held in
    let same : expanded_array c.in_ok-expanded-in-Flat.expanded ≡ kept_array c.args.self.now = c.in_ok-expanded-in-Flat.ensures ∙ ap kept_array (sym c.in-Flat.is) in
    subst IsHeld (sym c.in_ok-set-in-Flat.ensures.ok)
    (set_held (expanded_array c.in_ok-expanded-in-Flat.expanded) (cast_signed w32 (cast_unsigned w32 c.args.sub)) c.args.value
    (subst IsHeld (sym same) held)
    (ap (λ a. excess a (cast_signed w32 (cast_unsigned w32 c.args.sub))) same ∙ ap (excess (kept_array c.args.self.now)) sub ∙ c.requires.fits)
    (subst (FitsSigned w32) (sym sub) c.ranges.sub)
    value)

pub returns-in-Elements-clause-kept : goal.returns-in-Elements-clause-kept
returns-in-Elements-clause-kept c =
    let value : IfSome c.args.value (FitsSigned w32) = search rules in
    let sub : cast_signed w32 (cast_unsigned w32 c.args.sub) ≡ c.args.sub = to_z-of_z w32 c.args.sub c.ranges.sub in
    let held : IsHeld (expanded_array c.in-Elements.expanded) = subst IsKept c.in-Elements.is c.requires.kept in
    held_after c.set-in-Elements.result (expanded_array c.in-Elements.expanded) (expanded_array c.set-in-Elements.new.self) (cast_signed w32 (cast_unsigned w32 c.args.sub)) c.args.value
    held
    (ap (λ k. excess (kept_array k) (cast_signed w32 (cast_unsigned w32 c.args.sub))) (sym c.in-Elements.is) ∙ ap (excess (kept_array c.args.self.now)) sub ∙ c.requires.fits)
    (subst (FitsSigned w32) (sym sub) c.ranges.sub)
    value c.set-in-Elements.ensures.ok c.set-in-Elements.ensures.err
