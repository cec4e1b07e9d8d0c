use Rattle.std.proofs.Common.{◌≤◌, sym, subst}
use Rattle.expanded_array.specs.Kept.{IsKept, IsRead, expanded_array, flat_array}
use Rattle.expanded_array.proofs.Written.{flat_few}
use Rattle.expanded_array.proofs.array_var.ArrayVar.flat_len.Goals as goal

pub returns-in-Flat-clause-few : goal.returns-in-Flat-clause-few
returns-in-Flat-clause-few c =
    let read : IsRead c.in-Flat.flat = subst IsKept c.in-Flat.is c.self.invariant in
    subst (λ n. n ≤ 4325392) (sym c.flat_len.ensures) (flat_few (flat_array c.in-Flat.flat) read.held)

pub returns-in-Elements-clause-few : goal.returns-in-Elements-clause-few
returns-in-Elements-clause-few c =
    subst (λ n. n ≤ 4325392) (sym c.flat_len-in-Elements.ensures) (flat_few (expanded_array c.in-Elements.expanded) (subst IsKept c.in-Elements.is c.self.invariant))
