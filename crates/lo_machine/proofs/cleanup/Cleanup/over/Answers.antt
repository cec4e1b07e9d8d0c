use Rattle.std.proofs.Common.{◌≡◌, true, [], refl, ap, ◌∙◌}
use Rattle.orphan_sweep.specs.History.{begun}
use Rattle.orphan_sweep.specs.State.{State, state_of}
use Rattle.lo_machine.proofs.cleanup.Cleanup.over.Goals as goal

pub returns : goal.returns
returns c =
    let old : c.new-sweep.result ≡ state_of (begun true 0 [] []) = c.new-sweep.ensures ∙ rw (c.new.ensures, c.new-2.ensures) refl in
    let new = c.told.ensures (begun true 0 [] []) old in
    record { left = ap (λ (s : State). s.left) new; rest = ap (λ (s : State). s.rest) new }
