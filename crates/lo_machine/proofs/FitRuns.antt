-- States stay well and fit through a whole run of programs whose requests are served, and whose numbers and bytes have the ranges
-- of their types.
use Rattle.std.proofs.Common.{ℕ, List, [], ◌∷◌, Option, Some, None}
use Rattle.std.specs.Prelude.{IfSome}
use Rattle.lo_base.specs.declared.request.Request.{Request}
use Rattle.lo_machine.specs.Fitting.{AreRanged, HasKeptRanges, IsFit}
use Rattle.lo_machine.specs.Run.{Moment, end_from, moment_after, next_line}
use Rattle.lo_machine.specs.Served.{AreServed, IsRanged, IsServed}
use Rattle.lo_machine.specs.State.{State}
use Rattle.lo_machine.specs.Well.{IsWell}
use Rattle.lo_machine.proofs.FitStates.{fit_after}
use Rattle.lo_machine.proofs.Orders.{line_has}
use Rattle.lo_machine.proofs.WellStates.{well_after}

pub record IsWellAndFit (st : State) : Type 0 where
  pub well : IsWell st
  pub fit : IsFit st

both_after : (m : Moment) (s : ℕ) (line : Option Request) → IfSome line IsServed → IfSome line (λ r. IsRanged r × HasKeptRanges r) → IsWellAndFit m.state → IsWellAndFit (moment_after m s line).state
both_after m s None served ranged before = before
both_after m s (Some r) served ranged before = record {
  well = well_after m.state s r served ranged.0 before.well;
  fit = fit_after m.state s r served ranged.1 before.well before.fit;
}

pub both_from : (programs : List (List Request)) (schedule : List ℕ) (m : Moment) → AreServed programs → AreRanged programs → IsWellAndFit m.state → IsWellAndFit (end_from programs m schedule).state
both_from programs [] m served ranged before = before
both_from programs (s ∷ schedule) m served ranged before =
    both_from programs schedule (moment_after m s (next_line programs m s)) served ranged
    (both_after m s (next_line programs m s) (line_has IsServed programs m s served) (line_has (λ r. IsRanged r × HasKeptRanges r) programs m s ranged) before)
