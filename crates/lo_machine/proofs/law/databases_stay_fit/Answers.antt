use Rattle.lo_machine.specs.Run.{start}
use Rattle.lo_machine.proofs.FitOpenings.{fit_opened}
use Rattle.lo_machine.proofs.FitRuns.{both_from}
use Rattle.lo_machine.proofs.FitStates.{fit_after}
use Rattle.lo_machine.proofs.FitViews.{committed_fits, fit_start}
use Rattle.lo_machine.proofs.NewServer.{well_start}
use Rattle.lo_machine.proofs.law.databases_stay_fit.Goals as goal

pub returns-clause-begins : goal.returns-clause-begins
returns-clause-begins c = fit_start

pub returns-clause-stays : goal.returns-clause-stays
returns-clause-stays c = λ st s r served ranges well fit. fit_after st s r served ranges well fit

pub returns-clause-runs : goal.returns-clause-runs
returns-clause-runs c = λ programs schedule served ranged. (both_from programs schedule start served ranged (record { well = well_start; fit = fit_start })).fit

pub returns-clause-resumes : goal.returns-clause-resumes
returns-clause-resumes c = λ opening fit. fit_opened opening fit

pub returns-clause-opens : goal.returns-clause-opens
returns-clause-opens c = λ st blocks well fit. committed_fits st well fit blocks
