use Rattle.orphan_sweep.proofs.Endings.{leaves_fewer}
use Rattle.orphan_sweep.proofs.law.sweeps_end.Goals as goal

pub returns : goal.returns
returns c = record { fewer = leaves_fewer }
