use Rattle.row_versions.proofs.Vacuuming.{reclaimed_found, reclaimed_stack, reclaimed_puts, reclaimed_any_open}
use Rattle.row_versions.proofs.Laws.{standing_vacuumed}
use Rattle.row_versions.proofs.Counting.{reclaimed_few, left_is_held}
use Rattle.row_versions.proofs.law.vacuum_keeps.Goals as goal

pub returns-clause-leaves : goal.returns-clause-leaves
returns-clause-leaves g c = standing_vacuumed

pub returns-clause-finds : goal.returns-clause-finds
returns-clause-finds g c = reclaimed_found

pub returns-clause-open : goal.returns-clause-open
returns-clause-open g c = reclaimed_any_open

pub returns-clause-stack : goal.returns-clause-stack
returns-clause-stack g c = reclaimed_stack

pub returns-clause-puts : goal.returns-clause-puts
returns-clause-puts g c = reclaimed_puts

pub returns-clause-held : goal.returns-clause-held
returns-clause-held g c = left_is_held

pub returns-clause-few : goal.returns-clause-few
returns-clause-few g c = reclaimed_few
