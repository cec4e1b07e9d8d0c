use Rattle.row_tables.proofs.Ends.{none_open}
use Rattle.row_tables.proofs.cursors.Cursors.new.Goals as goal

pub returns-clause-open : goal.returns-clause-open
returns-clause-open c x = none_open x (record { entries = c.new.result }) c.new.ensures.items
