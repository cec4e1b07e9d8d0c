use Rattle.lo_restore.proofs.RestoredRows.{tables_fit, tables_given}
use Rattle.lo_restore.proofs.RestoredTables.{can_save}
use Rattle.lo_restore.proofs.tables_law.restored_tables_stand.Goals as goal

pub returns : goal.returns
returns c = record { same = tables_given; fit = tables_fit; saved = can_save }
