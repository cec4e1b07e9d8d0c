use Rattle.lo_restore.proofs.TablesBegin.{tables_begun}
use Rattle.lo_machine.proofs.loading.loaded_tables.Goals as goal

pub restore_tables-requires-clause-none : goal.restore_tables-requires-clause-none
restore_tables-requires-clause-none c =
    let x = c.args.core.now.xacts in
    let made = c.in_ok-tables.ensures in
    tables_begun c.args.s x c.requires.begun c.in_ok-tables.tables made.none (made.stand x) (made.goes x) (made.open x) made.cursors
