use Rattle.row_tables.proofs.Beginning.{none_goes, none_stands}
use Rattle.row_tables.proofs.tables.Tables.new.Goals as goal

pub returns-clause-stand : goal.returns-clause-stand
returns-clause-stand c x = none_stands x (record { alloc = c.args.alloc; catalog = c.in_ok-new.field-0; rows = c.in_ok-new-2.field-0; chunks = c.in_ok-new-3.field-0; cursors = c.in_ok-new-4.field-0 }) c.in_ok-new-2.ensures.empty c.in_ok-new-3.ensures.none

pub returns-clause-goes : goal.returns-clause-goes
returns-clause-goes c x = none_goes x (record { alloc = c.args.alloc; catalog = c.in_ok-new.field-0; rows = c.in_ok-new-2.field-0; chunks = c.in_ok-new-3.field-0; cursors = c.in_ok-new-4.field-0 }) c.in_ok-new-2.ensures.empty c.in_ok-new-3.ensures.none (c.in_ok-new-2.ensures.goes x) (c.in_ok-new-3.ensures.goes x)
