use Rattle.lo_image.proofs.WritingLaws.{nothing_given, step, stop, last, fails}
use Rattle.lo_image.proofs.put_tables.put_table.Goals as goal

pub returns-in_err-put_name-clause-puts : goal.returns-in_err-put_name-clause-puts
returns-in_err-put_name-clause-puts g c = fails _ c.from_residual.result c.from_residual.ensures.1 (stop _ _ (nothing_given _ _ _) (rw c.items.ensures at c.in_err-put_name.ensures))

pub returns-in_err-put-clause-puts : goal.returns-in_err-put-clause-puts
returns-in_err-put-clause-puts g c = fails _ c.from_residual-in_err-put.result c.from_residual-in_err-put.ensures.1 (stop _ _ (step _ _ (nothing_given _ _ _) (rw c.items.ensures at c.in_ok-put_name.ensures)) (rw c.items-columns.ensures at c.in_err-put.ensures))

pub returns-in_err-put_columns-clause-puts : goal.returns-in_err-put_columns-clause-puts
returns-in_err-put_columns-clause-puts g c = fails _ c.from_residual-in_err-put_columns.result c.from_residual-in_err-put_columns.ensures.1 (stop _ _ (step _ _ (step _ _ (nothing_given _ _ _) (rw c.items.ensures at c.in_ok-put_name.ensures)) (rw c.items-columns.ensures at c.in_ok-put.ensures)) (rw c.items-columns.ensures at c.in_err-put_columns.ensures))

pub returns-in_err-put_u64-clause-puts : goal.returns-in_err-put_u64-clause-puts
returns-in_err-put_u64-clause-puts g c = fails _ c.from_residual-in_err-put_u64.result c.from_residual-in_err-put_u64.ensures.1 (stop _ _ (step _ _ (step _ _ (step _ _ (nothing_given _ _ _) (rw c.items.ensures at c.in_ok-put_name.ensures)) (rw c.items-columns.ensures at c.in_ok-put.ensures)) (rw c.items-columns.ensures at c.in_ok-put_columns.ensures)) (rw c.items-rows.ensures at c.in_err-put_u64.ensures))

pub returns-clause-puts : goal.returns-clause-puts
returns-clause-puts g c = last _ _ c.put_rows.result (step _ _ (step _ _ (step _ _ (step _ _ (nothing_given _ _ _) (rw c.items.ensures at c.in_ok-put_name.ensures)) (rw c.items-columns.ensures at c.in_ok-put.ensures)) (rw c.items-columns.ensures at c.in_ok-put_columns.ensures)) (rw c.items-rows.ensures at c.in_ok-put_u64.ensures)) (rw (c.items-columns.ensures, c.items-rows.ensures) at c.put_rows.ensures.puts)
