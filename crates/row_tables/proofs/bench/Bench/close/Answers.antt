use Rattle.row_tables.proofs.bench.Bench.close.Goals as goal

pub returns : goal.returns
returns g c = record { ready = c.close_cursor-answered.ensures.keeps.ready }
