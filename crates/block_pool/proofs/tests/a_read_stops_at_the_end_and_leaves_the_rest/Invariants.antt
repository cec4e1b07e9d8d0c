use Rattle.block_pool.proofs.tests.a_read_stops_at_the_end_and_leaves_the_rest.Given as goal

abbrev pub ghosts-reads : goal.ghosts-reads
ghosts-reads g a = record { name = a.blank.name; parts = a.blank.parts }
