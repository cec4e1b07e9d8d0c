use Rattle.block_pool.proofs.tests.a_block_of_2048_bytes_is_read_to_its_end.Given as goal

abbrev pub ghosts-reads : goal.ghosts-reads
ghosts-reads g a = record { name = a.blank.name; parts = a.blank.parts }
