use Rattle.block_pool.proofs.tests.a_full_pool_takes_again_what_was_given.Given as goal

abbrev pub ghosts-takes_again : goal.ghosts-takes_again
ghosts-takes_again g a = record { name = a.blank.name; parts = a.blank.parts }
