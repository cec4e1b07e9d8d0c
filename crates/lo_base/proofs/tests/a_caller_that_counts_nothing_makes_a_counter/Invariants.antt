use Rattle.lo_base.proofs.tests.a_caller_that_counts_nothing_makes_a_counter.Given as goal

abbrev pub ghosts-count_two : goal.ghosts-count_two
ghosts-count_two a = record { name = a.blank.name; parts = a.blank.parts }
