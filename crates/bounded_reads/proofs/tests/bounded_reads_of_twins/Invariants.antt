use Rattle.bounded_reads.proofs.tests.bounded_reads_of_twins.Given as goal

abbrev pub ghosts-plays_both : goal.ghosts-plays_both
ghosts-plays_both g a = record { name = a.blank.name; parts = a.blank.parts }
