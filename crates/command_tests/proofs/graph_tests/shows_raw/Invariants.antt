use Rattle.command_tests.proofs.graph_tests.shows_raw.Given as goal

abbrev pub ghosts-plays_raw : goal.ghosts-plays_raw
ghosts-plays_raw g a = record { name = a.blank.name; parts = a.blank.parts }
