use Rattle.engine_tests.proofs.machine.first_tick_of_twins.Given as goal

abbrev pub ghosts-goes_off : goal.ghosts-goes_off
ghosts-goes_off g a = record { name = a.blank.name; parts = a.blank.parts }
