use Rattle.plain_machine.proofs.tests.runs.Given as goal

abbrev pub ghosts-plays : goal.ghosts-plays
ghosts-plays a = record { name = a.blank.name; parts = a.blank.parts }
