use Rattle.plain_machine.proofs.tests.is_plain.Given as goal

abbrev pub ghosts-plays : goal.ghosts-plays
ghosts-plays a = record { name = a.blank.name; parts = a.blank.parts }
