use Rattle.redpile_top.proofs.commands.bench.Given as goal

abbrev pub ghosts-summary : goal.ghosts-summary
ghosts-summary g a = record { name = a.blank.name; parts = a.blank.parts }
