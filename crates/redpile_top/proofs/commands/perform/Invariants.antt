use Rattle.redpile_top.proofs.commands.perform.Given as goal

abbrev pub ghosts-run_compiled : goal.ghosts-run_compiled
ghosts-run_compiled g a = record { name = a.blank.name; parts = a.blank.parts }
