use Rattle.redpile_top.proofs.commands.save.Given as goal

abbrev pub ghosts-saved : goal.ghosts-saved
ghosts-saved g a = record { name = a.blank.name; parts = a.blank.parts }
