use Rattle.scheduler.proofs.scheduler.open_places.Given as goal

abbrev pub ghosts-open_placed : goal.ghosts-open_placed
ghosts-open_placed a = record { name = a.blank.name; parts = a.blank.parts }
