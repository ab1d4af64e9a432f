use Rattle.base_tests.proofs.terms.names_are_ordered_and_steps_take_no_room.Given as goal

abbrev pub ghosts-two_steps : goal.ghosts-two_steps
ghosts-two_steps g a = record { name = a.blank.name; parts = a.blank.parts }
