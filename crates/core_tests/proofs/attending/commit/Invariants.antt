use Rattle.core_tests.proofs.attending.commit.Given as goal

abbrev pub ghosts-commit_by : goal.ghosts-commit_by
ghosts-commit_by a = record { name = a.blank.name; parts = a.blank.parts }
