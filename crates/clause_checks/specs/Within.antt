-- The goals of a clause or a query in the order of the text, those inside of others too.
use Rattle.std.specs.Prelude.{List, [], ◌∷◌, ◌++◌}
use Rattle.akl_syntax.specs.Goals.{Goal, Goals, Parts, call, choice, lifted, collect, lifted_collect, no_goals, more_goals, no_parts, more_parts, goals}
use Rattle.akl_syntax.specs.Clauses.{Clause, Query}

abbrev mutual
  pub goals_of : Goal → List Goal
  goals_of (call s ts) = call s ts ∷ []
  goals_of (choice ps) = choice ps ∷ goals_of_parts ps
  goals_of (lifted n ns) = lifted n ns ∷ []
  goals_of (collect t gs r) = collect t gs r ∷ goals_of_all gs
  goals_of (lifted_collect n ns r) = lifted_collect n ns r ∷ []

  pub goals_of_all : Goals → List Goal
  goals_of_all no_goals = []
  goals_of_all (more_goals g gs) = goals_of g ++ goals_of_all gs

  pub goals_of_parts : Parts → List Goal
  goals_of_parts no_parts = []
  goals_of_parts (more_parts gs op hs ps) = (goals_of_all gs ++ goals_of_all hs) ++ goals_of_parts ps

abbrev pub goals_in : Clause → List Goal
goals_in c = goals_of_all (goals c.part.guard) ++ goals_of_all (goals c.part.body)

abbrev pub goals_asked : Query → List Goal
goals_asked q = goals_of_all (goals q.goals)
