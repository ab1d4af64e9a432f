-- How many terms, goals and clauses there are together.
use Rattle.std.specs.Prelude.{ℕ, suc, ◌+◌, List, [], ◌∷◌, length, Option, Some, None}
use Rattle.term_syntax.specs.Tree.{Tree, trees}
use Rattle.term_syntax.specs.Sizes.{tree_size, trees_size}
use Rattle.akl_syntax.specs.Goals.{Goal, Goals, Parts, call, choice, lifted, collect, lifted_collect, no_goals, more_goals, no_parts, more_parts, goals}
use Rattle.akl_syntax.specs.Clauses.{Clause, Query}

-- each argument of a lifted call counts as a term
abbrev mutual
  pub goal_size : Goal → ℕ
  goal_size (call s ts) = suc (trees_size ts)
  goal_size (choice ps) = suc (parts_size ps)
  goal_size (lifted n ns) = suc (length ns)
  goal_size (collect t gs r) = suc (tree_size t + (goals_size gs + tree_size r))
  goal_size (lifted_collect n ns r) = suc (length ns + tree_size r)

  pub goals_size : Goals → ℕ
  goals_size no_goals = 0
  goals_size (more_goals g gs) = goal_size g + goals_size gs

  pub parts_size : Parts → ℕ
  parts_size no_parts = 0
  parts_size (more_parts gs op hs ps) = goals_size gs + goals_size hs + parts_size ps

abbrev pub collected_size : Option Tree → ℕ
collected_size None = 0
collected_size (Some t) = tree_size t

abbrev pub clause_size : Clause → ℕ
clause_size c = suc (trees_size (trees c.arguments) + (collected_size c.collected + (goals_size (goals c.part.guard) + goals_size (goals c.part.body))))

abbrev pub clauses_size : List Clause → ℕ
clauses_size [] = 0
clauses_size (c ∷ cs) = clause_size c + clauses_size cs

abbrev pub query_size : Query → ℕ
query_size q = goals_size (goals q.goals)
