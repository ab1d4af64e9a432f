-- What is left of terms, goals and clauses without the numbers of their variables.
use Rattle.std.specs.Prelude.{ℕ, List, [], map, Option, option_map}
use Rattle.term_syntax.specs.Tree.{Tree, Trees, Tail, Steps, variable, integer, compound, list, chain, no_trees, more_trees, no_tail, tail, no_steps, more_steps}
use Rattle.akl_syntax.specs.Goals.{Goal, Goals, Part, Parts, call, choice, lifted, collect, lifted_collect, no_goals, more_goals, no_parts, more_parts, goals}
use Rattle.akl_syntax.specs.Clauses.{Clause, Query}

-- each variable has the number 0
abbrev pub numbers_shape : List ℕ → List ℕ
numbers_shape ns = map (λ n. 0) ns

abbrev mutual
  pub tree_shape : Tree → Tree
  tree_shape (variable n) = variable 0
  tree_shape (integer z) = integer z
  tree_shape (compound s ts) = compound s (trees_shape ts)
  tree_shape (list ts e) = list (trees_shape ts) (tail_shape e)
  tree_shape (chain t ss) = chain (tree_shape t) (steps_shape ss)

  pub trees_shape : Trees → Trees
  trees_shape no_trees = no_trees
  trees_shape (more_trees t ts) = more_trees (tree_shape t) (trees_shape ts)

  pub tail_shape : Tail → Tail
  tail_shape no_tail = no_tail
  tail_shape (tail t) = tail (tree_shape t)

  pub steps_shape : Steps → Steps
  steps_shape no_steps = no_steps
  steps_shape (more_steps w t ss) = more_steps w (tree_shape t) (steps_shape ss)

abbrev mutual
  pub goal_shape : Goal → Goal
  goal_shape (call s ts) = call s (trees_shape ts)
  goal_shape (choice ps) = choice (parts_shape ps)
  goal_shape (lifted n ns) = lifted n (numbers_shape ns)
  goal_shape (collect t gs r) = collect (tree_shape t) (goals_shape gs) (tree_shape r)
  goal_shape (lifted_collect n ns r) = lifted_collect n (numbers_shape ns) (tree_shape r)

  pub goals_shape : Goals → Goals
  goals_shape no_goals = no_goals
  goals_shape (more_goals g gs) = more_goals (goal_shape g) (goals_shape gs)

  pub parts_shape : Parts → Parts
  parts_shape no_parts = no_parts
  parts_shape (more_parts gs op hs ps) = more_parts (goals_shape gs) op (goals_shape hs) (parts_shape ps)

abbrev pub part_shape : Part → Part
part_shape p = record p { guard = map goal_shape p.guard; body = map goal_shape p.body }

abbrev pub collected_shape : Option Tree → Option Tree
collected_shape o = option_map tree_shape o

-- without the names of the variables too
abbrev pub clause_shape : Clause → Clause
clause_shape c = record c { arguments = map tree_shape c.arguments; part = part_shape c.part; collected = collected_shape c.collected; names = [] }

abbrev pub query_shape : Query → Query
query_shape q = record { goals = map goal_shape q.goals; names = [] }
