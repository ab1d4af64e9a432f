-- Which variables occur in what is written, in the order of the text.
use Rattle.std.specs.Prelude.{ℕ, ⊤, List, [], ◌∷◌, ◌++◌, Option, Some, None}
use Rattle.akl_lexemes.specs.Occurrences.{AreNumbered}
use Rattle.term_syntax.specs.Tree.{Tree, trees}
use Rattle.term_syntax.specs.Variables.{tree_variables, trees_variables}
use Rattle.akl_syntax.specs.Goals.{Goal, Goals, Parts, call, choice, lifted, collect, lifted_collect, no_goals, more_goals, no_parts, more_parts, goals}
use Rattle.akl_syntax.specs.Clauses.{Clause, Query}

abbrev mutual
  pub goal_variables : Goal → List ℕ
  goal_variables (call s ts) = trees_variables ts
  goal_variables (choice ps) = parts_variables ps
  goal_variables (lifted n ns) = ns
  goal_variables (collect t gs r) = tree_variables t ++ (goals_variables gs ++ tree_variables r)
  goal_variables (lifted_collect n ns r) = ns ++ tree_variables r

  pub goals_variables : Goals → List ℕ
  goals_variables no_goals = []
  goals_variables (more_goals g gs) = goal_variables g ++ goals_variables gs

  pub parts_variables : Parts → List ℕ
  parts_variables no_parts = []
  parts_variables (more_parts gs op hs ps) = (goals_variables gs ++ goals_variables hs) ++ parts_variables ps

abbrev pub collected_variables : Option Tree → List ℕ
collected_variables None = []
collected_variables (Some t) = tree_variables t

abbrev pub clause_variables : Clause → List ℕ
clause_variables c = trees_variables (trees c.arguments) ++ (collected_variables c.collected ++ (goals_variables (goals c.part.guard) ++ goals_variables (goals c.part.body)))

abbrev pub query_variables : Query → List ℕ
query_variables q = goals_variables (goals q.goals)

abbrev pub IsClauseNumbered : Clause → Type 0
IsClauseNumbered c = AreNumbered (clause_variables c) c.names

abbrev pub AreClausesNumbered : List Clause → Type 0
AreClausesNumbered [] = ⊤
AreClausesNumbered (c ∷ cs) = IsClauseNumbered c × AreClausesNumbered cs

abbrev pub IsQueryNumbered : Query → Type 0
IsQueryNumbered q = AreNumbered (query_variables q) q.names
