-- Spellings of variables in the order of the text, with the collecting goals around them. The reader numbers spellings:
-- one number stands for one spelling.
use Rattle.std.specs.Prelude.{ℕ, List, [], ◌∷◌}
use Rattle.term_syntax.specs.Tree.{trees}
use Rattle.term_syntax.specs.Variables.{tree_variables, trees_variables}
use Rattle.akl_syntax.specs.Goals.{Goal, Goals, Part, Parts, call, choice, lifted, collect, lifted_collect, no_goals, more_goals, no_parts, more_parts, goals}
use Rattle.akl_syntax.specs.Clauses.{Clause, Query}
use Rattle.akl_syntax.specs.Variables.{collected_variables}

-- nothing; a spelling and what stands behind it; or a collecting goal: the spellings in the term that it collects, what
-- is inside of it, and what stands behind that
pub data Spellings : Type 0 where
  nothing : Spellings
  spelling : ℕ → Spellings → Spellings
  collecting : List ℕ → Spellings → Spellings → Spellings

-- these, and others behind them
abbrev pub both : Spellings → Spellings → Spellings
both nothing y = y
both (spelling n x) y = spelling n (both x y)
both (collecting ns inside x) y = collecting ns inside (both x y)

abbrev pub all_of : List ℕ → Spellings
all_of [] = nothing
all_of (n ∷ ns) = spelling n (all_of ns)

-- inside of a collecting goal are what it collects and its goals; its result is outside
abbrev mutual
  pub goal_spellings : Goal → Spellings
  goal_spellings (call s ts) = all_of (trees_variables ts)
  goal_spellings (choice ps) = parts_spellings ps
  goal_spellings (lifted n ns) = all_of ns
  goal_spellings (collect t gs r) = collecting (tree_variables t) (both (all_of (tree_variables t)) (goals_spellings gs)) (all_of (tree_variables r))
  goal_spellings (lifted_collect n ns r) = both (all_of ns) (all_of (tree_variables r))

  pub goals_spellings : Goals → Spellings
  goals_spellings no_goals = nothing
  goals_spellings (more_goals g gs) = both (goal_spellings g) (goals_spellings gs)

  pub parts_spellings : Parts → Spellings
  parts_spellings no_parts = nothing
  parts_spellings (more_parts gs op hs ps) = both (both (goals_spellings gs) (goals_spellings hs)) (parts_spellings ps)

abbrev pub part_spellings : Part → Spellings
part_spellings p = both (goals_spellings (goals p.guard)) (goals_spellings (goals p.body))

abbrev pub clause_spellings : Clause → Spellings
clause_spellings c = both (all_of (trees_variables (trees c.arguments))) (both (all_of (collected_variables c.collected)) (part_spellings c.part))

abbrev pub query_spellings : Query → Spellings
query_spellings q = goals_spellings (goals q.goals)
