-- Which variables occur in terms, in the order of the text.
use Rattle.std.specs.Prelude.{ℕ, List, [], ◌∷◌, ◌++◌}
use Rattle.term_syntax.specs.Tree.{Tree, Trees, Tail, Steps, variable, integer, compound, list, chain, no_trees, more_trees, no_tail, tail, no_steps, more_steps}

abbrev mutual
  pub tree_variables : Tree → List ℕ
  tree_variables (variable n) = n ∷ []
  tree_variables (integer z) = []
  tree_variables (compound s ts) = trees_variables ts
  tree_variables (list ts e) = trees_variables ts ++ tail_variables e
  tree_variables (chain t ss) = tree_variables t ++ steps_variables ss

  pub trees_variables : Trees → List ℕ
  trees_variables no_trees = []
  trees_variables (more_trees t ts) = tree_variables t ++ trees_variables ts

  pub tail_variables : Tail → List ℕ
  tail_variables no_tail = []
  tail_variables (tail t) = tree_variables t

  pub steps_variables : Steps → List ℕ
  steps_variables no_steps = []
  steps_variables (more_steps w t ss) = tree_variables t ++ steps_variables ss
