-- How many terms there are together.
use Rattle.std.specs.Prelude.{ℕ, suc, ◌+◌}
use Rattle.term_syntax.specs.Tree.{Tree, Trees, Tail, Steps, variable, integer, compound, list, chain, no_trees, more_trees, no_tail, tail, no_steps, more_steps}

abbrev mutual
  pub tree_size : Tree → ℕ
  tree_size (variable n) = 1
  tree_size (integer z) = 1
  tree_size (compound s ts) = suc (trees_size ts)
  tree_size (list ts e) = suc (trees_size ts + tail_size e)
  tree_size (chain t ss) = suc (tree_size t + steps_size ss)

  pub trees_size : Trees → ℕ
  trees_size no_trees = 0
  trees_size (more_trees t ts) = tree_size t + trees_size ts

  pub tail_size : Tail → ℕ
  tail_size no_tail = 0
  tail_size (tail t) = tree_size t

  pub steps_size : Steps → ℕ
  steps_size no_steps = 0
  steps_size (more_steps w t ss) = tree_size t + steps_size ss
