-- Variables by their places in an order.
use Rattle.std.specs.Prelude.{◌==◌, ℕ, List, unwrap_or}
use Rattle.std.specs.List.{position}
use Rattle.term_syntax.specs.Tree.{Tree, Trees, Tail, Steps, variable, integer, compound, list, chain, no_trees, more_trees, no_tail, tail, no_steps, more_steps}

-- the place of a variable in an order; one that isn't there keeps its number
abbrev pub place : List ℕ → ℕ → ℕ
place order v = unwrap_or (position (λ n. n == v) order) v

abbrev pub placed_variable : List ℕ → ℕ → Tree
placed_variable order v = variable (place order v)

-- a term whose variables go by their places
abbrev mutual
  pub placed_tree : List ℕ → Tree → Tree
  placed_tree order (variable n) = variable (place order n)
  placed_tree order (integer z) = integer z
  placed_tree order (compound s ts) = compound s (placed_trees order ts)
  placed_tree order (list ts e) = list (placed_trees order ts) (placed_tail order e)
  placed_tree order (chain t ss) = chain (placed_tree order t) (placed_steps order ss)

  pub placed_trees : List ℕ → Trees → Trees
  placed_trees order no_trees = no_trees
  placed_trees order (more_trees t ts) = more_trees (placed_tree order t) (placed_trees order ts)

  pub placed_tail : List ℕ → Tail → Tail
  placed_tail order no_tail = no_tail
  placed_tail order (tail t) = tail (placed_tree order t)

  pub placed_steps : List ℕ → Steps → Steps
  placed_steps order no_steps = no_steps
  placed_steps order (more_steps w t ss) = more_steps w (placed_tree order t) (placed_steps order ss)
