-- Terms as they are written.
use Rattle.std.specs.Prelude.{ℕ, ℤ, List, [], ◌∷◌}

-- a variable, an integer, a symbol with its arguments, a list with its items and its tail, an operand with more behind it
mutual
  pub data Tree : Type 0 where
    variable : ℕ → Tree
    integer : ℤ → Tree
    compound : List ℕ → Trees → Tree
    list : Trees → Tail → Tree
    chain : Tree → Steps → Tree

  pub data Trees : Type 0 where
    no_trees : Trees
    more_trees : Tree → Trees → Trees

  pub data Tail : Type 0 where
    no_tail : Tail
    tail : Tree → Tail

  pub data Steps : Type 0 where
    no_steps : Steps
    more_steps : List ℕ → Tree → Steps → Steps

-- an operator and the operand behind it
pub record Step : Type 0 where
  pub symbol : List ℕ
  pub right : Tree

abbrev pub trees : List Tree → Trees
trees [] = no_trees
trees (t ∷ ts) = more_trees t (trees ts)

abbrev pub steps : List Step → Steps
steps [] = no_steps
steps (s ∷ ss) = more_steps s.symbol s.right (steps ss)
