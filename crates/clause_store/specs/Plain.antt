-- The plain terms that written terms stand for: lists are cells, and sums and products are symbols over two operands.
use Rattle.std.specs.Prelude.{ℕ, ℤ, List, codes}
use Rattle.term_syntax.specs.Tree.{Tree, Trees, Tail, Steps, no_trees, more_trees, no_tail, no_steps, more_steps}
use Rattle.term_syntax.specs.Tree as written

-- a variable by its number, an integer, a symbol with its arguments
mutual
  pub data Plain : Type 0 where
    variable : ℕ → Plain
    integer : ℤ → Plain
    compound : List ℕ → Plains → Plain

  pub data Plains : Type 0 where
    no_plains : Plains
    more_plains : Plain → Plains → Plains

abbrev pub two : Plain → Plain → Plains
two s t = more_plains s (more_plains t no_plains)

-- the empty list
abbrev pub empty_list : Plain
empty_list = compound (codes "[]") no_plains

-- a list's cell, over its first item and what is behind it
abbrev pub cell : Plain → Plain → Plain
cell item rest = compound (codes ".") (two item rest)

abbrev mutual
  pub plain : Tree → Plain
  plain (written.variable n) = variable n
  plain (written.integer z) = integer z
  plain (written.compound s ts) = compound s (plains ts)
  plain (written.list ts e) = cells ts (plain_tail e)
  plain (written.chain t ss) = from_left (plain t) ss

  pub plains : Trees → Plains
  plains no_trees = no_plains
  plains (more_trees t ts) = more_plains (plain t) (plains ts)

  -- a cell for each item, and what is behind the last
  pub cells : Trees → Plain → Plain
  cells no_trees rest = rest
  cells (more_trees t ts) rest = cell (plain t) (cells ts rest)

  pub plain_tail : Tail → Plain
  plain_tail no_tail = empty_list
  plain_tail (written.tail t) = plain t

  -- operators associate to the left
  pub from_left : Plain → Steps → Plain
  from_left left no_steps = left
  from_left left (more_steps w t ss) = from_left (compound w (two left (plain t))) ss
