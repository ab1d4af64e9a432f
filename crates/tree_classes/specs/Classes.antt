-- The classes of a graph's nodes, and what they say of its trees.
use Rattle.std.specs.Prelude.{◌≡◌, ◌<◌, ℕ, List, [], length, map, get_or}
use Rattle.akl_terms.specs.Tree.{Tree}
use Rattle.answer_text.specs.BuiltGraph.{at_node, IsCoarsest, IsCertified}
use Rattle.cycle_marks.specs.Components.{Marks, rank_of, is_cyclic}

-- for each node the first one of its class, and the components of the classes
pub record ClassesValue : Type 0 where
  pub blocks : List ℕ
  pub marks : Marks

-- whatever terms stand at the nodes, the classes are the coarsest that refine how nodes begin, and the marks tell which of them come back to themselves
pub record AreClasses (rows : List (List ℕ)) (tops : List ℕ) (c : ClassesValue) : Type 0 where
  pub size : length c.blocks ≡ length rows
  pub first : (i : ℕ) → i < length rows → at_node c.blocks (at_node c.blocks i) ≡ at_node c.blocks i
  pub coarsest : (terms : List Tree) → length terms ≡ length rows → IsCoarsest (record { terms = terms; children = rows }) tops c.blocks
  pub certified : (terms : List Tree) → length terms ≡ length rows → IsCertified (record { terms = terms; children = rows }) (at_node c.blocks) (rank_of c.marks) (is_cyclic c.marks)

-- for the nodes before this one the blocks of their rows
pub record AreBlockRows (rows : List (List ℕ)) (blocks : List ℕ) (among : List (List ℕ)) (n : ℕ) : Type 0 where
  pub size : length among ≡ n
  pub row : (i : ℕ) → i < n → get_or among i [] ≡ map (λ j. get_or blocks j 0) (get_or rows i [])
