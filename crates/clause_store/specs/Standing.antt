-- What the functions of this crate promise each other about nodes. No public clause speaks of it.
use Rattle.std.specs.Prelude.{◌≡◌, ◌≤◌, ◌+◌, ◌*◌, ℕ, zero, suc, ℤ, List, length, slice_get, Some}
use Rattle.akl_terms.specs.declared.term.Node.{Node}
use Rattle.akl_terms.specs.Template.{Template}
use Rattle.term_syntax.specs.Tree as written
use Rattle.term_syntax.specs.Sizes.{tree_size, trees_size, tail_size}
use Rattle.clause_store.specs.Plain.{Plain, Plains, variable, integer, compound, no_plains, more_plains, plain, plains, plain_tail}
use Rattle.clause_store.specs.Nodes.{Extends}

mutual
  -- a node that may stand behind the template's nodes stands for a plain term
  pub data Stands (t : Template) : Node → Plain → Type 0 where
    stands_variable : {i : ℕ} → Stands t (Node.Var i) (variable i)
    stands_integer : {z : ℤ} → Stands t (Node.Int z) (integer z)
    stands_compound : {s first count : ℕ} {w : List ℕ} {ps : Plains} → slice_get t.symbols s ≡ Some w → StandAt t first count ps
        → Stands t (Node.Struct s first count) (compound w ps)

  -- so many neighbouring nodes stand for plain terms
  pub data StandAt (t : Template) : ℕ → ℕ → Plains → Type 0 where
    stand_none : {first : ℕ} → first ≤ length t.nodes → StandAt t first zero no_plains
    stand_more : {first count : ℕ} {n : Node} {p : Plain} {ps : Plains} → slice_get t.nodes first ≡ Some n → Stands t n p
        → StandAt t (suc first) count ps → StandAt t first (suc count) (more_plains p ps)

-- the node of this number stands for a written term
pub record StandsAt (t : Template) (at : ℕ) (s : written.Tree) : Type 0 where
  pub node : Node
  pub there : slice_get t.nodes at ≡ Some node
  pub stands : Stands t node (plain s)

-- what is of a size can be put behind the templates' nodes
pub record HasRoom (t : Template) (size : ℕ) : Type 0 where
  pub nodes : length t.nodes + 4 * size ≤ 4294967295
  pub symbols : length t.symbols + 4 * size ≤ 4294967295

-- templates grow by at most four nodes and four symbols for each part of a size, less those that are spared
pub record Gains (size spared : ℕ) (old new : Template) : Type 0 where
  pub extends : Extends old new
  pub nodes : length new.nodes + spared ≤ length old.nodes + 4 * size
  pub symbols : length new.symbols + spared ≤ length old.symbols + 4 * size

-- what the written term needs was put, and the node stands for it
pub record IsPut (old new : Template) (n : Node) (s : written.Tree) : Type 0 where
  pub stands : Stands new n (plain s)
  pub gains : Gains (tree_size s) 2 old new

-- what stands behind the last item of a list was put, and the node stands for it
pub record IsEnd (old new : Template) (n : Node) (e : written.Tail) : Type 0 where
  pub stands : Stands new n (plain_tail e)
  pub gains : Gains (suc (tail_size e)) 3 old new

-- the nodes of written terms were put as neighbours
pub record ArePut (old new : Template) (first count : ℕ) (ss : written.Trees) : Type 0 where
  pub stand : StandAt new first count (plains ss)
  pub gains : Gains (trees_size ss) 0 old new
