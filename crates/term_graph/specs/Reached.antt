-- What is reached from terms, step by step.
use Rattle.std.specs.Prelude.{◌≡◌, ℕ, List, Some, slice_get}
use Rattle.akl_terms.specs.declared.term.Seen.{Seen}
use Rattle.akl_terms.specs.Tree.{Tree, arguments}
use Rattle.akl_terms.specs.Template.{Template}
use Rattle.term_graph.specs.Building.{seen_tree, BeginsSo}

-- what stands for one of these terms, or for an argument of what is reached
pub data IsReached (go : Tree → Tree) (terms : List Tree) : Tree → Type 0 where
  at_start : {u : Tree} (k : ℕ) → slice_get terms k ≡ Some u → IsReached go terms (go u)
  below : {v a : Tree} (k : ℕ) → IsReached go terms v → slice_get (arguments v) k ≡ Some a → IsReached go terms (go a)

-- each node is reached
abbrev pub AreReached : Template → (Tree → Tree) → List Tree → List Seen → Type 0
AreReached t go terms seens = (i : ℕ) (seen : Seen) → BeginsSo seens i seen → IsReached go terms (seen_tree t.nodes seen)

-- from wherever the nodes are reached, so are those that were added
abbrev pub KeepsReached : Template → (Tree → Tree) → List Seen → List Seen → Type 0
KeepsReached t go old new = (terms : List Tree) → AreReached t go terms old → AreReached t go terms new

-- and where this is reached as well
abbrev pub Reaches : Template → (Tree → Tree) → Tree → List Seen → List Seen → Type 0
Reaches t go v old new = (terms : List Tree) → IsReached go terms v → AreReached t go terms old → AreReached t go terms new
