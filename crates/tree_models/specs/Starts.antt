-- Terms and variables from which a graph is built.
use Rattle.std.specs.Prelude.{ℕ, List, [], ◌∷◌, ⊤}
use Rattle.akl_terms.specs.declared.term.Node.{Node}
use Rattle.akl_terms.specs.declared.term.Seen.{Seen}
use Rattle.akl_terms.specs.Tree.{Tree, variable}
use Rattle.akl_terms.specs.Template.{Template, tree}
use Rattle.term_graph.specs.Building.{IsEndAt}
use Rattle.tree_models.specs.declared.starts.Start.{Start}

abbrev pub start_tree : List Node → Start → Tree
start_tree nodes (Start.Term t) = tree nodes t
start_tree nodes (Start.Variable x) = variable x

-- the nodes of what stands for these terms, in order
abbrev pub AreNodesOf : Template → (Tree → Tree) → List Seen → List Tree → List ℕ → Type 0
AreNodesOf t go seens [] [] = ⊤
AreNodesOf t go seens (u ∷ us) (i ∷ is) = IsEndAt t go seens i u × AreNodesOf t go seens us is
AreNodesOf t go seens _ _ = ⊥
