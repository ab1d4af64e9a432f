-- The graph of terms, in the words of the text of answers.
use Rattle.std.specs.Prelude.{◌≡◌, ℕ, List, map}
use Rattle.akl_terms.specs.declared.term.Seen.{Seen}
use Rattle.akl_terms.specs.Tree.{Tree}
use Rattle.akl_terms.specs.Template.{Template}
use Rattle.answer_text.specs.Graph.{Graph, HasNames}
use Rattle.answer_text.specs.BuiltGraph.{at_node, BeginAlike, IsBuilt}
use Rattle.term_graph.specs.Building.{seen_tree, BeginsSo}

abbrev pub graph_of : Template → List Seen → List (List ℕ) → Graph
graph_of t seens rows = record { terms = map (seen_tree t.nodes) seens; children = rows }

-- nodes have one number exactly where they begin alike
pub record TellBeginnings (t : Template) (seens : List Seen) (tops : List ℕ) : Type 0 where
  pub one : (i j : ℕ) (s u : Seen) → BeginsSo seens i s → BeginsSo seens j u → at_node tops i ≡ at_node tops j → BeginAlike (seen_tree t.nodes s) (seen_tree t.nodes u)
  pub other : (i j : ℕ) (s u : Seen) → BeginsSo seens i s → BeginsSo seens j u → BeginAlike (seen_tree t.nodes s) (seen_tree t.nodes u) → at_node tops i ≡ at_node tops j

-- the graph is built along go, by whatever numbers tell how its nodes begin, and each symbol has a name
pub record IsBuiltAlong (t : Template) (go : Tree → Tree) (seens : List Seen) (rows : List (List ℕ)) : Type 0 where
  pub built : (tops : List ℕ) → TellBeginnings t seens tops → IsBuilt go (graph_of t seens rows) tops
  pub names : HasNames t.symbols (graph_of t seens rows)
