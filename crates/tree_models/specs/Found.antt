-- What is found on the way to a model.
use Rattle.std.specs.Prelude.{◌≡◌, List, ◌++◌, map}
use Rattle.akl_terms.specs.declared.name.Var.{Var}
use Rattle.akl_terms.specs.declared.program.ShownTerm.{ShownTerm}
use Rattle.akl_terms.specs.declared.term.Node.{Node}
use Rattle.akl_terms.specs.Tree.{Tree, variable}
use Rattle.akl_terms.specs.Equal.{Equations}
use Rattle.akl_terms.specs.Template.{Template}
use Rattle.answer_text.specs.Classes.{Represents}
use Rattle.term_graph.specs.Building.{IsTermGraph}
use Rattle.term_graph.specs.Built.{IsBuiltAlong}
use Rattle.tree_models.specs.declared.model.Given.{Given}
use Rattle.tree_models.specs.declared.model.TreeModel.{TreeModel}
use Rattle.tree_models.specs.declared.starts.StartGraph.{StartGraph}
use Rattle.tree_models.specs.Laws.{Merges}
use Rattle.tree_models.specs.Made.{rows_of}
use Rattle.tree_models.specs.Solutions.{OccursShown, IsPlaced, IsWithin, IsNumbered, AreShownAt, shown_terms}
use Rattle.tree_models.specs.Starts.{AreNodesOf}
use Rattle.tree_models.specs.Tables.{table_of}

-- a graph of shown terms and variables
pub record IsModelGraph (t : Template) (go : Tree → Tree) (shown : List ShownTerm) (variables : List Var) (g : StartGraph) : Type 0 where
  pub graph : IsTermGraph t go g.seens.items (rows_of g)
  pub built : IsBuiltAlong t go g.seens.items (rows_of g)
  pub starts : AreNodesOf t go g.seens.items (shown_terms t.nodes shown ++ map (λ (x : Var). variable x) variables) g.starts.items

-- a table that merges equations, with places of these variables, and of the shown terms where their variables are among these
pub record IsTableOf (nodes : List Node) (E : Equations) (shown : List ShownTerm) (variables : List Var) (m : TreeModel) : Type 0 where
  pub merges : Merges E (table_of m)
  pub within : IsWithin (table_of m)
  pub variables_are : map (λ (g : Given). g.variable) m.given.items ≡ variables
  pub shown_at : ((x : Var) → OccursShown x (shown_terms nodes shown) → IsPlaced (table_of m) x) → AreShownAt (table_of m) (shown_terms nodes shown) m.shown.items
  pub visited : IsNumbered m

-- whatever equations are represented so
abbrev pub IsTableUnder : List Node → (Tree → Tree) → List ShownTerm → List Var → TreeModel → Type 0
IsTableUnder nodes go shown variables m = (E : Equations) → Represents E go → IsTableOf nodes E shown variables m
