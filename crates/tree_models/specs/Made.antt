-- A table that is made of a graph's classes.
use Rattle.std.specs.Prelude.{◌≡◌, ℕ, List, [], ◌∷◌, map, take, drop}
use Rattle.akl_terms.specs.declared.name.Var.{Var}
use Rattle.tree_models.specs.declared.model.Given.{Given}
use Rattle.tree_models.specs.declared.model.TreeModel.{TreeModel}
use Rattle.tree_models.specs.declared.starts.StartGraph.{StartGraph}
use Rattle.tree_models.specs.Cells.{AreCellsOf}
use Rattle.tree_models.specs.Visiting.{VisitsNodes, place_by}

-- the places of variables by those of their nodes
abbrev pub given_by : (ℕ → ℕ) → List Var → List ℕ → List Given
given_by place [] is = []
given_by place (x ∷ xs) [] = []
given_by place (x ∷ xs) (i ∷ is) = record { variable = x; place = place i } ∷ given_by place xs is

abbrev pub rows_of : StartGraph → List (List ℕ)
rows_of g = map (λ v. v.items) g.rows.items

-- the cells of the classes that are visited from the starts, the places of the first few starts, and those of variables, whose nodes are the others
pub record IsMade (g : StartGraph) (firsts : List ℕ) (count : ℕ) (variables : List Var) (m : TreeModel) : Type 0 where
  pub order : List ℕ
  pub visits : VisitsNodes (rows_of g) firsts [] g.starts.items order
  pub cells : AreCellsOf g.seens.items (rows_of g) firsts order m.cells.items
  pub shown : m.shown.items ≡ map (place_by firsts order) (take count g.starts.items)
  pub given : m.given.items ≡ given_by (place_by firsts order) variables (drop count g.starts.items)
