-- What a plan of Split reads.
use Rattle.std.specs.Prelude.{◌≡◌, ◌≤◌, ◌<◌, List, [], ◌∷◌, ◌++◌, length, map}
use Rattle.akl_terms.specs.declared.name.Name.{Name}
use Rattle.akl_terms.specs.declared.name.Var.{Var}
use Rattle.akl_model.specs.declared.item.Item.{Item}
use Rattle.box_tree.specs.declared.inside.InnerGoal.{InnerGoal}
use Rattle.box_tree.specs.declared.inside.InnerBox.{InnerBox}
use Rattle.box_tree.specs.Views.{ViewValue}
use Rattle.guard_plan.specs.ReadAt.{AreEndsOf}

-- goals
abbrev pub goal_items : List InnerGoal → List Item
goal_items goals = map (λ (g : InnerGoal). Item.Goal g.name) goals

-- the constraint and the goals of each of these boxes
abbrev pub items_in : List InnerBox → List Item
items_in [] = []
items_in (b ∷ bs) = Item.Store b.name ∷ Item.Goals b.name ∷ (goal_items b.goals.items ++ items_in bs)

-- of the boxes around the box of a view: the constraint of one; of more the constraints, with the bindings of the ends of the view, or the sets of goals
pub data AreItemsAround (v : ViewValue) (around : List Name) (items : List Item) : Type 0 where
  of_one : length around ≤ 1 → items ≡ map Item.Store around → AreItemsAround v around items
  by_ends : (ends : List Var) → AreEndsOf v ends → items ≡ map Item.Store around ++ map Item.Binding ends → AreItemsAround v around items
  of_more : 1 < length around → items ≡ map Item.Goals around → AreItemsAround v around items

-- with all items of these boxes
pub record AreSplitItems (v : ViewValue) (around : List Name) (boxes : List InnerBox) (items : List Item) : Type 0 where
  pub outer : List Item
  pub are_outer : AreItemsAround v around outer
  pub are_items : items ≡ outer ++ items_in boxes
