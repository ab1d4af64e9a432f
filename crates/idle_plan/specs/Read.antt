-- What an idle place reads.
use Rattle.std.specs.Prelude.{◌≡◌, List, [], ◌∷◌, ◌++◌, map, drop, ◌⊎◌}
use Rattle.akl_terms.specs.declared.name.Name.{Name}
use Rattle.akl_terms.specs.declared.name.Var.{Var}
use Rattle.akl_terms.specs.declared.name.Place.{Place}
use Rattle.akl_model.specs.declared.item.Item.{Item}
use Rattle.box_tree.specs.declared.inside.InnerBox.{InnerBox}
use Rattle.box_tree.specs.declared.view.Alternative.{Alternative}
use Rattle.box_tree.specs.Views.{ViewValue}
use Rattle.split_plan.specs.Read.{goal_items}

-- of a goal: it, and the sets of goals of the boxes down to it and of its alternatives
abbrev pub goal_items_of : Name → List Name → List Alternative → List Item
goal_items_of g path alternatives = Item.Goal g ∷ (map Item.Goals path ++ map (λ (a : Alternative). Item.Goals a.name) alternatives)

-- the same by the bindings of variables, in the place of the root box's set of goals
abbrev pub goal_items_on : Name → List Var → List Name → List Alternative → List Item
goal_items_on g on path alternatives = Item.Goal g ∷ (map Item.Binding on ++ (map Item.Goals (drop 1 path) ++ map (λ (a : Alternative). Item.Goals a.name) alternatives))

-- of the goal of a view that waits on these variables either
abbrev pub AreGoalItems : ViewValue → Name → List Var → List Item → Type 0
AreGoalItems v g on reads = (reads ≡ goal_items_of g v.path v.alternatives) ⊎ (reads ≡ goal_items_on g on v.path v.alternatives)

-- the set of goals of each of these boxes, and the goals
abbrev pub sets_in : List InnerBox → List Item
sets_in [] = []
sets_in (b ∷ bs) = Item.Goals b.name ∷ (goal_items b.goals.items ++ sets_in bs)

-- of a place by itself: the goal, or the box's set of goals
abbrev pub item_of : Place → Item
item_of (Place.Goal g) = Item.Goal g
item_of (Place.Box n) = Item.Goals n
