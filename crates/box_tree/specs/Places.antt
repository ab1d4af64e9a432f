-- The places in boxes one after another, and the views of them.
use Rattle.std.specs.Prelude.{◌≡◌, ℕ, List, [], ◌∷◌, ◌++◌, map}
use Rattle.akl_terms.specs.declared.name.Place.{Place}
use Rattle.akl_model.specs.declared.label.Label.{Label}
use Rattle.box_tree.specs.declared.inside.InnerGoal.{InnerGoal}
use Rattle.box_tree.specs.declared.inside.InnerBox.{InnerBox}
use Rattle.box_tree.specs.Tables.{TableValue}
use Rattle.box_tree.specs.Views.{ViewValue, IsViewOf}

-- each box, with the goals directly in it
abbrev pub goal_places : List InnerGoal → List Place
goal_places goals = map (λ (g : InnerGoal). Place.Goal g.name) goals

abbrev pub places_in : List InnerBox → List Place
places_in [] = []
places_in (b ∷ bs) = Place.Box b.name ∷ (goal_places b.goals.items ++ places_in bs)

-- a view that this worker has of a table and a journal
pub record IsSeenBy (t : TableValue) (journal : List Label) (worker : ℕ) (v : ViewValue) : Type 0 where
  pub table : v.table ≡ t
  pub labels : v.journal ≡ journal
  pub seer : v.worker ≡ worker
  pub seen : IsViewOf v
