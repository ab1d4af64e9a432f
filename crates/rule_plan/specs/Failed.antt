-- What shows that a box fails.
use Rattle.std.specs.Prelude.{◌≡◌, None}
use Rattle.akl_terms.specs.declared.name.Name.{Name}
use Rattle.akl_terms.specs.declared.name.Place.{Place}
use Rattle.akl_model.specs.declared.item.Item.{Item}
use Rattle.akl_model.specs.declared.label.Rule.{Rule}
use Rattle.plan_laws.specs.Right.{Reads}
use Rattle.box_tree.specs.Views.{ViewValue, IsViewOf}

-- the box of a view's place fails by an item: its constraint, where it is inconsistent, or a failing goal
pub record FailsFor (v : ViewValue) (item : Item) : Type 0 where
  pub seen : IsViewOf v
  pub name : Name
  pub is_place : v.place ≡ Place.Box name
  pub reads : Reads (λ i. i ≡ item) Rule.Fail (Place.Box name) None seen.site
