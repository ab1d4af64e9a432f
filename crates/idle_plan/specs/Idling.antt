-- Places of views that aren't ready, and what is found of them.
use Rattle.std.specs.Prelude.{◌≡◌, length}
use Rattle.akl_terms.specs.declared.name.Name.{Name}
use Rattle.akl_terms.specs.declared.name.Place.{Place}
use Rattle.akl_model.specs.Derivations.{IsReady}
use Rattle.box_tree.specs.Tables.{all_rules}
use Rattle.box_tree.specs.Views.{ViewValue, IsViewOf}
use Rattle.idle_places.specs.Idling.{IdleValue}

-- the place of a view is a root box
pub record IsAtRootBox (v : ViewValue) : Type 0 where
  pub name : Name
  pub is_box : v.place ≡ Place.Box name
  pub alone : length v.path ≡ 1

-- the place of a view isn't ready
abbrev pub IsUnready : ViewValue → Type 0
IsUnready v = (s : IsViewOf v) → IsReady all_rules v.table.program s.table.config v.place → ⊥

-- a place was found idle by a view of it
abbrev pub IsIdleBy : ViewValue → IdleValue → Type 0
IsIdleBy v i = (i.table ≡ v.table) × (i.journal ≡ v.journal) × (i.place ≡ v.place)
