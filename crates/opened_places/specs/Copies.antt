-- The places that a split makes.
use Rattle.std.specs.Prelude.{◌≡◌, List, [], ◌∷◌, ◌++◌, map, Option, Some, None, ◌⊎◌}
use Rattle.std.specs.Map.{lookup}
use Rattle.akl_terms.specs.declared.name.Name.{Name}
use Rattle.akl_terms.specs.declared.name.Place.{Place}
use Rattle.akl_terms.specs.Names.{same_name}
use Rattle.akl_model.specs.Config.{IsIn}
use Rattle.box_tree.specs.declared.entries.Held.{Held}
use Rattle.box_tree.specs.declared.step.BoxCopy.{BoxCopy}
use Rattle.opened_places.specs.declared.copies.CopyHome.{CopyHome}
use Rattle.opened_places.specs.Placed.{PlacedValue, placed, goals_placed}

-- a copy: the copied choice that holds it, none for the copy of the box that is split, and the names of its goals
pub record CopyPart : Type 0 where
  pub name : Name
  pub holder : Option Name
  pub goals : List Name

abbrev pub part_of : BoxCopy → CopyPart
part_of k = record { name = k.name; holder = k.holder; goals = map (λ (x : Name × Held). x.0) k.goals.items }

abbrev pub parts_of : List BoxCopy → List CopyPart
parts_of copies = map part_of copies

abbrev pub IsPart : CopyPart → List CopyPart → Type 0
IsPart k [] = ⊥
IsPart k (j ∷ js) = (k ≡ j) ⊎ IsPart k js

-- the copies around one, the outermost first, by the choice that holds it
pub data IsWithin (copies : List CopyPart) : Option Name → List Name → Type 0 where
  outermost : IsWithin copies None []
  further : {g : Name} {names : List Name} (k : CopyPart) → IsPart k copies → IsIn g k.goals → IsWithin copies k.holder names → IsWithin copies (Some g) (names ++ k.name ∷ [])

-- each goal has the copy in which it stands
abbrev pub IsHomeOf : List CopyPart → Name → CopyHome → Type 0
IsHomeOf copies g h = (k : CopyPart) × IsPart k copies × IsIn g k.goals × (h.name ≡ k.name) × (h.holder ≡ k.holder)

abbrev pub AreHomes : List CopyPart → List (Name × CopyHome) → Type 0
AreHomes copies homes = (g : Name) (h : CopyHome) → lookup (same_name g) homes ≡ Some h → IsHomeOf copies g h

-- these goals get this home, and no other does
abbrev pub PutsGoals : List Name → CopyHome → List (Name × CopyHome) → List (Name × CopyHome) → Type 0
PutsGoals goals home before afterwards = (g : Name) (h : CopyHome) → lookup (same_name g) afterwards ≡ Some h → (IsIn g goals × (h ≡ home)) ⊎ (lookup (same_name g) before ≡ Some h)

-- a copy is added with its goals, where these boxes are around the box that is split
abbrev pub AddsCopy : List Name → List CopyPart → CopyPart → List PlacedValue → List PlacedValue → Type 0
AddsCopy around copies k before afterwards = (inner : List Name) × IsWithin copies k.holder inner
    × (afterwards ≡ before ++ (placed (Place.Box k.name) (around ++ inner) ∷ goals_placed ((around ++ inner) ++ k.name ∷ []) k.goals))

-- and some of the copies one after another
abbrev pub AddsCopies : List Name → List CopyPart → List CopyPart → List PlacedValue → List PlacedValue → Type 0
AddsCopies around copies [] before afterwards = afterwards ≡ before
AddsCopies around copies (k ∷ ks) before afterwards = (next : List PlacedValue) × AddsCopy around copies k before next × AddsCopies around copies ks next afterwards
