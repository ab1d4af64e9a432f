-- The boxes around a box go by the choice that holds it.
use Rattle.std.specs.Prelude.{◌≡◌, ◌≤◌, [], ◌∷◌, ◌++◌, Some, None}
use Rattle.akl_terms.specs.declared.name.Name.{Name}
use Rattle.akl_model.specs.Config.{Operator}
use Rattle.akl_model.specs.Config.{IsIn, Boxes, a_choice, held_in, Found, environment, whole, box_at, home_of}
use Rattle.akl_model.specs.Renaming.{names_of}
use Rattle.akl_model.specs.Names.{times_in}
use Rattle.akl_model.specs.Changes.{box_names}
use Rattle.akl_model.specs.Wakes.{names_around, names_down_to, holder_in}

-- each name stands at most once, as it does in every replay
abbrev pub NamesOnce : Boxes → Type 0
NamesOnce roots = (m : Name) → times_in m (names_of roots) ≤ 1

-- the choice stands in its home, the box n is one of its alternatives, and around it are the home and the boxes around the home
pub record IsHeldBy (n g : Name) (f : Found) (roots : Boxes) : Type 0 where
  pub home : Found
  pub op : Operator
  pub alternatives : Boxes
  pub is_home : home_of g roots ≡ Some home
  pub held : held_in g home.goals ≡ Some (a_choice op alternatives)
  pub among : IsIn n (box_names alternatives)
  pub around : f.around ≡ home.around ++ home.content ∷ []
  pub names : names_around f ≡ names_down_to home
  pub equations : environment f ≡ whole home

-- the box is found in the choice's home, and the choice holds it
pub record IsAlternativeAt (n g : Name) (home : Found) (roots : Boxes) : Type 0 where
  pub holder : holder_in n roots ≡ Some g
  pub found : Found
  pub is_found : box_at n roots ≡ Some found
  pub around : found.around ≡ home.around ++ home.content ∷ []

pub record IsRootBox (n : Name) (roots : Boxes) : Type 0 where
  pub found : Found
  pub is_found : box_at n roots ≡ Some found
  pub around : found.around ≡ []
  pub holder : holder_in n roots ≡ None

-- a box that no choice holds has no boxes around it, and one that a choice holds has those down to the choice's home
abbrev pub HeldLaw : Type 0
HeldLaw = (roots : Boxes) → NamesOnce roots → (n : Name) (f : Found) → box_at n roots ≡ Some f
    → (holder_in n roots ≡ None → f.around ≡ []) × ((g : Name) → holder_in n roots ≡ Some g → IsHeldBy n g f roots)

-- a choice holds each box that is named among its alternatives
abbrev pub AlternativeLaw : Type 0
AlternativeLaw = (roots : Boxes) → NamesOnce roots → (n g : Name) (home : Found) (op : Operator) (alternatives : Boxes) → home_of g roots ≡ Some home
    → held_in g home.goals ≡ Some (a_choice op alternatives) → IsIn n (box_names alternatives) → IsAlternativeAt n g home roots

-- a root box's name is one that is found with no boxes around it
abbrev pub RootBoxLaw : Type 0
RootBoxLaw = (roots : Boxes) → NamesOnce roots → (n : Name)
    → (IsIn n (box_names roots) → IsRootBox n roots) × ((f : Found) → box_at n roots ≡ Some f → f.around ≡ [] → IsIn n (box_names roots))

-- a box that a choice holds is there
abbrev pub HeldThereLaw : Type 0
HeldThereLaw = (roots : Boxes) (n g : Name) → holder_in n roots ≡ Some g → (f : Found) × (box_at n roots ≡ Some f)
