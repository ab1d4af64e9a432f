-- The nearest box that could be split, while a place is settled.
use Rattle.std.specs.Prelude.{◌≡◌, ℕ, List, [], ◌∷◌, ◌||◌, ◌&&◌, Option, Some, None}
use Rattle.std.specs.BTreeMap.{insert_entry}
use Rattle.std.specs.Ordering.{nat_cmp}
use Rattle.akl_terms.specs.declared.name.Name.{Name}
use Rattle.akl_terms.specs.declared.name.Var.{Var}
use Rattle.akl_terms.specs.declared.name.Place.{Place}
use Rattle.box_tree.specs.Tables.{TableValue}
use Rattle.wake_lists.specs.Open.{Opening, Openings, opening_at}
use Rattle.wake_lists.specs.Waits.{same_place, waits_on, is_variable_in}
use Rattle.opened_places.specs.Placed.{HasAround}
use Rattle.scheduler.specs.Openings.{IsOpenAt}

-- the box is opened, in the boxes around it, unless it is open; its token, where it is opened
pub data OpensCandidate (v : TableValue) (before : Openings) (nearest : Option Name) (now : Openings) (found : Option ℕ) : Type 0 where
  no_box : nearest ≡ None → now ≡ before → found ≡ None → OpensCandidate v before nearest now found
  was_open : (n : Name) → nearest ≡ Some n → IsOpenAt before (Place.Box n) → now ≡ before → found ≡ None → OpensCandidate v before nearest now found
  isnt_there : (n : Name) → nearest ≡ Some n → HasAround v (Place.Box n) None → now ≡ before → found ≡ None → OpensCandidate v before nearest now found
  comes : (n : Name) (t : ℕ) (o : Opening) → nearest ≡ Some n → (IsOpenAt before (Place.Box n) → ⊥) → opening_at t before ≡ None → o.place ≡ Place.Box n → HasAround v (Place.Box n) (Some o.boxes)
      → now ≡ insert_entry nat_cmp before t o → found ≡ Some t → OpensCandidate v before nearest now found

-- the nearest box, where it was opened
abbrev pub opened_box : Option Name → Option ℕ → List Place
opened_box None found = []
opened_box (Some n) None = []
opened_box (Some n) (Some t) = Place.Box n ∷ []

-- a place waits on these variables too
abbrev pub Suspends : List (Var × List Place) → Place → List Var → List (Var × List Place) → Type 0
Suspends ws place on ws_now = (p : Place) (x : Var) → waits_on ws_now p x ≡ (waits_on ws p x || (same_place p place && is_variable_in x on))
