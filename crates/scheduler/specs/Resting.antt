-- Open places in which nothing is open.
use Rattle.std.specs.Prelude.{◌≡◌, ℕ, false, None, Some, Option}
use Rattle.akl_terms.specs.declared.name.Name.{Name}
use Rattle.akl_terms.specs.declared.name.Place.{Place}
use Rattle.wake_lists.specs.Open.{Opening, Openings, opening_at, is_busy, IsInside}

-- nothing is open in the box that a place is; of a goal nothing is said
abbrev pub IsAtRest : Openings → Place → Type 0
IsAtRest os place = (n : Name) → place ≡ Place.Box n → is_busy n os ≡ false

-- an open place with its token, in which nothing is open
pub record IsOpenAtRest (os : Openings) (found : ℕ × Place) : Type 0 where
  pub opening : Opening
  pub is_open : opening_at found.0 os ≡ Some opening
  pub of_place : opening.place ≡ found.1
  pub at_rest : IsAtRest os found.1

-- the token of an open place that stands in the box that a place is, where one does
abbrev pub IsInsideOf : Openings → Place → Option ℕ → Type 0
IsInsideOf os (Place.Goal g) result = result ≡ None
IsInsideOf os (Place.Box n) result = IsInside n os result

-- the same for the place that a token leads to
abbrev pub IsInsideAt : Openings → ℕ → Option ℕ → Type 0
IsInsideAt os token result = (o : Opening) → opening_at token os ≡ Some o → IsInsideOf os o.place result
