-- What a commit leaves of places that opened or went.
use Rattle.std.specs.Prelude.{◌≡◌, ℕ, List, [], ◌∷◌, ◌++◌, ◌&&◌, not, Bool, Option, Some, None, if◌then◌else◌}
use Rattle.std.specs.List.{list_any}
use Rattle.akl_terms.specs.declared.name.Name.{Name}
use Rattle.akl_terms.specs.declared.name.Var.{Var}
use Rattle.akl_terms.specs.declared.name.Place.{Place}
use Rattle.wake_lists.specs.Open.{Opening, Openings, opening_at, closed, after_leave}
use Rattle.wake_lists.specs.Waits.{same_place, waits_on}

abbrev pub is_place_in : Place → List Place → Bool
is_place_in place places = list_any (same_place place) places

-- these places wait no more
abbrev pub DropsWaits : List (Var × List Place) → List Place → List (Var × List Place) → Type 0
DropsWaits before places now = (p : Place) (x : Var) → waits_on now p x ≡ (waits_on before p x && not (is_place_in p places))

abbrev pub boxes_among : List Place → List Name
boxes_among [] = []
boxes_among (Place.Goal g ∷ ps) = boxes_among ps
boxes_among (Place.Box n ∷ ps) = n ∷ boxes_among ps

-- the places that are open under tokens
abbrev pub place_list : Option Opening → List Place
place_list None = []
place_list (Some o) = o.place ∷ []

abbrev pub places_under : List ℕ → Openings → List Place
places_under [] os = []
places_under (t ∷ ts) os = place_list (opening_at t os) ++ places_under ts os

-- what was open under a token is closed, where the place is one of these
abbrev pub closed_one : Option ℕ → Openings → Openings
closed_one None os = os
closed_one (Some t) os = closed t os

abbrev pub closed_among : Option ℕ → Place → List Place → Openings → Openings
closed_among own place gone os = if is_place_in place gone then closed_one own os else os

-- nothing stands any more in boxes that went, and the own place is closed, where it went
abbrev pub after_going : Option ℕ → Place → List Place → Openings → Openings
after_going own place gone os = closed_among own place gone (after_leave (boxes_among gone) os)
