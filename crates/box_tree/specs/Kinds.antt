-- The kinds of places.
use Rattle.std.specs.Prelude.{⊤}
use Rattle.akl_terms.specs.declared.name.Place.{Place}

abbrev pub IsGoal : Place → Type 0
IsGoal (Place.Goal g) = ⊤
IsGoal (Place.Box n) = ⊥

abbrev pub IsBox : Place → Type 0
IsBox (Place.Goal g) = ⊥
IsBox (Place.Box n) = ⊤
