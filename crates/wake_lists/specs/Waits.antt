-- Which places wait on which variables.
use Rattle.std.specs.Prelude.{List, [], Option, None, Some, Bool, false, map}
use Rattle.std.specs.List.{list_any}
use Rattle.std.specs.Map.{lookup}
use Rattle.std.specs.BTreeSet.{BTreeSet}
use Rattle.std.specs.declared.cmp.Reverse.{Reverse}
use Rattle.akl_terms.specs.declared.name.Var.{Var}
use Rattle.akl_terms.specs.declared.name.Place.{Place}
use Rattle.akl_terms.specs.Names.{same_name, same_var}

abbrev pub same_place : Place → Place → Bool
same_place (Place.Goal a) (Place.Goal b) = same_name a b
same_place (Place.Goal a) (Place.Box b) = false
same_place (Place.Box a) (Place.Goal b) = false
same_place (Place.Box a) (Place.Box b) = same_name a b

-- the places of a list, where there is one
abbrev pub listed : Option (List Place) → List Place
listed None = []
listed (Some ps) = ps

-- the places that wait on a variable
abbrev pub places_at : Var → List (Var × List Place) → List Place
places_at x ws = listed (lookup (same_var x) ws)

abbrev pub waits_on : List (Var × List Place) → Place → Var → Bool
waits_on ws p x = list_any (same_place p) (places_at x ws)

abbrev pub is_variable_in : Var → List Var → Bool
is_variable_in x xs = list_any (same_var x) xs

-- a key is that of a variable, in a map in which the greater ones stand first
abbrev pub is_variable_key : Var → Reverse Var → Bool
is_variable_key x k = same_var x k.0

-- the waits by their variables, as they are kept
abbrev pub waits_of : List (Reverse Var × BTreeSet Place) → List (Var × List Place)
waits_of es = map (λ (e : Reverse Var × BTreeSet Place). (e.0.0, e.1.keys)) es
