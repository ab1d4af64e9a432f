-- The places that a step changes, in the order in which they are listed.
use Rattle.std.specs.Prelude.{List, [], ◌∷◌, ◌++◌, map, Option, Some, None}
use Rattle.akl_terms.specs.declared.name.Name.{Name}
use Rattle.akl_terms.specs.declared.name.Place.{Place}
use Rattle.akl_model.specs.Config.{Atom}
use Rattle.akl_model.specs.Changes.{Shape}
use Rattle.table_laws.specs.Steps as laws
use Rattle.opened_places.specs.Gone.{goals_named}
use Rattle.opened_places.specs.declared.around.Holder.{Holder}
use Rattle.opened_places.specs.declared.around.Around.{Around}

-- a choice, where there is one
abbrev pub choice_place : Option Name → List Place
choice_place None = []
choice_place (Some g) = Place.Goal g ∷ []

-- the choice that holds a box, and with the box in which it stands
abbrev pub holder_place : Option Holder → List Place
holder_place None = []
holder_place (Some h) = Place.Goal h.goal ∷ []

abbrev pub holder_places : Option Holder → List Place
holder_places None = []
holder_places (Some h) = Place.Goal h.goal ∷ Place.Box h.home ∷ []

-- new boxes with their goals, and copies of boxes with theirs
abbrev pub new_places : List laws.NewBox → List Place
new_places [] = []
new_places (n ∷ ns) = Place.Box n.name ∷ (goals_named (map (λ (x : Name × Atom). x.0) n.goals) ++ new_places ns)

abbrev pub copy_places : List laws.BoxCopy → List Place
copy_places [] = []
copy_places (k ∷ ks) = Place.Box k.name ∷ (goals_named (map (λ (x : Name × Shape). x.0) k.goals) ++ copy_places ks)

-- by the step: the box of the place and what holds it where a goal goes, the goal and its box where it becomes another one, and what is new
abbrev pub listed : Place → Around → laws.Step → List Place
listed place x (laws.tells new solved) = Place.Box x.home ∷ holder_place x.holder
listed place x (laws.forks op news) = place ∷ Place.Box x.home ∷ new_places news
listed place x laws.fails = holder_places x.holder
listed place x laws.cuts = place ∷ Place.Box x.home ∷ []
listed place x (laws.joins new solved goals) = Place.Box x.home ∷ (holder_place x.holder ++ goals_named (map (λ (y : Name × Atom). y.0) goals))
listed place x laws.refutes = place ∷ Place.Box x.home ∷ []
listed place x laws.confirms = Place.Box x.home ∷ holder_place x.holder
listed place x (laws.splits copy copies) = choice_place x.choice ++ (Place.Box x.home ∷ (holder_places x.holder ++ copy_places copies))
