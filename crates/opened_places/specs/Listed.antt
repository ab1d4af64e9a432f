-- The places that a step changes, with the boxes around them, where these boxes lead down to the box of the label's place.
use Rattle.std.specs.Prelude.{◌≡◌, List, [], ◌∷◌, ◌++◌, map, Option, Some, None}
use Rattle.akl_terms.specs.declared.name.Name.{Name}
use Rattle.akl_terms.specs.declared.name.Place.{Place}
use Rattle.akl_model.specs.Config.{Atom}
use Rattle.akl_model.specs.Changes.{Shape}
use Rattle.table_laws.specs.Steps as laws
use Rattle.opened_places.specs.declared.around.Holder.{Holder}
use Rattle.opened_places.specs.declared.around.Around.{Around}
use Rattle.opened_places.specs.Placed.{PlacedValue, placed, all_but_last, goals_placed}
use Rattle.opened_places.specs.Copies.{CopyPart, AddsCopies}

-- a choice, where there is one
abbrev pub choice_placed : List Name → Option Name → List PlacedValue
choice_placed around None = []
choice_placed around (Some g) = placed (Place.Goal g) around ∷ []

-- the choice that holds a box, around which these boxes stand, and with the box in which it stands
abbrev pub holder_placed : List Name → Option Holder → List PlacedValue
holder_placed around None = []
holder_placed around (Some h) = placed (Place.Goal h.goal) around ∷ []

abbrev pub holder_both : List Name → Option Holder → List PlacedValue
holder_both around None = []
holder_both around (Some h) = placed (Place.Goal h.goal) around ∷ placed (Place.Box h.home) (all_but_last around) ∷ []

-- new boxes with their goals
abbrev pub new_placed : List Name → List laws.NewBox → List PlacedValue
new_placed around [] = []
new_placed around (n ∷ ns) = placed (Place.Box n.name) around ∷ (goals_placed (around ++ n.name ∷ []) (map (λ (x : Name × Atom). x.0) n.goals) ++ new_placed around ns)

-- copies, by the choices that hold them and their goals
abbrev pub law_part : laws.BoxCopy → CopyPart
law_part k = record { name = k.name; holder = k.holder; goals = map (λ (x : Name × Shape). x.0) k.goals }

-- the goal of the place and its box where the goal becomes another one; the box, and the choice that holds it, where the goal goes
abbrev pub goal_turns : Place → Around → List Name → List PlacedValue
goal_turns place x path = placed place path ∷ placed (Place.Box x.home) (all_but_last path) ∷ []

abbrev pub goal_goes : Around → List Name → List PlacedValue
goal_goes x path = placed (Place.Box x.home) (all_but_last path) ∷ holder_placed (all_but_last path) x.holder

-- the choice of a split with its box, and what holds this, where the box becomes two
abbrev pub box_parts : Around → List Name → List PlacedValue
box_parts x path = choice_placed path x.choice ++ (placed (Place.Box x.home) (all_but_last path) ∷ holder_both (all_but_last path) x.holder)

-- by the step, with what is new
abbrev pub AreListed : Place → Around → List Name → laws.Step → List PlacedValue → Type 0
AreListed place x path (laws.tells new solved) ps = ps ≡ goal_goes x path
AreListed place x path (laws.forks op news) ps = ps ≡ goal_turns place x path ++ new_placed path news
AreListed place x path laws.fails ps = ps ≡ holder_both (all_but_last path) x.holder
AreListed place x path laws.cuts ps = ps ≡ goal_turns place x path
AreListed place x path (laws.joins new solved goals) ps = ps ≡ goal_goes x path ++ goals_placed path (map (λ (y : Name × Atom). y.0) goals)
AreListed place x path laws.refutes ps = ps ≡ goal_turns place x path
AreListed place x path laws.confirms ps = ps ≡ goal_goes x path
AreListed place x path (laws.splits copy copies) ps = AddsCopies (all_but_last path) (map law_part copies) (map law_part copies) (box_parts x path) ps
