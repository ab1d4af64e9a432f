-- Which places a label wakes, by a list of what it binds that has no whole classes either.
use Rattle.std.specs.Prelude.{◌≡◌, List}
use Rattle.akl_terms.specs.declared.name.Name.{Name}
use Rattle.akl_terms.specs.declared.name.Var.{Var}
use Rattle.akl_terms.specs.declared.name.Place.{Place}
use Rattle.akl_terms.specs.declared.program.Program.{Program}
use Rattle.akl_terms.specs.declared.program.Query.{Query}
use Rattle.akl_model.specs.declared.label.Rule.{Rule}
use Rattle.akl_model.specs.declared.label.Label.{Label}
use Rattle.akl_model.specs.Config.{Config}
use Rattle.akl_model.specs.Derivations.{Applies, Replays}
use Rattle.akl_model.specs.Changes.{Adds, Binds}
use Rattle.akl_model.specs.Wakes.{Wait, IsKept}
use Rattle.constraint_laws.specs.Touched.{IsAmong}
use Rattle.step_laws.specs.Bound.{AreBoundIn}
use Rattle.plan_laws.specs.Waits.{AreWaits}

-- a label adds equations to the box of its place alone; so what it binds it binds there
abbrev pub AddsAtSiteLaw : Type 0
AddsAtSiteLaw = (rules : List Rule) (p : Program) (q : Query) (journal : List Label) (c : Config) (l : Label) (d : Config) → Replays rules p q journal c → (a : Applies rules p c l d)
    → (n : Name) → Adds c d n → n ≡ a.site.content.name

-- a place has a kept wait on a variable that the label binds, or makes equal, exactly where it has one on a listed variable
abbrev pub WokenLaw : Type 0
WokenLaw = (rules : List Rule) (p : Program) (q : Query) (journal : List Label) (c : Config) (l : Label) (d : Config) → Replays rules p q journal c → (a : Applies rules p c l d)
    → (now : List Place) (waits : List Wait) → AreWaits c now waits → (list : List Var) → AreBoundIn c d a.site list → (place : Place)
    → ((n : Name) (x : Var) → IsKept waits place x → Binds c d n x → (y : Var) × IsKept waits place y × IsAmong y list)
    × ((y : Var) → IsKept waits place y → IsAmong y list → Binds c d a.site.content.name y)
