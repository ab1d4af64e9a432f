-- A variable that the plan of a call at once doesn't list isn't bound as an end by any of its labels.
use Rattle.std.specs.Prelude.{◌≡◌, ℕ, List, Some}
use Rattle.akl_terms.specs.declared.name.Name.{Name}
use Rattle.akl_terms.specs.declared.name.Var.{Var}
use Rattle.akl_terms.specs.declared.program.Program.{Program}
use Rattle.akl_terms.specs.declared.program.Query.{Query}
use Rattle.constraint_laws.specs.Touched.{IsAmong}
use Rattle.akl_model.specs.declared.label.Rule.{Rule}
use Rattle.akl_model.specs.declared.label.Label.{Label}
use Rattle.akl_model.specs.Config.{Config, Found, home_of}
use Rattle.akl_model.specs.Derivations.{Derives, Replays}
use Rattle.step_laws.specs.Bound.{AreBoundIn}
use Rattle.plan_laws.specs.AtOnce.{IsAtOnce, labels_at_once, at_once, AreInForce}
use Rattle.plan_laws.specs.Wakes.{TellsNothing}
use Rattle.reading_laws.specs.Ends.{SparesEnd}

-- where the guards tell nothing, and the list is of what the net change binds
abbrev pub CallUnlistedLaw : Type 0
CallUnlistedLaw = (rules : List Rule) → AreInForce rules → (p : Program) (q : Query) (journal : List Label) (c : Config) → Replays rules p q journal c → (w : ℕ) (g : Name) (f : Found) → home_of g c.roots ≡ Some f
    → (x : IsAtOnce p c w g f) → TellsNothing x → (list : List Var) → AreBoundIn c (at_once x) f list → (v : Var) → (IsAmong v list → ⊥)
    → (d : Derives rules p c (labels_at_once x) (at_once x)) → SparesEnd rules p c (labels_at_once x) (at_once x) d v
