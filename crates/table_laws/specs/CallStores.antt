-- The store of the box in which a call is made at once, where bindings are told apart.
use Rattle.std.specs.Prelude.{◌≡◌, ℕ, List, Some}
use Rattle.akl_terms.specs.declared.name.Name.{Name}
use Rattle.akl_terms.specs.declared.program.Program.{Program}
use Rattle.akl_terms.specs.declared.program.Query.{Query}
use Rattle.akl_model.specs.declared.item.Item.{Item}
use Rattle.akl_model.specs.declared.label.Rule.{Rule}
use Rattle.akl_model.specs.declared.label.Label.{Label}
use Rattle.akl_model.specs.Config.{Config, Found, home_of}
use Rattle.akl_model.specs.Derivations.{Derives, Replays}
use Rattle.plan_laws.specs.AtOnce.{IsAtOnce, labels_at_once, at_once, AreInForce}
use Rattle.reading_laws.specs.Unchanged.{Unchanged}

-- no label of the call changes it, as the alternative that is left has no ports, and nothing clashes: so a core keeps its number of this store (`MarksStores`)
abbrev pub CallLeavesLaw : Type 0
CallLeavesLaw = (rules : List Rule) → AreInForce rules → (p : Program) (q : Query) (journal : List Label) (c : Config) → Replays rules p q journal c → (w : ℕ) (g : Name) (f : Found) → home_of g c.roots ≡ Some f
    → (x : IsAtOnce p c w g f) (d : Derives rules p c (labels_at_once x) (at_once x)) → Unchanged rules p c (labels_at_once x) (at_once x) d (Item.Store f.content.name)
