-- Items that agree before a label, in two configurations in which it makes the same local change, agree after it.
use Rattle.std.specs.Prelude.{◌≡◌, List}
use Rattle.akl_terms.specs.declared.name.Name.{Name}
use Rattle.akl_terms.specs.declared.program.Program.{Program}
use Rattle.akl_terms.specs.declared.program.Query.{Query}
use Rattle.akl_model.specs.declared.item.Item.{Item}
use Rattle.akl_model.specs.declared.label.Rule.{Rule}
use Rattle.akl_model.specs.declared.label.Label.{Label}
use Rattle.akl_model.specs.Config.{Config}
use Rattle.akl_model.specs.Derivations.{Applies, Replays}
use Rattle.akl_model.specs.Names.{HasDistinctNames}
use Rattle.step_laws.specs.ChangedItems.{MayChange}
use Rattle.plan_laws.specs.Local.{Told, Becomes, NewGoals, reduces}
use Rattle.plan_laws.specs.Right.{IsRightOn}
use Rattle.plan_laws.specs.Wherever.{IsAsIn}

-- an item that the label may change in neither
abbrev pub UnwrittenLaw : Type 0
UnwrittenLaw = (rules : List Rule) (p : Program) (l : Label) (q : Query) (journal : List Label) (c e : Config) → Replays rules p q journal c → (a : Applies rules p c l e)
    → (q2 : Query) (journal2 : List Label) (d f : Config) → Replays rules p q2 journal2 d → (b : Applies rules p d l f)
    → (i : Item) → (MayChange a i → ⊥) → (MayChange b i → ⊥) → IsAsIn c d i → IsAsIn e f i

-- the constraint of the box of the label's place, where this stays
abbrev pub OwnStoreLaw : Type 0
OwnStoreLaw = (rules : List Rule) (p : Program) (c : Config) (l : Label) (e : Config) (a : Applies rules p c l e) (d : Config) → HasDistinctNames c → HasDistinctNames d → (r : IsRightOn a d)
    → (t : Told) (g : Name) (b : Becomes) (n : NewGoals) → r.change ≡ reduces t g b n → IsAsIn c d (Item.Store a.site.content.name) → IsAsIn e r.result (Item.Store a.site.content.name)
