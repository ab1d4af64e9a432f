-- The configurations between the labels of a call at once, and what is bound from them on.
use Rattle.std.specs.Prelude.{◌≡◌, ℕ, List, Some}
use Rattle.akl_terms.specs.declared.name.Name.{Name}
use Rattle.akl_terms.specs.declared.name.Var.{Var}
use Rattle.akl_model.specs.Config.{Atom, Operator, Boxes, Config, an_atom, a_choice, held_in, with_content, Found, home_of, edited}
use Rattle.akl_model.specs.Stable.{only}
use Rattle.akl_model.specs.Names.{HasDistinctNames}
use Rattle.akl_model.specs.Changes.{Binds}

-- a box with one of its goals as a choice of some alternatives
abbrev pub with_choice : Found → Name → Operator → Boxes → Found
with_choice f g o bs = record { around = f.around; content = f.content; goals = with_content g (a_choice o bs) f.goals }

-- and a configuration with this box, and these next numbers
abbrev pub choosing : Config → Found → Name → Operator → Boxes → List ℕ → Config
choosing c f g o bs next = record { roots = edited f.content.name (only (with_choice f g o bs)) c.roots; next = next }

-- from it to a later one the same is bound in the goal's box as from the configuration before the call
abbrev pub NetBindsLaw : Type 0
NetBindsLaw = (c : Config) → HasDistinctNames c → (g : Name) (f : Found) → home_of g c.roots ≡ Some f → (x : Atom) → held_in g f.goals ≡ Some (an_atom x) → (o : Operator) (bs : Boxes) (next : List ℕ) → HasDistinctNames (choosing c f g o bs next)
    → (d : Config) (v : Var) → (Binds c d f.content.name v → Binds (choosing c f g o bs next) d f.content.name v) × (Binds (choosing c f g o bs next) d f.content.name v → Binds c d f.content.name v)
