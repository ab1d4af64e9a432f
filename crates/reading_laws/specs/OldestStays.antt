-- The oldest of each class stays among the variables that a place keeps, while none of these is bound.
use Rattle.std.specs.Prelude.{◌≡◌, List, [], Some}
use Rattle.akl_terms.specs.declared.name.Name.{Name}
use Rattle.akl_terms.specs.declared.name.Var.{Var}
use Rattle.akl_terms.specs.declared.program.Program.{Program}
use Rattle.akl_terms.specs.declared.program.Query.{Query}
use Rattle.akl_terms.specs.Equal.{Equations, IsConsistent, IsStructured}
use Rattle.constraint_laws.specs.Oldest.{IsOldest}
use Rattle.constraint_laws.specs.Touched.{IsAmong}
use Rattle.akl_model.specs.declared.item.Item.{Item}
use Rattle.akl_model.specs.declared.label.Rule.{Rule}
use Rattle.akl_model.specs.declared.label.Label.{Label}
use Rattle.akl_model.specs.Config.{Config, Found, whole, box_at}
use Rattle.akl_model.specs.Derivations.{Derives, Replays}
use Rattle.reading_laws.specs.Unchanged.{Unchanged}

-- with each of its variables that is unstructured a list has the oldest one that is equal to it. Of structured ones more may become equal though no binding changes
abbrev pub KeepsOldest : Equations → List Var → Type 0
KeepsOldest E list = (x w : Var) → IsAmong x list → (IsStructured E x → ⊥) → IsOldest E x w → IsAmong w list

-- in a root box that is consistent later
abbrev pub OldestStaysLaw : Type 0
OldestStaysLaw = (rules : List Rule) (p : Program) (q : Query) (journal : List Label) (c : Config) (ls : List Label) (d : Config) → Replays rules p q journal c → (w : Derives rules p c ls d)
    → (n : Name) (f k : Found) → box_at n c.roots ≡ Some f → f.around ≡ [] → box_at n d.roots ≡ Some k → IsConsistent (whole k)
    → (kept : List Var) → ((x : Var) → IsAmong x kept → Unchanged rules p c ls d w (Item.Binding x)) → KeepsOldest (whole f) kept → KeepsOldest (whole k) kept
