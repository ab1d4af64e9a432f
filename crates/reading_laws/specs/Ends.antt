-- Variables that labels don't bind while they are ends.
use Rattle.std.specs.Prelude.{◌≡◌, List, [], ◌∷◌, Some, ◌⊎◌, ⊤}
use Rattle.akl_terms.specs.declared.name.Name.{Name}
use Rattle.akl_terms.specs.declared.name.Var.{Var}
use Rattle.akl_terms.specs.declared.program.Program.{Program}
use Rattle.akl_terms.specs.declared.program.Query.{Query}
use Rattle.akl_terms.specs.Equal.{IsConsistent, IsStructured}
use Rattle.constraint_laws.specs.Oldest.{IsOldest}
use Rattle.constraint_laws.specs.Touched.{IsAmong}
use Rattle.akl_model.specs.declared.item.Item.{Item}
use Rattle.akl_model.specs.declared.label.Rule.{Rule}
use Rattle.akl_model.specs.declared.label.Label.{Label}
use Rattle.akl_model.specs.Config.{Config, Found, whole, box_at}
use Rattle.akl_model.specs.Changes.{Binds}
use Rattle.akl_model.specs.Derivations.{Applies, Derives, Replays}
use Rattle.step_laws.specs.Bound.{outermost_equations, AreBoundIn}
use Rattle.step_laws.specs.Likeness.{IsOld}
use Rattle.reading_laws.specs.OldestStays.{KeepsOldest}
use Rattle.reading_laws.specs.Unchanged.{Unchanged}

-- by the equations of the outermost box around a box, where they are consistent, a variable is structured, or the oldest of those that are equal to it. So is one at which
-- a chain of the outermost box's solved store ends
pub record IsEndAt (c : Config) (n : Name) (x : Var) : Type 0 where
  pub each : (f : Found) → box_at n c.roots ≡ Some f → IsConsistent (outermost_equations f) → IsStructured (outermost_equations f) x ⊎ IsOldest (outermost_equations f) x x

-- no label of a derivation binds the variable, or makes it equal, in a box where it is an end before the label
abbrev pub SparesEnd : (rules : List Rule) (p : Program) (c : Config) (ls : List Label) (d : Config) → Derives rules p c ls d → Var → Type 0
SparesEnd rules p c [] d w x = ⊤
SparesEnd rules p c (l ∷ ls) d w x = ((n : Name) → IsEndAt c n x → Binds c w.0 n x → ⊥) × SparesEnd rules p w.0 ls d w.2 x

-- so it is of a label that lists enough of what it binds, where the variable isn't listed
abbrev pub UnlistedLaw : Type 0
UnlistedLaw = (rules : List Rule) (p : Program) (q : Query) (journal : List Label) (c : Config) (l : Label) (d : Config) → Replays rules p q journal c → (a : Applies rules p c l d)
    → (list : List Var) → AreBoundIn c d a.site list → (x : Var) → (IsAmong x list → ⊥) → (n : Name) → IsEndAt c n x → Binds c d n x → ⊥

-- by the equations of each consistent root box a list has with each of its variables that is unstructured the oldest one that is equal to it
pub record HasEnds (c : Config) (list : List Var) : Type 0 where
  pub each : (n : Name) (f : Found) → box_at n c.roots ≡ Some f → f.around ≡ [] → IsConsistent (whole f) → KeepsOldest (whole f) list

-- then, where the labels spare each of the list, none of it is bound or made equal, in any box, and the list stays so
abbrev pub SparedLaw : Type 0
SparedLaw = (rules : List Rule) (p : Program) (q : Query) (journal : List Label) (c : Config) (ls : List Label) (d : Config) → Replays rules p q journal c → (w : Derives rules p c ls d)
    → (list : List Var) → ((x : Var) → IsAmong x list → IsOld c x.frame) → HasEnds c list → ((x : Var) → IsAmong x list → SparesEnd rules p c ls d w x)
    → ((x : Var) → IsAmong x list → Unchanged rules p c ls d w (Item.Binding x)) × HasEnds d list
