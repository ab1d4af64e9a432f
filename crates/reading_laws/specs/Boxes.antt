-- What is read of a box, and what of it stays.
use Rattle.constraint_laws.specs.Touched.{IsAmong}
use Rattle.std.specs.Prelude.{◌≡◌, List, Some, ◌⊎◌}
use Rattle.akl_terms.specs.declared.name.Name.{Name}
use Rattle.akl_terms.specs.declared.name.Var.{Var}
use Rattle.akl_terms.specs.declared.program.Program.{Program}
use Rattle.akl_terms.specs.declared.program.Query.{Query}
use Rattle.akl_terms.specs.Tree.{variable}
use Rattle.akl_terms.specs.Equal.{Equations, Equal, Follows, IsConsistent, IsStructured}
use Rattle.akl_model.specs.declared.item.Item.{Item}
use Rattle.akl_model.specs.declared.label.Rule.{Rule}
use Rattle.akl_model.specs.declared.label.Label.{Label}
use Rattle.akl_model.specs.Config.{IsIn, Config, Found, whole, box_at}
use Rattle.akl_model.specs.Derivations.{Derives, Replays}
use Rattle.akl_model.specs.Wakes.{names_down_to}
use Rattle.step_laws.specs.Bound.{outermost_equations}
use Rattle.reading_laws.specs.Closed.{Spares}
use Rattle.reading_laws.specs.Unchanged.{Unchanged, AreEnough}

-- the boxes down to one are there, with their ports, and no equations are added to them that clash
abbrev pub BoxesUnchanged : (rules : List Rule) (p : Program) (c : Config) (ls : List Label) (d : Config) → Derives rules p c ls d → Found → Type 0
BoxesUnchanged rules p c ls d w f = (m : Name) → IsIn m (names_down_to f) → Unchanged rules p c ls d w (Item.Store m)

-- a box stays with its ports, its equations grow, and where they were consistent they are, and none of the variables is bound
pub record StaysUnbound (R : Var → Type 0) (d : Config) (n : Name) (f : Found) : Type 0 where
  pub now : Found
  pub is : box_at n d.roots ≡ Some now
  pub names : names_down_to now ≡ names_down_to f
  pub ports : now.content.ports ≡ f.content.ports
  pub grows : Follows (whole f) (whole now)
  pub spares : IsConsistent (whole f) → Spares R (whole f) (whole now)

-- a variable is read by its end: it is structured by the outermost box's equations, or equal to one of which the binding is unchanged
abbrev pub EndUnchanged : (rules : List Rule) (p : Program) (c : Config) (ls : List Label) (d : Config) → Derives rules p c ls d → Equations → Var → Type 0
EndUnchanged rules p c ls d w E x = IsStructured E x ⊎ ((z : Var) × Equal E (variable x) (variable z) × Unchanged rules p c ls d w (Item.Binding z))

-- over many labels that bind none of a list that is enough for the equations of the boxes inside the root box, whatever frames came
abbrev pub EnoughUnboundLaw : Type 0
EnoughUnboundLaw = (rules : List Rule) (p : Program) (q : Query) (journal : List Label) (c : Config) (ls : List Label) (d : Config) → Replays rules p q journal c → (w : Derives rules p c ls d)
    → (n : Name) (f : Found) (reads : List Var) → box_at n c.roots ≡ Some f → BoxesUnchanged rules p c ls d w f → AreEnough reads f
    → ((x : Var) → IsAmong x reads → EndUnchanged rules p c ls d w (outermost_equations f) x) → StaysUnbound (λ x. IsAmong x reads) d n f
