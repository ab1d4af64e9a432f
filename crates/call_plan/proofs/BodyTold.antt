-- What is told of the body of the alternative that is promoted.
use Rattle.std.specs.Prelude.{◌≡◌, ℕ, ◌+◌, List, ◌++◌, length, slice_index}
use Rattle.akl_terms.specs.declared.name.Name.{Name}
use Rattle.akl_terms.specs.declared.name.Var.{Var}
use Rattle.akl_terms.specs.declared.program.Program.{Program}
use Rattle.akl_terms.specs.declared.term.Term.{Term}
use Rattle.akl_terms.specs.Equal.{Equations, IsConsistent}
use Rattle.akl_model.specs.declared.label.Label.{Label}
use Rattle.akl_model.specs.Config.{Atom, Content, Config, with_names, with_ports, Found, equations_of, environment}
use Rattle.akl_model.specs.Rules.{joining}
use Rattle.local_store.specs.Stored.{Stored}
use Rattle.table_laws.specs.Rows.{ports_in}
use Rattle.plan_laws.specs.AtOnce.{Tells}
use Rattle.table_laws.specs.Calls.{StandOver, last_told}

module _ (p : Program) (c : Config) (w : ℕ) (f : Found) (last : Content) (drawn : ℕ) where
  -- the names of the body's goals are from here on
  abbrev pub first : ℕ
  first = slice_index c.next w + drawn

  -- the equations of the box after the promotion
  abbrev pub promoted : Equations
  promoted = f.content.equations ++ last.equations

  -- the labels behind the promotion, of which so many come up to the last that tells an equation, what the box has then, the goals that are left, and the store of the box
  pub record BodyTold (labels : List Label) (after : Content) (left : List (Name × Atom)) (new : Stored) (told : ℕ) : Type 0 where
    pub body : Tells p w (first + length last.body) f.around (joining last f.content) first last.body labels after left
    pub last_is : last_told p w (first + length last.body) f.around (joining last f.content) first last.body labels after left body 0 0 ≡ told
    pub consistent : IsConsistent (equations_of f.around ++ after.equations)
    pub between : (E more : Equations) → after.equations ≡ promoted ++ (E ++ more) → (bindings : List (Var × Term)) × StandOver p.templates.nodes (environment f) (environment f ++ (promoted ++ E)) bindings
    pub frames : new.frames ≡ with_names last.frames f.content.frames
    pub ports : ports_in p.templates.nodes new.ports ≡ with_ports last.ports f.content.ports
    pub stands : StandOver p.templates.nodes (environment f) (environment f ++ after.equations) new.bindings
