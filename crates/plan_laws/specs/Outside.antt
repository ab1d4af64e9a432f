-- Which of the variables that a label binds are external to the box in which it binds them.
use Rattle.std.specs.Prelude.{◌≡◌, List, [], ◌∷◌, ◌++◌}
use Rattle.akl_terms.specs.declared.name.Name.{Name}
use Rattle.akl_terms.specs.declared.name.Var.{Var}
use Rattle.akl_terms.specs.declared.program.Program.{Program}
use Rattle.akl_terms.specs.declared.program.Query.{Query}
use Rattle.akl_terms.specs.Tree.{variable}
use Rattle.akl_terms.specs.Equal.{Equal}
use Rattle.akl_terms.specs.Touching.{IsOutside}
use Rattle.akl_model.specs.declared.label.Rule.{Rule}
use Rattle.akl_model.specs.declared.label.Label.{Label}
use Rattle.akl_model.specs.Config.{IsIn, Content, Config}
use Rattle.akl_model.specs.Derivations.{Applies, Replays}
use Rattle.akl_model.specs.Changes.{Adds, Binds}
use Rattle.akl_model.specs.Stable.{only, frames_of}

-- a variable that is bound in a box is external to it exactly where its frame is none of the box's own, since equations down to the box speak of no
-- frame of a box inside it
abbrev pub BoundOutsideLaw : Type 0
BoundOutsideLaw = (rules : List Rule) (p : Program) (q : Query) (journal : List Label) (c : Config) (l : Label) (d : Config) (n : Name) (x : Var) → Replays rules p q journal c → Applies rules p c l d
    → (b : Binds c d n x) → (IsOutside (frames_of (only b.adds.afterwards)) x → IsIn x.frame b.adds.afterwards.content.frames → ⊥)
    × ((IsIn x.frame b.adds.afterwards.content.frames → ⊥) → IsOutside (frames_of (only b.adds.afterwards)) x)

-- variables that are equal by the equations of the outermost of the boxes down to it, before the label, are external to it alike
abbrev pub EqualOutsideLaw : Type 0
EqualOutsideLaw = (rules : List Rule) (p : Program) (q : Query) (journal : List Label) (c : Config) (l : Label) (d : Config) (n : Name) → Replays rules p q journal c → Applies rules p c l d
    → (a : Adds c d n) (outermost : Content) (inner : List Content) → a.before.around ++ a.before.content ∷ [] ≡ outermost ∷ inner
    → (x y : Var) → Equal outermost.equations (variable x) (variable y) → IsOutside (frames_of (only a.afterwards)) x → IsOutside (frames_of (only a.afterwards)) y
