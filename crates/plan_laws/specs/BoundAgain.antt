-- What a label binds in the box of its place, where it is made and in a later configuration.
use Rattle.std.specs.Prelude.{List, ⊤}
use Rattle.akl_terms.specs.declared.name.Name.{Name}
use Rattle.akl_terms.specs.declared.name.Var.{Var}
use Rattle.akl_terms.specs.declared.program.Program.{Program}
use Rattle.akl_terms.specs.declared.program.Query.{Query}
use Rattle.akl_model.specs.declared.item.Item.{Item}
use Rattle.akl_model.specs.declared.label.Rule.{Rule}
use Rattle.akl_model.specs.declared.label.Label.{Label}
use Rattle.akl_model.specs.Config.{IsIn, Config}
use Rattle.akl_model.specs.Derivations.{Applies, Replays}
use Rattle.akl_model.specs.Changes.{Binds}
use Rattle.akl_model.specs.Wakes.{names_down_to}
use Rattle.step_laws.specs.Stays.{GoesOn, Leaves, IsSameBox}
use Rattle.plan_laws.specs.Right.{IsRightOn}

-- the rules that never add equations to the box of a place
abbrev pub AddsNone : Rule → Type 0
AddsNone Rule.Fork = ⊤
AddsNone Rule.Fail = ⊤
AddsNone Rule.Cut = ⊤
AddsNone Rule.Split = ⊤
AddsNone r = ⊥

-- a label by one of them binds nothing there
abbrev pub BindsNoneLaw : Type 0
BindsNoneLaw = (rules : List Rule) (p : Program) (q : Query) (journal : List Label) (c : Config) (l : Label) (d : Config) → Replays rules p q journal c → (a : Applies rules p c l d) → AddsNone l.rule
    → (x : Var) → Binds c d a.site.content.name x → ⊥

-- from c to e and from d to f the same variables are bound in a box
pub record BindsAlike (c e d f : Config) (n : Name) : Type 0 where
  pub later : (x : Var) → Binds c e n x → Binds d f n x
  pub before : (x : Var) → Binds d f n x → Binds c e n x

-- a label that is right for a later configuration binds the same there in the box of its place, where the constraints of this and of the boxes
-- around it are unchanged
abbrev pub BindsAgainLaw : Type 0
BindsAgainLaw = (rules : List Rule) (p : Program) (c : Config) (ls : List Label) (d : Config) (w : GoesOn rules p c ls d) (l : Label) (e : Config) (a : Applies rules p c l e) (r : IsRightOn a d)
    → ((m : Name) → IsIn m (names_down_to a.site) → Leaves w (Item.Store m)) → IsSameBox a.site r.applies.site × BindsAlike c e d r.result a.site.content.name
