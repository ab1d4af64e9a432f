-- What the rules at an atom, and Collect, read for being right, in every box: no binding.
use Rattle.std.specs.Prelude.{◌≡◌, List, Some, ⊤}
use Rattle.akl_terms.specs.declared.name.Name.{Name}
use Rattle.akl_terms.specs.declared.name.Place.{Place}
use Rattle.akl_terms.specs.declared.program.Program.{Program}
use Rattle.akl_terms.specs.Equal.{IsConsistent}
use Rattle.akl_model.specs.declared.item.Item.{Item}
use Rattle.akl_model.specs.declared.label.Rule.{Rule}
use Rattle.akl_model.specs.declared.label.Label.{Label}
use Rattle.akl_model.specs.Config.{Config, Found, whole, box_at}
use Rattle.akl_model.specs.Derivations.{Applies}
use Rattle.step_laws.specs.Stays.{GoesOn}
use Rattle.plan_laws.specs.Local.{Told, Becomes, NewGoals, reduces}
use Rattle.plan_laws.specs.Right.{NoneBy, IsRightOn}
use Rattle.reading_laws.specs.Unchanged.{Unchanged}

-- the rules at an atom
abbrev pub IsOfAtom : Rule → Type 0
IsOfAtom Rule.Tell = ⊤
IsOfAtom Rule.Fork = ⊤
IsOfAtom Rule.Open = ⊤
IsOfAtom Rule.Eval = ⊤
IsOfAtom Rule.Send = ⊤
IsOfAtom r = ⊥

-- the goal is unchanged, and its box has the ports that it had, and didn't become inconsistent. Values, comparisons and the port of a message last while equations grow
pub record ReadsGoal (rules : List Rule) (p : Program) (c : Config) (ls : List Label) (d : Config) (w : GoesOn rules p c ls d) (g : Name) (f : Found) : Type 0 where
  pub goal : Unchanged rules p c ls d w.derives (Item.Goal g)
  pub now : Found
  pub is_now : box_at f.content.name d.roots ≡ Some now
  pub ports : now.content.ports ≡ f.content.ports
  pub consistent : IsConsistent (whole f) → IsConsistent (whole now)

-- right still, and its local change reduces a goal and tells something to the box: what `ListedLaw` asks
pub record ReducesStill {rules : List Rule} {p : Program} {c : Config} {l : Label} {e : Config} (a : Applies rules p c l e) (d : Config) : Type 0 where
  pub right : IsRightOn a d
  pub told : Told
  pub goal : Name
  pub becomes : Becomes
  pub new : NewGoals
  pub change : right.change ≡ reduces told goal becomes new

-- then a label of Tell, Fork, Open, Eval or Send leads on, with the same local change
abbrev pub AtomRightLaw : Type 0
AtomRightLaw = (rules : List Rule) (p : Program) (c : Config) (ls : List Label) (d : Config) (w : GoesOn rules p c ls d) (l : Label) (e : Config) (a : Applies rules p c l e) → NoneBy l ls
    → (g : Name) → IsOfAtom l.rule → l.place ≡ Place.Goal g → ReadsGoal rules p c ls d w g a.site → ReducesStill a d

-- and so does a label of Collect: its alternatives are solved, so they stay, and they are quiet while the box around them is consistent
abbrev pub CollectRightLaw : Type 0
CollectRightLaw = (rules : List Rule) (p : Program) (c : Config) (ls : List Label) (d : Config) (w : GoesOn rules p c ls d) (l : Label) (e : Config) (a : Applies rules p c l e) → NoneBy l ls
    → (g : Name) → l.rule ≡ Rule.Collect → l.place ≡ Place.Goal g → ReadsGoal rules p c ls d w g a.site → ReducesStill a d
