-- What Fail of an inconsistent box reads: that the box is there.
use Rattle.reading_laws.specs.Unchanged.{Unchanged}
use Rattle.akl_model.specs.declared.item.Item.{Item}
use Rattle.std.specs.Prelude.{◌≡◌, List}
use Rattle.akl_terms.specs.declared.name.Name.{Name}
use Rattle.akl_terms.specs.declared.name.Place.{Place}
use Rattle.akl_terms.specs.declared.program.Program.{Program}
use Rattle.akl_terms.specs.Equal.{IsConsistent}
use Rattle.akl_model.specs.declared.label.Rule.{Rule}
use Rattle.akl_model.specs.declared.label.Label.{Label}
use Rattle.akl_model.specs.Config.{Config, whole}
use Rattle.akl_model.specs.Derivations.{Applies}
use Rattle.step_laws.specs.Stays.{GoesOn}
use Rattle.plan_laws.specs.Right.{NoneBy, IsRightOn}

-- equations only grow, so no binding is read (where a goal fails, `RightLaw` asks the goal alone already)
abbrev pub FailRightLaw : Type 0
FailRightLaw = (rules : List Rule) (p : Program) (c : Config) (ls : List Label) (d : Config) (w : GoesOn rules p c ls d) (l : Label) (e : Config) (a : Applies rules p c l e) → NoneBy l ls
    → (n : Name) → l.rule ≡ Rule.Fail → l.place ≡ Place.Box n → (IsConsistent (whole a.site) → ⊥) → Unchanged rules p c ls d w.derives (Item.Store n) → IsRightOn a d
