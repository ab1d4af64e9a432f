-- What Split reads: all inside the box, and whether the boxes around it are consistent.
use Rattle.reading_laws.specs.Unchanged.{Unchanged}
use Rattle.std.specs.Prelude.{◌≡◌, List, Some}
use Rattle.akl_terms.specs.declared.name.Name.{Name}
use Rattle.akl_terms.specs.declared.name.Place.{Place}
use Rattle.akl_terms.specs.declared.program.Program.{Program}
use Rattle.akl_terms.specs.Equal.{IsConsistent}
use Rattle.akl_model.specs.declared.label.Rule.{Rule}
use Rattle.akl_model.specs.declared.label.Label.{Label}
use Rattle.akl_model.specs.Config.{Config, Found, environment, box_at}
use Rattle.akl_model.specs.Stable.{only}
use Rattle.akl_model.specs.Derivations.{Applies}
use Rattle.step_laws.specs.Inside.{EachItem}
use Rattle.step_laws.specs.Stays.{GoesOn}
use Rattle.plan_laws.specs.Right.{NoneBy, IsRightOn}

-- all inside the box is unchanged, and the equations around it are consistent later. No binding is read: a stable box stays stable while its environment grows consistently
pub record ReadsSplit (rules : List Rule) (p : Program) (c : Config) (ls : List Label) (d : Config) (w : GoesOn rules p c ls d) (n : Name) (f : Found) : Type 0 where
  pub inside : EachItem (Unchanged rules p c ls d w.derives) (only f)
  pub now : Found
  pub is_now : box_at n d.roots ≡ Some now
  pub consistent : IsConsistent (environment now)

abbrev pub SplitRightLaw : Type 0
SplitRightLaw = (rules : List Rule) (p : Program) (c : Config) (ls : List Label) (d : Config) (w : GoesOn rules p c ls d) (l : Label) (e : Config) (a : Applies rules p c l e) → NoneBy l ls
    → (n : Name) → l.rule ≡ Rule.Split → l.place ≡ Place.Box n → ReadsSplit rules p c ls d w n a.site → IsRightOn a d
