-- Plans stay right by the items that they read.
use Rattle.constraint_laws.specs.Touched.{IsAmong}
use Rattle.std.proofs.Common.{◌≡◌, List, ◌++◌, Some}
use Rattle.std.specs.Prelude.{◌↔◌}
use Rattle.akl_terms.specs.declared.name.Name.{Name}
use Rattle.akl_terms.specs.declared.name.Var.{Var}
use Rattle.akl_terms.specs.declared.name.Place.{Place}
use Rattle.akl_terms.specs.declared.program.Program.{Program}
use Rattle.akl_terms.specs.Equal.{IsConsistent}
use Rattle.akl_model.specs.declared.label.Rule.{Rule}
use Rattle.akl_model.specs.declared.label.Label.{Label}
use Rattle.akl_model.specs.Config.{Config, whole}
use Rattle.akl_model.specs.Derivations.{Applies}
use Rattle.step_laws.specs.Bound.{AreBoundIn}
use Rattle.step_laws.specs.Stays.{GoesOn}
use Rattle.plan_laws.specs.Right.{NoneBy}
use Rattle.reading_laws.specs.AtomRight.{IsOfAtom, ReadsGoal, ReducesStill}
use Rattle.reading_laws.specs.Plans.{ReadsItems, StaysRight}
use Rattle.reading_laws.specs.Guards.{ReadsInnerGuard}
use Rattle.reading_laws.specs.Boxes.{StaysUnbound}
use Rattle.reading_laws.specs.Guards.{IsOfChoice}
use Rattle.reading_laws.proofs.AtomRight.{atom_right, collect_right}
use Rattle.reading_laws.proofs.InnerListed.{inner_listed}
use Rattle.reading_laws.proofs.Boxes.{enough_unbound}
use Rattle.reading_laws.proofs.Untouched.{goal_site}
use Rattle.reading_laws.proofs.Guards.{inner_guard_right}

module _ (rules : List Rule) (p : Program) (c : Config) (ls : List Label) (d : Config) (w : GoesOn rules p c ls d) (l : Label) (e : Config) (a : Applies rules p c l e) (none : NoneBy l ls)
    (g : Name) (list : List Var) (bound : AreBoundIn c e a.site list) (u : ReadsItems rules p c ls d w g a.site list) where
  stays_right : ReducesStill a d → StaysRight a d list
  stays_right still =
      let k : (IsConsistent (whole a.site ++ still.told.equations) ↔ IsConsistent (whole still.right.applies.site ++ still.told.equations)) × ((result : Config) (now : Applies rules p d l result) → AreBoundIn d result now.site list) =
      inner_listed rules p c ls d w l e a still.right still.told list bound (record {
        goal = still.goal;
        becomes = still.becomes;
        new = still.new;
        change = still.change;
        stores = u.stores;
        inner = u.inner;
        enough = u.enough;
        within = u.within;
        bindings = u.bindings;
      }) in
      record { still = still; clash = k.0; binds = k.1 }

  alike : StaysUnbound (λ x. IsAmong x u.inner) d a.site.content.name a.site
  alike = enough_unbound rules p w.query w.journal c ls d w.replays w.derives a.site.content.name a.site u.inner (goal_site rules p c ls d w l e a) u.stores u.enough u.within

  reads : ReadsGoal rules p c ls d w g a.site
  reads = record { goal = u.goal; now = alike.now; is_now = alike.is; ports = alike.ports; consistent = λ h. (alike.spares h).consistent }

  pub atom_plan : IsOfAtom l.rule → l.place ≡ Place.Goal g → StaysRight a d list
  atom_plan kind place = stays_right (atom_right rules p c ls d w l e a none g place reads kind)

  pub collect_plan : l.rule ≡ Rule.Collect → l.place ≡ Place.Goal g → StaysRight a d list
  collect_plan rule place = stays_right (collect_right rules p c ls d w l e a none g place reads rule)

  pub choice_plan : (n : Name) → IsOfChoice l.rule → l.place ≡ Place.Goal g → l.alternative ≡ Some n → ReadsInnerGuard rules p c ls d w g n a.site list → StaysRight a d list
  choice_plan n kind place alternative v = stays_right (inner_guard_right rules p c ls d w l e a none g n kind place alternative list v)
