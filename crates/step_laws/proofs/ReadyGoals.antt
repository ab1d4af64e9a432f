-- A goal is ready exactly where a rule may be used at it.
use Rattle.std.proofs.Common.{◌≡◌, ℕ, ◌<◌, ◌^◌, List, Option, Some, refl, sym, ◌∙◌, subst}
use Rattle.std.specs.Prelude.{slice_index}
use Rattle.akl_terms.specs.declared.name.Name.{Name}
use Rattle.akl_terms.specs.declared.name.Place.{Place}
use Rattle.akl_terms.specs.declared.program.Program.{Program}
use Rattle.akl_model.specs.declared.label.Rule.{Rule}
use Rattle.akl_model.specs.declared.label.Label.{Label}
use Rattle.akl_model.specs.Config.{Config, Found, home_of, site_of}
use Rattle.akl_model.specs.Rules.{Change, Reading, change_by}
use Rattle.akl_model.specs.Stable.{Allows}
use Rattle.akl_model.specs.Derivations.{IsInForce, IsReady, after}
use Rattle.akl_model.proofs.Options.{some_value}

-- a rule may be used at a goal of a box, with these readings
pub record Usable (p : Program) (v : Reading) (w next : ℕ) (r : Rule) (g : Name) (alternative : Option Name) (f : Found) : Type 0 where
  pub change : Change
  pub is_change : change_by p v w next r (Place.Goal g) alternative f ≡ Some change
  pub allowed : Allows p v r (Place.Goal g) alternative f
  pub few_names : change.drawn < 2 ^ 32

-- so the goal is ready
pub ready_by : (rules : List Rule) (p : Program) (c : Config) (g : Name) (f : Found) (l : Label) (v : Reading) → IsInForce rules l.rule → home_of g c.roots ≡ Some f
    → Usable p v l.worker (slice_index c.next l.worker) l.rule g l.alternative f → IsReady rules p c (Place.Goal g)
ready_by rules p c g f l v force e u = record {
  label = k;
  is_place = refl;
  result = after c k f u.change;
  applies = record {
    in_force = force;
    site = f;
    is_site = e;
    change = u.change;
    makes = record { reading = v; change = u.is_change; allowed = u.allowed; few_names = u.few_names };
    result = refl;
  };
  counts = λ x. never x.fails;
}
  where
    k : Label
    k = record l { place = Place.Goal g }

    never : l.rule ≡ Rule.Fail → ⊥
    never q =
        let z : change_by p v l.worker (slice_index c.next l.worker) Rule.Fail (Place.Goal g) l.alternative f ≡ Some u.change =
        subst (λ (r : Rule). change_by p v l.worker (slice_index c.next l.worker) r (Place.Goal g) l.alternative f ≡ Some u.change) q u.is_change in cc

-- a ready goal has a rule that may be used
pub record ReadyGoal (rules : List Rule) (p : Program) (c : Config) (g : Name) (f : Found) : Type 0 where
  pub label : Label
  pub reading : Reading
  pub in_force : IsInForce rules label.rule
  pub usable : Usable p reading label.worker (slice_index c.next label.worker) label.rule g label.alternative f

pub ready_goal : (rules : List Rule) (p : Program) (c : Config) (g : Name) (f : Found) → home_of g c.roots ≡ Some f → IsReady rules p c (Place.Goal g) → ReadyGoal rules p c g f
ready_goal rules p c g f e z = record {
  label = l;
  reading = z.applies.makes.reading;
  in_force = z.applies.in_force;
  usable = record {
    change = z.applies.change;
    is_change = subst (λ (x : Found). change_by p z.applies.makes.reading l.worker (slice_index c.next l.worker) l.rule (Place.Goal g) l.alternative x ≡ Some z.applies.change) site
        (subst (λ (x : Place). change_by p z.applies.makes.reading l.worker (slice_index c.next l.worker) l.rule x l.alternative z.applies.site ≡ Some z.applies.change) z.is_place z.applies.makes.change);
    allowed = subst (λ (x : Found). Allows p z.applies.makes.reading l.rule (Place.Goal g) l.alternative x) site
        (subst (λ (x : Place). Allows p z.applies.makes.reading l.rule x l.alternative z.applies.site) z.is_place z.applies.makes.allowed);
    few_names = z.applies.makes.few_names;
  };
}
  where
    l : Label
    l = z.label

    site : z.applies.site ≡ f
    site = some_value (sym (subst (λ (x : Place). site_of x c.roots ≡ Some z.applies.site) z.is_place z.applies.is_site) ∙ e)

-- a goal is there where it is ready
pub ready_there : (rules : List Rule) (p : Program) (c : Config) (g : Name) → IsReady rules p c (Place.Goal g) → (f : Found) × (home_of g c.roots ≡ Some f)
ready_there rules p c g z = (z.applies.site, subst (λ (x : Place). site_of x c.roots ≡ Some z.applies.site) z.is_place z.applies.is_site)
