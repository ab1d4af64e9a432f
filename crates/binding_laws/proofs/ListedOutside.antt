-- Whether a label binds a variable that is external to its box is seen by the listed ones.
use Rattle.std.proofs.Common.{◌≡◌, List, [], ◌∷◌, ◌++◌, Some, refl, sym, ◌∙◌, ap, subst}
use Rattle.akl_terms.specs.declared.name.Name.{Name}
use Rattle.akl_terms.specs.declared.name.Var.{Var}
use Rattle.akl_terms.specs.declared.program.Program.{Program}
use Rattle.akl_terms.specs.declared.program.Query.{Query}
use Rattle.akl_terms.specs.Tree.{variable}
use Rattle.akl_terms.specs.Equal.{Equations, Equal}
use Rattle.akl_terms.specs.Touching.{IsOutside}
use Rattle.constraint_laws.specs.Touched.{IsAmong}
use Rattle.akl_model.specs.declared.label.Rule.{Rule}
use Rattle.akl_model.specs.declared.label.Label.{Label}
use Rattle.akl_model.specs.Config.{IsIn, Content, Config, Found, box_at}
use Rattle.akl_model.specs.Derivations.{Applies, Replays}
use Rattle.akl_model.specs.Changes.{Binds}
use Rattle.akl_model.specs.Stable.{only, frames_of}
use Rattle.akl_model.proofs.Options.{some_value}
use Rattle.akl_model.proofs.NamesKept.{replay-stands}
use Rattle.step_laws.proofs.Steps.{found}
use Rattle.plan_laws.proofs.Outside as outside
use Rattle.step_laws.specs.Bound.{first_equations, outermost_equations, AreBoundIn}
use Rattle.binding_laws.specs.Bindings.{BindsOutside, HasOuter}

-- boxes begin with the outermost one
pub first_of : (boxes : List Content) (b : Content) → (outermost : Content) × (inner : List Content) × (boxes ++ b ∷ [] ≡ outermost ∷ inner) × (first_equations (boxes ++ b ∷ []) ≡ outermost.equations)
first_of [] b = (b, [], refl, refl)
first_of (k ∷ ks) b = (k, ks ++ b ∷ [], refl, refl)

module _ (rules : List Rule) (p : Program) (q : Query) (journal : List Label) (c : Config) (l : Label) (d : Config) (replays : Replays rules p q journal c) (a : Applies rules p c l d) (list : List Var)
    (bound : AreBoundIn c d a.site list) (f : Found) (there : box_at a.site.content.name d.roots ≡ Some f) where
  abbrev n : Name
  n = a.site.content.name

  is_there : (x : Var) (b : Binds c d n x) → b.adds.afterwards ≡ f
  is_there x b = some_value (sym b.adds.is ∙ there)

  -- external to the box, and of none of its frames
  outer : (x : Var) → Binds c d n x → IsOutside (frames_of (only f)) x → IsIn x.frame f.content.frames → ⊥
  outer x b = subst (λ (g : Found). IsOutside (frames_of (only g)) x → IsIn x.frame g.content.frames → ⊥) (is_there x b) (outside.bound_outside rules p q journal c l d n x replays a b).0

  external : (x : Var) (b : Binds c d n x) → (IsIn x.frame f.content.frames → ⊥) → IsOutside (frames_of (only b.adds.afterwards)) x
  external x b o = (outside.bound_outside rules p q journal c l d n x replays a b).1 (subst (λ (g : Found). IsIn x.frame g.content.frames → ⊥) (sym (is_there x b)) o)

  pub has_outer : BindsOutside c d n → HasOuter list f.content.frames
  has_outer x =
      let w : (y : Var) × IsAmong y list × Equal (outermost_equations a.site) (variable x.variable) (variable y) = bound.every x.variable x.binds in
      let first : (outermost : Content) × (inner : List Content) × (x.binds.adds.before.around ++ x.binds.adds.before.content ∷ [] ≡ outermost ∷ inner) × (outermost_equations x.binds.adds.before ≡ outermost.equations) =
      first_of x.binds.adds.before.around x.binds.adds.before.content in
      let was : a.site ≡ x.binds.adds.before = some_value (sym site ∙ x.binds.adds.was) in
      let alike : IsOutside (frames_of (only x.binds.adds.afterwards)) w.0 = outside.equal_outside rules p q journal c l d n replays a x.binds.adds first.0 first.1 first.2 x.variable w.0
      (subst (λ (E : Equations). Equal E (variable x.variable) (variable w.0)) (ap outermost_equations was ∙ first.3) w.2) x.outside in
      record { variable = w.0; listed = w.1; outer = outer w.0 (bound.each w.0 w.1) (subst (λ (g : Found). IsOutside (frames_of (only g)) w.0) (is_there x.variable x.binds) alike) }
    where
      site : box_at n c.roots ≡ Some a.site
      site = found rules p c l d (replay-stands rules p q journal c replays) a

  pub binds_outside : HasOuter list f.content.frames → BindsOutside c d n
  binds_outside x = record { variable = x.variable; binds = bound.each x.variable x.listed; outside = external x.variable (bound.each x.variable x.listed) x.outer }

pub listed_outside : (rules : List Rule) (p : Program) (q : Query) (journal : List Label) (c : Config) (l : Label) (d : Config) → Replays rules p q journal c → (a : Applies rules p c l d) (list : List Var) → AreBoundIn c d a.site list
    → (f : Found) → box_at a.site.content.name d.roots ≡ Some f
    → (BindsOutside c d a.site.content.name → HasOuter list f.content.frames) × (HasOuter list f.content.frames → BindsOutside c d a.site.content.name)
listed_outside rules p q journal c l d replays a list bound f there = (has_outer rules p q journal c l d replays a list bound f there, binds_outside rules p q journal c l d replays a list bound f there)
