-- A step that is right still binds what it bound.
use Rattle.std.proofs.Common.{inr, inl, ◌≡◌, List, [], ◌∷◌, ◌++◌, length, sym, ◌∙◌, subst}
use Rattle.std.specs.Prelude.{slice_index}
use Rattle.akl_terms.specs.declared.name.Name.{Name}
use Rattle.akl_terms.specs.declared.name.Var.{Var}
use Rattle.akl_terms.specs.declared.name.Place.{Place}
use Rattle.akl_terms.specs.declared.program.Program.{Program}
use Rattle.akl_terms.specs.declared.program.Query.{Query}
use Rattle.akl_terms.specs.Tree.{variable}
use Rattle.akl_terms.specs.Equal.{Equations, Equal}
use Rattle.constraint_laws.specs.Touched.{IsAmong}
use Rattle.constraint_laws.specs.Oldest.{HasOldest}
use Rattle.akl_model.specs.declared.item.Item.{Item}
use Rattle.akl_model.specs.declared.label.Rule.{Rule}
use Rattle.akl_model.specs.declared.label.Label.{Label}
use Rattle.akl_model.specs.Config.{IsIn, Config, Found}
use Rattle.akl_model.specs.Instances.{start}
use Rattle.akl_model.specs.Derivations.{Applies, Derives, Replays}
use Rattle.akl_model.specs.Changes.{Binds}
use Rattle.akl_model.specs.Wakes.{names_down_to}
use Rattle.akl_model.proofs.Options.{some_value}
use Rattle.akl_model.proofs.Results.{Derives-append, Applies-one}
use Rattle.step_laws.specs.Stays.{GoesOn, IsSameBox}
use Rattle.plan_laws.specs.Right.{Reads, NoneBy, IsRightOn}
use Rattle.plan_laws.specs.Stamps as stamps
use Rattle.plan_laws.specs.BoundAgain.{AddsNone, BindsAlike}
use Rattle.plan_laws.proofs.StampLaws.{stamped, stamped_right}
use Rattle.plan_laws.proofs.BoundAgain.{binds_none, binds_again}
use Rattle.table_laws.specs.Steps.{Step, tells, forks, fails, cuts, joins, refutes, confirms, splits, Makes, ReadsFor}
use Rattle.step_laws.specs.Bound.{first_equations, outermost_equations, AreBoundIn}

-- of boxes with the same contents down to them the outermost one's equations are the same
pub same_outermost : (f g : Found) → IsSameBox f g → outermost_equations f ≡ outermost_equations g
same_outermost f g s = λ i. first_equations (s.around i ++ s.content i ∷ [])

module _ (rules : List Rule) (p : Program) (q : Query) (journal further : List Label) (c d : Config) (l : Label) (e : Config) (a : Applies rules p c l e) (list : List Var)
    (replays : Replays rules p q journal c) (derives : Derives rules p c further d) (none : NoneBy l further) (bound : AreBoundIn c e a.site list) (result : Config) (now : Applies rules p d l result) where
  abbrev Stamped : Item → Type 0
  Stamped i = stamps.IsStamped rules p q (journal ++ further) (length journal) i

  abbrev on : GoesOn rules p c further d
  on = record { query = q; journal = journal; replays = replays; derives = derives }

  replays_on : Replays rules p q (journal ++ further) d
  replays_on = record { derives = Derives-append rules p (start p q) c d journal further replays.derives derives }

  -- where no equations are added, none of the list is bound, and nothing else
  by_none : AddsNone l.rule → AreBoundIn d result now.site list
  by_none z = record {
    each = λ y m. absurd (unbound y (bound.each y m));
    every = λ x b. absurd (binds_none rules p q (journal ++ further) d l result replays_on now z x b);
    oldest = λ x w m o. absurd (unbound x (bound.each x m));
  }
    where
      unbound : (x : Var) → Binds c e a.site.content.name x → ⊥
      unbound x b = binds_none rules p q journal c l e replays a z x b

  -- where the constraints down to the box are unchanged, the same is bound
  module _ (r : IsRightOn a d) (unchanged : (m : Name) → IsIn m (names_down_to a.site) → Stamped (Item.Store m)) where
    again : IsSameBox a.site r.applies.site × BindsAlike c e d r.result a.site.content.name
    again = binds_again rules p c further d on l e a r (λ m i. stamped rules p q journal further c d (Item.Store m) replays derives (unchanged m i))

    outermost : outermost_equations a.site ≡ outermost_equations r.applies.site
    outermost = same_outermost a.site r.applies.site again.0

    bound_there : AreBoundIn d r.result r.applies.site list
    bound_there = record {
      each = λ y m. subst (λ (n : Name). Binds d r.result n y) r.same_site (again.1.later y (bound.each y m));
      every = λ x b.
          let w : (y : Var) × IsAmong y list × Equal (outermost_equations a.site) (variable x) (variable y) = bound.every x (again.1.before x (subst (λ (n : Name). Binds d r.result n x) (sym r.same_site) b)) in
          (w.0, w.1, subst (λ (E : Equations). Equal E (variable x) (variable w.0)) outermost w.2);
      oldest = subst (λ (E : Equations). HasOldest E list) outermost bound.oldest;
    }

    by_stores : AreBoundIn d result now.site list
    by_stores = subst (λ (f : Found). AreBoundIn d result f list) (some_value (sym r.applies.is_site ∙ now.is_site)) (subst (λ (k : Config). AreBoundIn d k r.applies.site list) (Applies-one r.applies now) bound_there)

  -- what is read of a goal by the rule
  reads_as : (rule : Rule) (g : Name) → l.rule ≡ rule → l.place ≡ Place.Goal g → Reads Stamped l.rule l.place l.alternative a.site → Reads Stamped rule (Place.Goal g) l.alternative a.site
  reads_as rule g r i u = subst (λ (x : Rule). Reads Stamped x (Place.Goal g) l.alternative a.site) r (subst (λ (x : Place). Reads Stamped l.rule x l.alternative a.site) i u)

  right : Reads Stamped l.rule l.place l.alternative a.site → IsRightOn a d
  right u = stamped_right rules p q journal further c d l e a replays derives none u

  pub by_step : (step : Step) → ReadsFor Stamped l a.site step → Makes p l (slice_index c.next l.worker) a.site step → AreBoundIn d result now.site list
  by_step (tells new solved) u m = by_stores (right u.0) u.1
  by_step (forks op news) u m = by_none (subst AddsNone (sym m.0) tt)
  by_step fails u m = by_none (subst AddsNone (sym m) tt)
  by_step cuts u m = by_none (subst AddsNone (sym m.0) tt)
  by_step (joins new solved goals) u m = by_stores (right u) (elim m.2.origin [ inl y ↦ (reads_as Rule.Promote m.0 y.rule m.1 u).1 | inr y ↦ (reads_as Rule.Collect m.0 y.rule m.1 u).1 ])
  by_step refutes u m = by_stores (right u) (reads_as Rule.Eval m.1.0 m.0 m.1.1 u).1
  by_step confirms u m = by_stores (right u) (reads_as Rule.Eval m.1.0 m.0 m.1.1 u).1
  by_step (splits copy copies) u m = by_none (subst AddsNone (sym m.0) tt)

pub binds_later : (rules : List Rule) (p : Program) (q : Query) (journal further : List Label) (c d : Config) (l : Label) (e : Config) (a : Applies rules p c l e) (step : Step) (list : List Var)
    → Replays rules p q journal c → Derives rules p c further d → NoneBy l further
    → ReadsFor (stamps.IsStamped rules p q (journal ++ further) (length journal)) l a.site step → Makes p l (slice_index c.next l.worker) a.site step → AreBoundIn c e a.site list
    → (result : Config) (now : Applies rules p d l result) → AreBoundIn d result now.site list
binds_later rules p q journal further c d l e a step list replays derives none u m bound result now = by_step rules p q journal further c d l e a list replays derives none bound result now step u m
