-- The goals of each box stand in increasing order of names.
use Rattle.std.proofs.Common.{List, sym, subst, inl, inr}
use Rattle.akl_model.specs.Config.{Content, Boxes, no_boxes, box, Goals, no_goals, atom, choice}
use Rattle.akl_model.specs.Changes.{goal_names}
use Rattle.akl_model.specs.Ordered.{IsIncreasing, BoxesOrdered, GoalsOrdered}
use Rattle.step_laws.specs.Whereabouts.{BoxIn, InGoals}

pub names_increase : (gs : Goals) → GoalsOrdered gs → IsIncreasing (goal_names gs)
names_increase no_goals o = tt
names_increase (atom g a gs) o = (o.0, names_increase gs o.1)
names_increase (choice g op bs gs) o = (o.0, names_increase gs o.2)

-- of a box that stands in others
mutual
  pub stood_ordered : (r : List Content) (k : Content) (hs : Goals) (bs : Boxes) → BoxIn r k hs bs → BoxesOrdered bs → GoalsOrdered hs
  stood_ordered r k hs no_boxes x o = absurd x
  stood_ordered r k hs (box b gs bs) (inl e) o = subst GoalsOrdered (sym e.2) o.2
  stood_ordered r k hs (box b gs bs) (inr (inl w)) o = among_ordered w.0 k hs gs w.2 o.2
  stood_ordered r k hs (box b gs bs) (inr (inr x)) o = stood_ordered r k hs bs x o.3

  among_ordered : (r : List Content) (k : Content) (hs gs : Goals) → InGoals r k hs gs → GoalsOrdered gs → GoalsOrdered hs
  among_ordered r k hs no_goals x o = absurd x
  among_ordered r k hs (atom g a gs) x o = among_ordered r k hs gs x o.1
  among_ordered r k hs (choice g op bs gs) (inl x) o = stood_ordered r k hs bs x o.1
  among_ordered r k hs (choice g op bs gs) (inr x) o = among_ordered r k hs gs x o.2
