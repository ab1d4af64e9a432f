-- What a box has itself: its frames and ports stand in order, and all of it stands in the boxes around.
use Rattle.std.proofs.Common.{◌≡◌, ◌+◌, ◌≤◌, ◌<◌, List, ◌∷◌, ◌++◌, sym, subst, inl, inr, arith}
use Rattle.akl_terms.specs.declared.name.Name.{Name}
use Rattle.akl_model.specs.Config.{IsIn, Content, Boxes, no_boxes, box, Goals, no_goals, atom, choice}
use Rattle.akl_model.specs.Renaming.{port_names}
use Rattle.akl_model.specs.Ordered.{IsIncreasing, BoxesOrdered, GoalsOrdered}
use Rattle.akl_model.specs.Names.{times_in}
use Rattle.akl_model.specs.Changes.{goal_names}
use Rattle.akl_model.proofs.Finds.{times_in-append, times, times_inside}
use Rattle.akl_model.proofs.ScopesAlong.{counted_in, times_path}
use Rattle.step_laws.specs.Whereabouts.{BoxIn, InGoals}
use Rattle.step_laws.proofs.Whereabouts.{in_counted}
use Rattle.table_laws.proofs.Insides.{goal_names_less}

mutual
  pub found_ordered : (r : List Content) (k : Content) (hs : Goals) (bs : Boxes) → BoxIn r k hs bs → BoxesOrdered bs → IsIncreasing k.frames × IsIncreasing (port_names k.ports)
  found_ordered r k hs no_boxes x o = absurd x
  found_ordered r k hs (box b gs bs) (inl e) o = subst (λ (c : Content). IsIncreasing c.frames × IsIncreasing (port_names c.ports)) (sym e.1) (o.0, o.1)
  found_ordered r k hs (box b gs bs) (inr (inl w)) o = among_ordered w.0 k hs gs w.2 o.2
  found_ordered r k hs (box b gs bs) (inr (inr x)) o = found_ordered r k hs bs x o.3

  among_ordered : (r : List Content) (k : Content) (hs gs : Goals) → InGoals r k hs gs → GoalsOrdered gs → IsIncreasing k.frames × IsIncreasing (port_names k.ports)
  among_ordered r k hs no_goals x o = absurd x
  among_ordered r k hs (atom g a gs) x o = among_ordered r k hs gs x o.1
  among_ordered r k hs (choice g p bs gs) (inl x) o = found_ordered r k hs bs x o.1
  among_ordered r k hs (choice g p bs gs) (inr x) o = among_ordered r k hs gs x o.2

-- a box with its frames, ports and goals
abbrev pub own : Content → Goals → List Name
own k hs = k.name ∷ (k.frames ++ (port_names k.ports ++ goal_names hs))

own_counted : (m : Name) (k : Content) (hs : Goals) → IsIn m (own k hs) → 1 ≤ times m (box k hs no_boxes)
own_counted m k hs i =
    let a : 0 < times_in m (own k hs) = counted_in m (own k hs) i in
    let b : times_in m (k.frames ++ (port_names k.ports ++ goal_names hs)) ≡ times_in m k.frames + times_in m (port_names k.ports ++ goal_names hs) = times_in-append m k.frames (port_names k.ports ++ goal_names hs) in
    let c : times_in m (port_names k.ports ++ goal_names hs) ≡ times_in m (port_names k.ports) + times_in m (goal_names hs) = times_in-append m (port_names k.ports) (goal_names hs) in
    let d : times_in m (goal_names hs) ≤ times_inside m hs = goal_names_less m hs in
    omega arith

pub owned_counted : (m : Name) (r : List Content) (k : Content) (hs : Goals) (bs : Boxes) → BoxIn r k hs bs → IsIn m (own k hs) → 1 ≤ times m bs
owned_counted m r k hs bs x i =
    let a : times m (box k hs no_boxes) + times_path m r ≤ times m bs = in_counted m r k hs bs x in
    let b : 1 ≤ times m (box k hs no_boxes) = own_counted m k hs i in
    omega arith
