-- Goals and sets of goals change alike in both details.
use Rattle.std.proofs.Common.{ℕ, List, Option, Some, None}
use Rattle.akl_terms.specs.declared.name.Name.{Name}
use Rattle.akl_terms.specs.declared.name.Place.{Place}
use Rattle.akl_terms.specs.declared.program.Program.{Program}
use Rattle.akl_terms.specs.declared.program.Query.{Query}
use Rattle.akl_model.specs.declared.item.Item.{Item}
use Rattle.akl_model.specs.declared.label.Rule.{Rule}
use Rattle.akl_model.specs.declared.label.Label.{Label}
use Rattle.akl_model.specs.Config.{Boxes, no_boxes, box, Goals, no_goals, atom, choice, Held, an_atom, a_choice, held_in, Found}
use Rattle.akl_model.specs.Stable.{only}
use Rattle.akl_model.specs.Changes.{by_store, by_binding}
use Rattle.step_laws.specs.Inside.{EachItem, EachItemAmong}
use Rattle.plan_laws.specs.ByGoals.{by_goals}
use Rattle.plan_laws.specs.Idle.{EachGoals, OfAlternatives, Watches}
use Rattle.plan_laws.specs.Stamps.{IsStamped}
use Rattle.reading_laws.specs.Seen.{IsSeen}
use Rattle.table_laws.proofs.LastChanges.{last_alike}

-- of alternatives sets of goals alone are watched
each_set_of : (U V : Item → Type 0) → ((n : Name) → U (Item.Goals n) → V (Item.Goals n)) → (bs : Boxes) → EachGoals U bs → EachGoals V bs
each_set_of U V set no_boxes x = tt
each_set_of U V set (box b gs bs) x = (set b.name x.0, each_set_of U V set bs x.1)

pub sets_of : (U V : Item → Type 0) → ((n : Name) → U (Item.Goals n) → V (Item.Goals n)) → (o : Option Held) → OfAlternatives U o → OfAlternatives V o
sets_of U V set None x = tt
sets_of U V set (Some (an_atom a)) x = tt
sets_of U V set (Some (a_choice o bs)) x = each_set_of U V set bs x

-- what a place watches by goals and sets of goals may be said more strongly of these alone
module _ (U V : Item → Type 0) (goal : (g : Name) → U (Item.Goal g) → V (Item.Goal g)) (set : (n : Name) → U (Item.Goals n) → V (Item.Goals n)) where
  mutual
    each_set : (bs : Boxes) → EachItem (λ (i : Item). U (by_goals i)) bs → EachItem (λ (i : Item). V (by_goals i)) bs
    each_set no_boxes x = tt
    each_set (box b gs bs) x = (set b.name x.0, set b.name x.1, each_set_among gs x.2, each_set bs x.3)

    each_set_among : (gs : Goals) → EachItemAmong (λ (i : Item). U (by_goals i)) gs → EachItemAmong (λ (i : Item). V (by_goals i)) gs
    each_set_among no_goals x = tt
    each_set_among (atom g a gs) x = (goal g x.0, each_set_among gs x.1)
    each_set_among (choice g o bs gs) x = (goal g x.0, each_set bs x.1, each_set_among gs x.2)

  pub watches_sets : (place : Place) (f : Found) → Watches (λ (i : Item). U (by_goals i)) place f → Watches (λ (i : Item). V (by_goals i)) place f
  watches_sets (Place.Goal g) f x = (goal g x.0, (λ m i. set m (x.1 m i)), sets_of (λ (i : Item). U (by_goals i)) (λ (i : Item). V (by_goals i)) set (held_in g f.goals) x.2)
  watches_sets (Place.Box n) f x = (each_set (only f) x.0, λ m i. set m (x.1 m i))

pub set_stamped : (rules : List Rule) (p : Program) (q : Query) (journal : List Label) (seen : ℕ) (n : Name) → IsSeen rules p q journal seen (Item.Goals n) → IsStamped rules p q journal seen (Item.Goals n)
set_stamped rules p q journal seen n x = record { number = x.number; last = last_alike by_binding by_store rules p q journal (Item.Goals n) (λ c d z. z) (λ c d z. z) x.number x.last; early = x.early }

pub goal_stamped : (rules : List Rule) (p : Program) (q : Query) (journal : List Label) (seen : ℕ) (g : Name) → IsSeen rules p q journal seen (Item.Goal g) → IsStamped rules p q journal seen (Item.Goal g)
goal_stamped rules p q journal seen g x = record { number = x.number; last = last_alike by_binding by_store rules p q journal (Item.Goal g) (λ c d z. z) (λ c d z. z) x.number x.last; early = x.early }
