-- Boxes with the goals directly in them, as places.
use Rattle.std.proofs.Common.{◌≡◌, List, [], ◌∷◌, ◌++◌, Option, Some, None, refl, sym, ap, subst, inl, inr}
use Rattle.akl_terms.specs.declared.name.Name.{Name}
use Rattle.akl_terms.specs.declared.name.Place.{Place}
use Rattle.akl_model.specs.Config.{IsIn}
use Rattle.akl_model.specs.Wakes.{IsOneOf}
use Rattle.akl_model.proofs.Scoped.{IsIn-left, IsIn-right, IsIn-either}
use Rattle.table_laws.specs.Rows.{BoxRow, Table}
use Rattle.table_laws.specs.Inside.{IsDirectlyIn}
use Rattle.table_laws.specs.Going.{IsOfBoxes}
use Rattle.box_tree.specs.Tables.{goals_in}
use Rattle.opened_places.specs.Gone.{goals_named, places_at}
use Rattle.opened_places.proofs.Members.{part_places, part_boxes, part_goals, box_one, goal_one, one_part}

abbrev parts_at : Table → List Name → List (Name × List Name)
parts_at T [] = []
parts_at T (n ∷ ns) = (n, goals_in (T.box_of n)) ∷ parts_at T ns

parts_places : (T : Table) (ns : List Name) → places_at T ns ≡ part_places (parts_at T ns)
parts_places T [] = refl
parts_places T (n ∷ ns) = ap (λ (ps : List Place). Place.Box n ∷ (goals_named (goals_in (T.box_of n)) ++ ps)) (parts_places T ns)

parts_boxes : (T : Table) (ns : List Name) → part_boxes (parts_at T ns) ≡ ns
parts_boxes T [] = refl
parts_boxes T (n ∷ ns) = ap (λ (ms : List Name). n ∷ ms) (parts_boxes T ns)

pub direct : (T : Table) (n g : Name) → IsIn g (goals_in (T.box_of n)) → IsDirectlyIn T n g
direct T n g i = on (T.box_of n) refl i
  where
    on : (o : Option BoxRow) → T.box_of n ≡ o → IsIn g (goals_in o) → IsDirectlyIn T n g
    on None e i = absurd i
    on (Some r) e i = record { row = r; there = e; named = i }

pub in_row : (T : Table) (n g : Name) → IsDirectlyIn T n g → IsIn g (goals_in (T.box_of n))
in_row T n g x = subst (λ (o : Option BoxRow). IsIn g (goals_in o)) (sym x.there) x.named

goal_in_parts : (T : Table) (ns : List Name) (m g : Name) → IsIn m ns → IsDirectlyIn T m g → IsIn g (part_goals (parts_at T ns))
goal_in_parts T [] m g i x = absurd i
goal_in_parts T (n ∷ ns) m g (inl e) x = IsIn-left g (goals_in (T.box_of n)) (part_goals (parts_at T ns)) (in_row T n g (subst (λ (k : Name). IsDirectlyIn T k g) e x))
goal_in_parts T (n ∷ ns) m g (inr i) x = IsIn-right g (goals_in (T.box_of n)) (part_goals (parts_at T ns)) (goal_in_parts T ns m g i x)

parts_goal : (T : Table) (ns : List Name) (g : Name) → IsIn g (part_goals (parts_at T ns)) → (m : Name) × IsIn m ns × IsDirectlyIn T m g
parts_goal T [] g i = absurd i
parts_goal T (n ∷ ns) g i = elim (IsIn-either g (goals_in (T.box_of n)) (part_goals (parts_at T ns)) i) [
  | inl j ↦ (n, inl refl, direct T n g j)
  | inr j ↦ (let w : (m : Name) × IsIn m ns × IsDirectlyIn T m g = parts_goal T ns g j in (w.0, inr w.1, w.2))
]

-- a place is listed exactly where it is one of the boxes, or a goal directly in one

pub of_listed : (T : Table) (ns : List Name) (p : Place) → IsOneOf p (places_at T ns) → IsOfBoxes T ns p
of_listed T ns p h = elim (one_part p (parts_at T ns) (subst (IsOneOf p) (parts_places T ns) h)) [
  | inl (m, e, i) ↦ (let j : IsIn m ns = subst (IsIn m) (parts_boxes T ns) i in subst (IsOfBoxes T ns) (sym e) j)
  | inr (g, e, i) ↦ (let j : (m : Name) × IsIn m ns × IsDirectlyIn T m g = parts_goal T ns g i in subst (IsOfBoxes T ns) (sym e) j)
]

pub listed_of : (T : Table) (ns : List Name) (p : Place) → IsOfBoxes T ns p → IsOneOf p (places_at T ns)
listed_of T ns (Place.Box m) i = subst (IsOneOf (Place.Box m)) (sym (parts_places T ns)) (box_one m (parts_at T ns) (subst (IsIn m) (sym (parts_boxes T ns)) i))
listed_of T ns (Place.Goal g) w = subst (IsOneOf (Place.Goal g)) (sym (parts_places T ns)) (goal_one g (parts_at T ns) (goal_in_parts T ns w.0 g w.1 w.2))
