-- The goals of each copy that a split draws have names in increasing order.
use Rattle.std.proofs.Common.{◌≡◌, List, [], ◌∷◌, ◌++◌, ◌≤◌, Some, refl, sym, subst, inl, inr}
use Rattle.std.specs.Prelude.{slice_index}
use Rattle.akl_terms.specs.declared.name.Name.{Name}
use Rattle.akl_terms.specs.declared.name.Place.{Place}
use Rattle.akl_model.specs.Config.{Operator}
use Rattle.akl_model.specs.declared.label.Label.{Label}
use Rattle.akl_model.specs.declared.label.Rule.{Rule}
use Rattle.akl_model.specs.Config.{Content, Boxes, no_boxes, box, Goals, no_goals, atom, choice, Config, Found, environment, box_at}
use Rattle.akl_model.specs.Instances.{start}
use Rattle.akl_model.specs.Derivations.{Applies}
use Rattle.akl_model.specs.Changes.{goal_names}
use Rattle.akl_model.specs.Ordered.{IsIncreasing, BoxesOrdered, GoalsOrdered}
use Rattle.akl_model.proofs.Finds.{times}
use Rattle.akl_model.proofs.NamesKept.{replay-stands}
use Rattle.akl_model.proofs.OrdersKept.{replay_ordered}
use Rattle.akl_model.proofs.Results.{Derives-append}
use Rattle.step_laws.specs.Whereabouts.{BoxIn, InGoals}
use Rattle.step_laws.proofs.Whereabouts.{found_in}
use Rattle.step_laws.proofs.Steps.{site_once}
use Rattle.table_laws.specs.Rows.{Table}
use Rattle.table_laws.specs.Stamped.{Run, IsTableOf}
use Rattle.table_laws.specs.Steps.{BoxCopy, splits, IsCopy, second_of, SplitsBox, Makes}
use Rattle.table_laws.proofs.Copies.{IsAmong, goals_copied, box_among, goals_are}
use Rattle.table_laws.proofs.Splitting as splitting
use Rattle.table_laws.proofs.Cutting as cutting

mutual
  in_ordered : (r : List Content) (k : Content) (hs : Goals) (bs : Boxes) → BoxesOrdered bs → BoxIn r k hs bs → GoalsOrdered hs
  in_ordered r k hs no_boxes o x = absurd x
  in_ordered r k hs (box b gs bs) o (inl e) = subst GoalsOrdered (sym e.2) o.2
  in_ordered r k hs (box b gs bs) o (inr (inl x)) = inside_ordered x.0 k hs gs o.2 x.2
  in_ordered r k hs (box b gs bs) o (inr (inr x)) = in_ordered r k hs bs o.3 x

  inside_ordered : (r : List Content) (k : Content) (hs gs : Goals) → GoalsOrdered gs → InGoals r k hs gs → GoalsOrdered hs
  inside_ordered r k hs no_goals o x = absurd x
  inside_ordered r k hs (atom g a gs) o x = inside_ordered r k hs gs o.1 x
  inside_ordered r k hs (choice g p bs gs) o (inl x) = in_ordered r k hs bs o.1 x
  inside_ordered r k hs (choice g p bs gs) o (inr x) = inside_ordered r k hs gs o.2 x

names_increase : (gs : Goals) → GoalsOrdered gs → IsIncreasing (goal_names gs)
names_increase no_goals o = tt
names_increase (atom g a gs) o = (o.0, names_increase gs o.1)
names_increase (choice g p bs gs) o = (o.0, names_increase gs o.2)

pub copies_increase : (rules : List Rule) (r : Run) (T : Table) (l : Label) (d : Config) (t : IsTableOf rules r T) (a : Applies rules r.program t.config l d) (copy : Name) (copies : List BoxCopy)
    → Makes r.program l (slice_index t.config.next l.worker) a.site (splits copy copies) → (k : BoxCopy) → IsAmong k copies → IsIncreasing (goals_copied k)
copies_increase rules r T l d t a copy copies makes k i = by makes.1.0 makes.1.1 makes.0 makes.1.2 makes.1.3 makes.1.4
  where
    ordered : BoxesOrdered d.roots
    ordered = replay_ordered rules r.program r.query (r.journal ++ l ∷ []) d
        (record { derives = Derives-append rules r.program (start r.program r.query) t.config d r.journal (l ∷ []) t.replays.derives (d, a, refl) })

    by : (n al : Name) → l.rule ≡ Rule.Split → l.place ≡ Place.Box n → l.alternative ≡ Some al → SplitsBox r.program.templates.nodes l.worker (slice_index t.config.next l.worker) a.site al copy copies
        → IsIncreasing (goals_copied k)
    by n al rule place names made = subst IsIncreasing (sym (goals_are r.program.templates.nodes (environment a.site) (second_of l.worker (slice_index t.config.next l.worker) al a.site made.choice) few copies made.copied w.0 k w.2))
        (names_increase w.0.goals (in_ordered (a.site.around ++ w.0.around) w.0.content w.0.goals d.roots ordered (cutting.copy_stands rules r.program r.query r.journal t.config l d t.replays a made.choice.name al made.choice.op Operator.commit made.choice.alternatives (second_of l.worker (slice_index t.config.next l.worker) al a.site made.choice) (splitting.at_choice r.program (slice_index t.config.next l.worker) l a.site a.change a.makes n al made.choice rule place names made.is_choice) (splitting.choice_held r.program (slice_index t.config.next l.worker) l a.site a.change a.makes n al made.choice rule place names made.is_choice (site_once rules r.program t.config l d (replay-stands rules r.program r.query r.journal t.config t.replays) a)) (splitting.boxes_are r.program (slice_index t.config.next l.worker) l a.site a.change a.makes n al made.choice rule place names made.is_choice) w.0.around w.0.content w.0.goals (found_in k.name (second_of l.worker (slice_index t.config.next l.worker) al a.site made.choice) w.0 w.1))))
      where
        few : (m : Name) → times m (second_of l.worker (slice_index t.config.next l.worker) al a.site made.choice) ≤ 1
        few = cutting.copy_once rules r.program r.query r.journal t.config l d t.replays a made.choice.name al made.choice.op Operator.commit made.choice.alternatives (second_of l.worker (slice_index t.config.next l.worker) al a.site made.choice) (splitting.at_choice r.program (slice_index t.config.next l.worker) l a.site a.change a.makes n al made.choice rule place names made.is_choice) (splitting.choice_held r.program (slice_index t.config.next l.worker) l a.site a.change a.makes n al made.choice rule place names made.is_choice (site_once rules r.program t.config l d (replay-stands rules r.program r.query r.journal t.config t.replays) a)) (splitting.boxes_are r.program (slice_index t.config.next l.worker) l a.site a.change a.makes n al made.choice rule place names made.is_choice)

        w : (f : Found) × (box_at k.name (second_of l.worker (slice_index t.config.next l.worker) al a.site made.choice) ≡ Some f)
            × IsCopy r.program.templates.nodes (environment a.site) (second_of l.worker (slice_index t.config.next l.worker) al a.site made.choice) f k
        w = box_among r.program.templates.nodes (environment a.site) (second_of l.worker (slice_index t.config.next l.worker) al a.site made.choice) few copies made.copied k i
