-- What plans read, by a weaker fact of each item.
use Rattle.akl_terms.specs.declared.name.Name.{Name}
use Rattle.akl_terms.specs.declared.name.Var.{Var}
use Rattle.std.proofs.Common.{List}
use Rattle.akl_model.specs.declared.item.Item.{Item}
use Rattle.akl_model.specs.declared.label.Label.{Label}
use Rattle.akl_model.specs.Config.{Config, Found}
use Rattle.akl_model.specs.Stable.{only}
use Rattle.step_laws.proofs.Inside.{each_map}
use Rattle.plan_laws.proofs.Right.{reads_map}
use Rattle.reading_laws.specs.Seen.{ReadsAt, in_root, by_ends, inside, ByBindings}
use Rattle.reading_laws.specs.SeenBoxes as boxes
use Rattle.reading_laws.specs.SeenBoxes.{ReadsBox, ReadsAround, by_root, by_sets}
use Rattle.table_laws.specs.Steps.{Step, tells, forks, fails, cuts, joins, refutes, confirms, splits}
use Rattle.table_laws.specs.PartSteps.{PartStep, tells_part, joins_part, without_part, ReadsPart}
use Rattle.table_laws.specs.SameSteps.{ReadsFor}

module _ (U V : Item → Type 0) (h : (i : Item) → U i → V i) where
  pub reads_at : (c : Config) (g : Name) (f : Found) (list : List Var) → ReadsAt U c g f list → ReadsAt V c g f list
  reads_at c g f list (in_root root goal store bindings) = in_root root (h (Item.Goal g) goal) (h (Item.Store f.content.name) store) (λ x i o. h (Item.Binding x) (bindings x i o))
  reads_at c g f list (by_ends u) = by_ends (record {
    inner = u.inner;
    enough = u.enough;
    ends = u.ends;
    ended = u.ended;
    oldest = u.oldest;
    old = u.old;
    goal = h (Item.Goal g) u.goal;
    stores = λ m i. h (Item.Store m) (u.stores m i);
    end_bindings = λ z i. h (Item.Binding z) (u.end_bindings z i);
    bindings = λ x i o. h (Item.Binding x) (u.bindings x i o);
  })
  reads_at c g f list (inside goal sets) = inside (h (Item.Goal g) goal) (λ m i. h (Item.Goals m) (sets m i))

  -- what goes by bindings went by them
  pub was_by_bindings : (c : Config) (g : Name) (f : Found) (list : List Var) (u : ReadsAt U c g f list) → ByBindings V c g f list (reads_at c g f list u) → ByBindings U c g f list u
  unfolding reads_at
  was_by_bindings c g f list (in_root root goal store bindings) b = tt
  was_by_bindings c g f list (by_ends u) b = tt
  was_by_bindings c g f list (inside goal sets) b = b

  reads_box : (c : Config) (f : Found) → ReadsBox U c f → ReadsBox V c f
  reads_box c f u = record {
    within = each_map U V h (only f) u.within;
    around = λ m i. h (Item.Store m) (u.around m i);
    inner = u.inner;
    enough = u.enough;
    ends = u.ends;
    ended = u.ended;
    oldest = u.oldest;
    old = u.old;
    bindings = λ z i. h (Item.Binding z) (u.bindings z i);
  }

  reads_around : (c : Config) (f : Found) → ReadsAround U c f → ReadsAround V c f
  reads_around c f (by_root few around) = by_root few (λ m i. h (Item.Store m) (around m i))
  reads_around c f (boxes.by_ends u) = boxes.by_ends (reads_box c f u)
  reads_around c f (by_sets around) = by_sets (λ m i. h (Item.Goals m) (around m i))

  reads_for : (c : Config) (l : Label) (f : Found) (list : List Var) (step : Step) → ReadsFor U c l f list step → ReadsFor V c l f list step
  reads_for c l f list (forks op news) u = (u.0, u.1, h (Item.Goal u.0) u.2)
  reads_for c l f list fails u = reads_map U V h l.rule l.place l.alternative f u
  reads_for c l f list cuts u = (u.0, u.1, reads_at c u.0 f list u.2)
  reads_for c l f list refutes u = (u.0, u.1, reads_at c u.0 f list u.2)
  reads_for c l f list confirms u = (u.0, u.1, reads_at c u.0 f list u.2)
  reads_for c l f list (splits copy copies) u = record { within = each_map U V h (only f) u.within; around = reads_around c f u.around }
  reads_for c l f list (tells new solved) u = absurd u
  reads_for c l f list (joins new solved goals) u = absurd u

  pub reads_part : (c : Config) (l : Label) (f : Found) (list : List Var) (step : PartStep) → ReadsPart U c l f list step → ReadsPart V c l f list step
  reads_part c l f list (tells_part x solved) u = (u.0, u.1, reads_at c u.0 f list u.2)
  reads_part c l f list (joins_part x solved goals) u = (u.0, u.1, reads_at c u.0 f list u.2)
  reads_part c l f list (without_part step) u = reads_for c l f list step u
