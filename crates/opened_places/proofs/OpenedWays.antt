-- What opens a place, case by case.
use Rattle.std.proofs.Common.{List, ◌⊎◌, inl, inr}
use Rattle.akl_terms.specs.declared.name.Place.{Place}
use Rattle.akl_model.specs.Config.{Config}
use Rattle.akl_model.specs.Wakes as wakes
use Rattle.akl_model.specs.Wakes.{Wait, Opens}
use Rattle.opened_places.specs.Changed.{IsChanged, new_goal, new_box, changed_goal, box_of_changed_goal, changed_constraint, changed_goals, holder_of_changed_goals, IsWoken, IsBoundOutside}

abbrev Ways : List Wait → Config → Config → Place → Type 0
Ways waits c d place = IsChanged c d place ⊎ (IsWoken waits c d place ⊎ IsBoundOutside c d place)

way : (waits : List Wait) (c d : Config) (place : Place) → Opens waits c d place → Ways waits c d place
way waits c d place (wakes.new_goal i j) = inl (new_goal i j)
way waits c d place (wakes.new_box i j) = inl (new_box i j)
way waits c d place (wakes.changed_goal i j k) = inl (changed_goal i j k)
way waits c d place (wakes.box_of_changed_goal g i j k) = inl (box_of_changed_goal g i j k)
way waits c d place (wakes.changed_constraint i j k) = inl (changed_constraint i j k)
way waits c d place (wakes.changed_goals i j k) = inl (changed_goals i j k)
way waits c d place (wakes.holder_of_changed_goals n i j k h) = inl (holder_of_changed_goals n i j k h)
way waits c d place (wakes.woken n {x = x} k b) = inr (inl (record { box = n; variable = x; kept = k; binds = b }))
way waits c d place (wakes.bound_outside n {x = x} b o s) = inr (inr (record { box = n; variable = x; binds = b; outside = o; stands = s }))

opened : (waits : List Wait) (c d : Config) (place : Place) → IsChanged c d place → Opens waits c d place
opened waits c d place (new_goal i j) = wakes.new_goal i j
opened waits c d place (new_box i j) = wakes.new_box i j
opened waits c d place (changed_goal i j k) = wakes.changed_goal i j k
opened waits c d place (box_of_changed_goal g i j k) = wakes.box_of_changed_goal g i j k
opened waits c d place (changed_constraint i j k) = wakes.changed_constraint i j k
opened waits c d place (changed_goals i j k) = wakes.changed_goals i j k
opened waits c d place (holder_of_changed_goals n i j k h) = wakes.holder_of_changed_goals n i j k h

back : (waits : List Wait) (c d : Config) (place : Place) → Ways waits c d place → Opens waits c d place
back waits c d place (inl x) = opened waits c d place x
back waits c d place (inr (inl x)) = wakes.woken x.box x.kept x.binds
back waits c d place (inr (inr x)) = wakes.bound_outside x.box x.binds x.outside x.stands

pub opens_law : (waits : List Wait) (c d : Config) (place : Place) → (Opens waits c d place → Ways waits c d place) × (Ways waits c d place → Opens waits c d place)
opens_law waits c d place = (way waits c d place, back waits c d place)
