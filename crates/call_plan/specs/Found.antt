-- The plan of a call at once.
use Rattle.std.specs.Prelude.{◌≡◌, ◌<◌, length}
use Rattle.akl_model.specs.declared.label.Rule.{Rule}
use Rattle.box_tree.specs.Views.{ViewValue}
use Rattle.box_tree.specs.Plans.{PlanValue}
use Rattle.guard_plan.specs.Planned.{IsPlanOf}

-- a right plan was made of a view, for its place and its worker: a fork, with all labels up to the promotion of the one alternative that is left, and those that reduce goals of its body
pub record IsCallPlan (v : ViewValue) (p : PlanValue) : Type 0 where
  pub plan : IsPlanOf v p
  pub forks : p.label.rule ≡ Rule.Fork
  pub several : 0 < length p.more
