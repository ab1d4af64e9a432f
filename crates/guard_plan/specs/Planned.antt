-- What a planner answers.
use Rattle.std.specs.Prelude.{◌≡◌, [], Option, Some, None}
use Rattle.akl_model.specs.declared.item.Item.{Item}
use Rattle.akl_model.specs.declared.label.Rule.{Rule}
use Rattle.akl_model.specs.declared.label.Label.{Label}
use Rattle.akl_model.specs.Config.{Config}
use Rattle.akl_model.specs.Derivations.{IsInForce, Applies}
use Rattle.table_laws.specs.Stamped.{IsTableOf}
use Rattle.box_tree.specs.Tables.{all_rules, table_of}
use Rattle.box_tree.specs.Views.{ViewValue, run_of}
use Rattle.box_tree.specs.Plans.{PlanValue, IsRead, IsRight}
use Rattle.guard_plan.specs.ReadAt.{PlanMayRead}
use Rattle.guard_plan.specs.Solved.{SaysSolved}

-- a right plan was made of a view, for its place and its worker, says what is known to be solved, and read no more than it may
pub record IsPlanOf (v : ViewValue) (p : PlanValue) : Type 0 where
  pub right : IsRight p
  pub table : p.table ≡ v.table
  pub journal : p.journal ≡ v.journal
  pub place : p.label.place ≡ v.place
  pub worker : p.label.worker ≡ v.worker
  pub solved : SaysSolved v p.label.rule p.step
  pub only : (j : Item) → IsRead p.reads j → PlanMayRead v p.binds j

-- a rule in force other than Split, which is planned by all that stands in a box and inside it
abbrev pub IsPlain : Rule → Type 0
IsPlain r = IsInForce all_rules r × (r ≡ Rule.Split → ⊥)

-- no rule in force other than Split applies at the place of a view, for any worker
pub record HasNoRule (v : ViewValue) : Type 0 where
  pub none : (t : IsTableOf all_rules (run_of v.table v.journal) (table_of v.table)) (l : Label) (d : Config)
      → Applies all_rules v.table.program t.config l d → l.place ≡ v.place → (l.rule ≡ Rule.Split → ⊥) → ⊥

-- a right plan of one label, of a rule other than Split, or none where no such rule applies
abbrev pub IsPlannedBy : ViewValue → Option PlanValue → Type 0
IsPlannedBy v None = HasNoRule v
IsPlannedBy v (Some p) = IsPlanOf v p × (p.label.rule ≡ Rule.Split → ⊥) × (p.more ≡ [])
