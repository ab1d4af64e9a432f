use Rattle.std.proofs.Common.{◌≡◌, ℕ, List, Some, None, subst, rules}
use Rattle.std.specs.Prelude.{slice_index}
use Rattle.akl_terms.specs.declared.name.Name.{Name}
use Rattle.akl_terms.specs.declared.name.Var.{Var}
use Rattle.akl_terms.specs.declared.name.Place.{Place}
use Rattle.akl_model.specs.declared.item.Item.{Item}
use Rattle.akl_model.specs.declared.label.Rule.{Rule}
use Rattle.akl_model.specs.Rules.{change_by}
use Rattle.box_tree.specs.declared.step.Step.{Step}
use Rattle.box_tree.specs.Views.{ViewValue}
use Rattle.box_tree.specs.Plans.{IsRightLabel, IsRight}
use Rattle.guard_plan.proofs.PlanOf.{may_at, plan_of}
use Rattle.rule_plan.specs.AtGoals.{plan_at}
use Rattle.rule_plan.proofs.at_goals.goal_plan.Goals as goal

-- no goal is split
not_split : (v : ViewValue) (rule : Rule) (g : Name) (names : ℕ) (step : Step) (binds : List Var) (reads : List Item) → v.place ≡ Place.Goal g → IsRightLabel (plan_at v rule names step binds reads) → rule ≡ Rule.Split → ⊥
not_split v rule g names step binds reads place r split =
    let k = subst (λ (q : Rule). change_by v.table.program r.applies.makes.reading v.worker (slice_index r.table.config.next v.worker) q v.place None r.applies.site ≡ Some r.applies.change) split r.applies.makes.change in
    let m : None ≡ Some r.applies.change =
    subst (λ (q : Place). change_by v.table.program r.applies.makes.reading v.worker (slice_index r.table.config.next v.worker) Rule.Split q None r.applies.site ≡ Some r.applies.change) place k in
    cc

pub returns : goal.returns
returns c =
    let right : IsRight c.in_ok-plan.plan = search rules in
    let read = rw c.as_slice.ensures.value at c.in_ok-reads.ensures in
    let may = may_at c.args.view.now c.args.goal c.requires.place c.args.binds.items c.in_ok-reads.reads.items read.only in
    let other = not_split c.args.view.now c.args.rule c.args.goal c.args.names c.args.step c.args.binds.items c.in_ok-reads.reads.items c.requires.place (c.requires.right c.in_ok-reads.reads.items read) in
    plan_of c.args.view.now c.in_ok-plan.plan _ _ _ _ _ right may c.in_ok-plan.ensures c.args.rule _ c.label_of-label.ensures.label c.requires.solved other
