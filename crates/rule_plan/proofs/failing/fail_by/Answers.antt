use Rattle.std.proofs.Common.{◌≡◌, rules}
use Rattle.akl_model.specs.declared.label.Rule.{Rule}
use Rattle.box_tree.specs.Plans.{IsRight}
use Rattle.guard_plan.proofs.PlanOf.{plan_of}
use Rattle.rule_plan.proofs.FailRight.{fail_right, fail_may}
use Rattle.rule_plan.proofs.failing.fail_by.Goals as goal

pub new-requires-2-clause-right : goal.new-requires-2-clause-right
new-requires-2-clause-right c = rw (c.label_of-label.ensures.label, c.new.ensures.items, c.in_ok-reads.ensures) (fail_right c.args.view.now c.args.item c.requires)

not_split : Rule.Fail ≡ Rule.Split → ⊥
not_split e = cc

pub returns : goal.returns
returns c =
    let right : IsRight c.in_ok-plan.plan = search rules in
    let may = fail_may c.args.view.now c.args.item c.requires _ c.in_ok-reads.reads.items c.in_ok-reads.ensures in
    plan_of c.args.view.now c.in_ok-plan.plan _ _ _ _ _ right may c.in_ok-plan.ensures Rule.Fail _ c.label_of-label.ensures.label tt not_split
