use Rattle.std.proofs.Common.{◌≡◌, [], rules}
use Rattle.akl_model.specs.declared.item.Item.{Item}
use Rattle.akl_model.specs.declared.label.Rule.{Rule}
use Rattle.box_tree.specs.Plans.{IsRead, IsRight}
use Rattle.guard_plan.specs.ReadAt.{PlanMayRead}
use Rattle.guard_plan.proofs.Chosen.{cut_planned}
use Rattle.guard_plan.proofs.PlanOf.{may_at, plan_of}
use Rattle.guard_plan.proofs.cutting.cut_by.Goals as goal

pub new-requires-2-clause-right : goal.new-requires-2-clause-right
new-requires-2-clause-right c =
    rw (c.label_for-label.ensures.label, c.new.ensures.items)
    (cut_planned c.args.view.now c.label_for-label.ensures.seen c.args.goal c.requires.cuts.op c.requires.place c.requires.cuts.is_choice c.requires.cuts.not_one c.args.alternative c.requires.cuts.quiet c.in_ok-reads.reads.items c.in_ok-reads.ensures)

not_split : Rule.Cut ≡ Rule.Split → ⊥
not_split e = cc

pub returns : goal.returns
returns c =
    let right : IsRight c.in_ok-plan.plan = search rules in
    let may : (j : Item) → IsRead c.in_ok-reads.reads.items j → PlanMayRead c.args.view.now c.new.result.items j
    = rw c.new.ensures.items (may_at c.args.view.now c.args.goal c.requires.place [] c.in_ok-reads.reads.items c.in_ok-reads.ensures.only) in
    plan_of c.args.view.now c.in_ok-plan.plan _ _ _ _ _ right may c.in_ok-plan.ensures Rule.Cut _ c.label_for-label.ensures.label tt not_split
