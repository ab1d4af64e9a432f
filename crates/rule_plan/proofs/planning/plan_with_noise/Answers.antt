use Rattle.std.proofs.Common.{None, ◌∙◌, sym}
use Rattle.box_tree.specs.declared.view.Sight.{Sight}
use Rattle.rule_plan.proofs.NoRule.{box_unseen}
use Rattle.rule_plan.proofs.Silent.{silent}
use Rattle.rule_plan.proofs.planning.plan_with_noise.Goals as goal

pub returns-in-Box-sight : goal.returns-in-Box-sight
returns-in-Box-sight c =
    let sees = sym c.sight.ensures ∙ c.in-Box-sight.is in
    silent c.args.view.now c.args.noise.now.items (Sight.Box c.in-Box-sight.failing) sees tt None
    (box_unseen c.args.view.now c.place.ensures.seen c.in-Goal.goal c.in-Box-sight.failing (sym c.place.ensures.place ∙ c.in-Goal.is) sees)
