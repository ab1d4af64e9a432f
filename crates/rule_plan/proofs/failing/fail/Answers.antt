use Rattle.std.proofs.Common.{◌∙◌, ap}
use Rattle.box_tree.specs.declared.view.Sight.{Sight}
use Rattle.rule_plan.proofs.FailRight.{fails_by_goal}
use Rattle.rule_plan.proofs.failing.fail.Goals as goal

pub fail_by-requires : goal.fail_by-requires
fail_by-requires c = fails_by_goal c.args.view.now c.requires.seen c.args.name c.in-Some.goal c.requires.place (c.requires.sight ∙ ap Sight.Box c.in-Some.is)
