use Rattle.std.proofs.Common.{ap, ◌∙◌}
use Rattle.akl_syntax.specs.Goals.{lifted}
use Rattle.akl_lift.proofs.Notes.{goal_lifted}
use Rattle.akl_lift.proofs.lifting.lifted_call.Goals as goal

pub returns : goal.returns
returns c = goal_lifted c.args.number c.in_ok-arguments.arguments ∙ ap (lifted c.args.number) c.in_ok-arguments.ensures
