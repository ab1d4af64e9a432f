use Rattle.idle_plan.proofs.Unready.{unready_goal}
use Rattle.place_steps.proofs.next.goal_next.Goals as goal

pub idle_goal-requires-clause-unready : goal.idle_goal-requires-clause-unready
idle_goal-requires-clause-unready c = unready_goal c.args.view.now c.args.goal c.requires.place c.requires.none
