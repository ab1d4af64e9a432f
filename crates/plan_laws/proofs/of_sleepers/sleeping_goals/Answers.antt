use Rattle.plan_laws.proofs.GoalSleeps.{goal_sleeps}
use Rattle.plan_laws.proofs.of_sleepers.sleeping_goals.Goals as goal

pub returns : goal.returns
returns c = goal_sleeps
