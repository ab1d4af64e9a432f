use Rattle.plan_laws.proofs.ByGoals.{by_goals_law, right_by_goals, idle_by_goals}
use Rattle.plan_laws.proofs.of_plans.reading_goals.Goals as goal

pub returns : goal.returns
returns c = record { same = by_goals_law; right = right_by_goals; idle = idle_by_goals }
