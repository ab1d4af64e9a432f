use Rattle.plan_laws.proofs.Idle as law
use Rattle.plan_laws.proofs.of_plans.watching.Goals as goal

pub returns : goal.returns
returns c = law.idle
