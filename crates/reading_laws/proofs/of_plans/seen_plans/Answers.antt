use Rattle.reading_laws.proofs.SeenPlans as law
use Rattle.reading_laws.proofs.of_plans.seen_plans.Goals as goal

pub returns : goal.returns
returns c = law.seen_plan
