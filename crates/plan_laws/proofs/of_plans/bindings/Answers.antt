use Rattle.plan_laws.proofs.BoundAgain as law
use Rattle.plan_laws.proofs.of_plans.bindings.Goals as goal

pub returns : goal.returns
returns c = record { nothing = law.binds_none; again = law.binds_again }
