use Rattle.plan_laws.proofs.Example.{two_tells}
use Rattle.plan_laws.proofs.Right as law
use Rattle.plan_laws.proofs.of_plans.same_change.Goals as goal

pub returns : goal.returns
returns c = record { right = law.right; fresh = law.fresh; example = two_tells }
