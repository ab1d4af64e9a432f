use Rattle.plan_laws.proofs.Concerned.{concern_scoped}
use Rattle.plan_laws.proofs.of_waits.concerns.Goals as goal

pub returns : goal.returns
returns c = concern_scoped
