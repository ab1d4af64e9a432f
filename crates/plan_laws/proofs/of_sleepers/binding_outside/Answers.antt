use Rattle.plan_laws.proofs.Outside.{bound_outside, equal_outside}
use Rattle.plan_laws.proofs.of_sleepers.binding_outside.Goals as goal

pub returns : goal.returns
returns c = record { own = bound_outside; alike = equal_outside }
