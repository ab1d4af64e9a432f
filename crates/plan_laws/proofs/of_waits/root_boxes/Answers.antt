use Rattle.plan_laws.proofs.Roots.{root_needs_nothing, root_still}
use Rattle.plan_laws.proofs.of_waits.root_boxes.Goals as goal

pub returns : goal.returns
returns c = record { nothing = root_needs_nothing; still = root_still }
