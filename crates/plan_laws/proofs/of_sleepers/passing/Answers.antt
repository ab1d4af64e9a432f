use Rattle.plan_laws.proofs.Leaves.{leaves_goal, leaves_box}
use Rattle.plan_laws.proofs.of_sleepers.passing.Goals as goal

pub returns : goal.returns
returns c = record { goal = leaves_goal; a_box = leaves_box }
