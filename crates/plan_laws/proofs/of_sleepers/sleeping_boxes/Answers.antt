use Rattle.plan_laws.proofs.BoxSleeps.{box_sleeps}
use Rattle.plan_laws.proofs.SplitSleeps.{box_sleeps_beside}
use Rattle.plan_laws.proofs.of_sleepers.sleeping_boxes.Goals as goal

pub returns : goal.returns
returns c = record { failing = box_sleeps; whole = box_sleeps_beside }
