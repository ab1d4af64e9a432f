use Rattle.reading_laws.proofs.Boxes as boxes
use Rattle.reading_laws.proofs.Listed as listed
use Rattle.reading_laws.proofs.of_plans.growing_boxes.Goals as goal

pub returns : goal.returns
returns c = record { unbound = boxes.enough_unbound; quiet = listed.quiet_stays }
