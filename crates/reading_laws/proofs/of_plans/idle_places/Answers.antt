use Rattle.reading_laws.proofs.IdleGoals as goals
use Rattle.reading_laws.proofs.IdleBoxes as boxes
use Rattle.reading_laws.proofs.OldestStays as oldest
use Rattle.reading_laws.proofs.of_plans.idle_places.Goals as goal

pub returns : goal.returns
returns c = record {
  passes = λ rules p q journal c l d g kept r a x. goals.passes_idle rules p q journal c l d g kept r a x;
  enough = goals.enough_stays;
  oldest = λ rules p q journal c ls d r w n f k e root i h kept u o x y m free z. oldest.oldest_stays rules p q journal c ls d r w n f k e root i h kept u o x y m free z;
  in_a_box = λ rules p c ls d w n f reads e u unsplit unready r. boxes.idle_box rules p c ls d w n f reads e u unsplit unready r;
}
