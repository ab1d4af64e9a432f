use Rattle.reading_laws.proofs.SeenBoxes as law
use Rattle.reading_laws.proofs.of_idle.seen_boxes.Goals as goal

pub returns : goal.returns
returns c = record {
  idle = λ rules p q journal further k d r w n f i u unsplit unready ready. law.seen_idle_box rules p q journal further k d r w n f i u unsplit unready ready;
  fail = λ rules p q journal further k d l e a r w none n rule place clash u. law.seen_fail rules p q journal further k d r w l e a none n place rule clash u;
  split = λ rules p q journal further k d l e a r w none n rule place u. law.seen_split rules p q journal further k d r w l e a none n place rule u;
}
