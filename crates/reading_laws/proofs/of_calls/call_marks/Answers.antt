use Rattle.reading_laws.proofs.CallSpares as law
use Rattle.reading_laws.proofs.of_calls.call_marks.Goals as goal

pub returns : goal.returns
returns c = λ rules force p q journal k r w g f is_home x tells list bound v absent. law.call_spares rules force p q journal k r w g f is_home x tells list bound v absent
