use Rattle.answer_text.proofs.WrittenOut as law
use Rattle.answer_text.proofs.laws.written_out.Goals as goal

pub returns : goal.returns
returns c = law.written_out
