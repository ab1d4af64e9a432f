use Rattle.answer_text.proofs.OneAnswer as law
use Rattle.answer_text.proofs.laws.one_text.Goals as goal

pub returns : goal.returns
returns c = law.one_text
