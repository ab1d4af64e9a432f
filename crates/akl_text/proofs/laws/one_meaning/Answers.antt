use Rattle.akl_text.proofs.Reading.{one_reading}
use Rattle.akl_text.proofs.TextFound.{one_text}
use Rattle.akl_text.proofs.laws.one_meaning.Goals as goal

pub returns : goal.returns
returns c = record { tokens = λ before at text one another r s. one_reading r s; texts = λ kind w one another r s. one_text r s }
