use Rattle.answer_text.proofs.AnswerThere.{text_there}
use Rattle.answer_text.proofs.WorkedOut.{represented_text}
use Rattle.answer_text.proofs.laws.text_exists.Goals as goal

pub returns : goal.returns
returns c = record { decided = text_there; represented = represented_text }
