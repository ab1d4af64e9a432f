use Rattle.answer_text.proofs.LinesThere.{lines_stand}
use Rattle.answer_text.proofs.TextsStand as law
use Rattle.answer_text.proofs.laws.texts_stand.Goals as goal

pub returns : goal.returns
returns c = record { texts = law.texts_stand; long = law.long_texts_stand; lines = lines_stand }
