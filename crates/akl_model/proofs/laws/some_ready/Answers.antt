use Rattle.akl_model.proofs.QuietEnds.{some_place_ready}
use Rattle.akl_model.proofs.laws.some_ready.Goals as goal

pub returns : goal.returns
returns c = some_place_ready
