use Rattle.constraint_laws.proofs.LeastVariables.{oldest_of, one_oldest, oldest_with}
use Rattle.constraint_laws.proofs.laws.oldest.Goals as goal

pub returns : goal.returns
returns c = record { exists = oldest_of; one = one_oldest; classes = oldest_with }
