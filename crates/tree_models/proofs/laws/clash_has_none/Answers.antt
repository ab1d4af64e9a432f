use Rattle.tree_models.proofs.Solved.{solved_consistent, clash_has_none}
use Rattle.tree_models.proofs.laws.clash_has_none.Goals as goal

pub returns : goal.returns
returns c = record { consistent = solved_consistent; none = clash_has_none }
