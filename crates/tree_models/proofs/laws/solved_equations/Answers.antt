use Rattle.tree_models.proofs.Solved.{solves_form, further}
use Rattle.tree_models.proofs.laws.solved_equations.Goals as goal

pub returns : goal.returns
returns c = record { same = further; follows = solves_form }
