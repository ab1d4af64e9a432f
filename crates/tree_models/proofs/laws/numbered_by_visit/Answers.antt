use Rattle.tree_models.proofs.Numbered.{numbered, one_order}
use Rattle.tree_models.proofs.laws.numbered_by_visit.Goals as goal

pub returns : goal.returns
returns c = record { numbered = numbered; order = one_order }
