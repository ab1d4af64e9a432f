use Rattle.tree_models.proofs.Merged.{merges}
use Rattle.tree_models.proofs.Found.{found}
use Rattle.tree_models.proofs.laws.merged_tables.Goals as goal

pub returns : goal.returns
returns c = record { merged = merges; found = found }
