use Rattle.table_laws.proofs.ByEnds as law
use Rattle.table_laws.proofs.of_parts.walked_ends.Goals as goal

pub returns : goal.returns
returns c = λ rules run T t place f site root inner stores reads ends w scoped. law.by_ends rules run T t place f site root inner stores reads ends w scoped
