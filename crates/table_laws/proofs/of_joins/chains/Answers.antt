use Rattle.table_laws.proofs.FreshJoins as law
use Rattle.table_laws.proofs.of_joins.chains.Goals as goal

pub returns : goal.returns
returns c = λ nodes now still part fresh older new e. law.fresh_joined nodes now still part fresh older new e
