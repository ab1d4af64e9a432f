use Rattle.table_laws.proofs.Later as law
use Rattle.table_laws.proofs.of_tables.later_steps.Goals as goal

pub returns : goal.returns
returns c = law.later_law
