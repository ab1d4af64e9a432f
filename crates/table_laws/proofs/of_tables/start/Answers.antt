use Rattle.table_laws.proofs.Started as law
use Rattle.table_laws.proofs.of_tables.start.Goals as goal

pub returns : goal.returns
returns c = law.start_law
