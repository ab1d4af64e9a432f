use Rattle.table_laws.proofs.Fresh as law
use Rattle.table_laws.proofs.of_tables.drawn_names.Goals as goal

pub returns : goal.returns
returns c = law.fresh_step
