use Rattle.table_laws.proofs.StepMakes as law
use Rattle.table_laws.proofs.of_tables.steps.Goals as goal

pub returns : goal.returns
returns c = law.step_law
