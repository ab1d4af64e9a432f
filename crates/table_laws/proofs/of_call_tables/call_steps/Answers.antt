use Rattle.table_laws.proofs.CallStep.{call_step}
use Rattle.table_laws.proofs.of_call_tables.call_steps.Goals as goal

pub returns : goal.returns
returns c = call_step
