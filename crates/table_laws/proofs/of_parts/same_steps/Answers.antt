use Rattle.table_laws.proofs.SameSteps as law
use Rattle.table_laws.proofs.of_parts.same_steps.Goals as goal

pub returns : goal.returns
returns c = λ rules p q journal further b l T y e a list bound step u m. law.same_step rules p q journal further b l T y e a list bound step u m
