use Rattle.table_laws.proofs.PartSteps as law
use Rattle.table_laws.proofs.of_parts.part_steps.Goals as goal

pub returns-clause-later : goal.returns-clause-later
returns-clause-later c = λ rules p q journal further b l T y e a list bound step u m. law.part_step rules p q journal further b l T y e a list bound step u m

pub returns-clause-here : goal.returns-clause-here
returns-clause-here c = law.part_here
