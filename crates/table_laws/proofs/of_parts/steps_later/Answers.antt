use Rattle.table_laws.proofs.JoinsLater.{joins_later}
use Rattle.table_laws.proofs.TellsLater.{tells_later}
use Rattle.table_laws.proofs.of_parts.steps_later.Goals as goal

pub returns-clause-tells : goal.returns-clause-tells
returns-clause-tells c = λ rules p q journal further b l T y e a g place list bound u x m. tells_later rules p q journal further b l T y e a g place list bound u x m

pub returns-clause-joins : goal.returns-clause-joins
returns-clause-joins c = λ rules p q journal further b l T y e a g place list bound u x goals m. joins_later rules p q journal further b l T y e a g place list bound u x goals m
