use Rattle.table_laws.proofs.CallsHere as law
use Rattle.table_laws.proofs.of_call_parts.calls_here.Goals as goal

pub returns-clause-here : goal.returns-clause-here
returns-clause-here c = λ rules run S s w g f is call alternative x goals m. law.calls_here rules run S s w g f is call alternative x goals m

pub returns-clause-from : goal.returns-clause-from
returns-clause-from c = λ rules run S s w g f is call alternative x goals m frames. law.calls_from rules run S s w g f is call alternative x goals m frames
