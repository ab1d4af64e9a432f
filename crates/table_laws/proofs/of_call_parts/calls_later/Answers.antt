use Rattle.table_laws.proofs.CallsLater as law
use Rattle.table_laws.proofs.of_call_parts.calls_later.Goals as goal

pub returns : goal.returns
returns c = law.call_later
