use Rattle.table_laws.proofs.CallMarked as law
use Rattle.table_laws.proofs.of_call_tables.call_marks.Goals as goal

pub returns : goal.returns
returns c = law.call_marked
