use Rattle.table_laws.proofs.MarksKept as law
use Rattle.table_laws.proofs.of_tables.marks.Goals as goal

pub returns : goal.returns
returns c = record { start = law.marks_start; step = law.marks_step }
