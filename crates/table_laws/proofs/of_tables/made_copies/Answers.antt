use Rattle.table_laws.proofs.CopiesMade as law
use Rattle.table_laws.proofs.of_tables.made_copies.Goals as goal

pub returns : goal.returns
returns c = law.copies_law
