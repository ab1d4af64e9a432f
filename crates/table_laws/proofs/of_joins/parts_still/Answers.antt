use Rattle.table_laws.proofs.Parts as law
use Rattle.table_laws.proofs.of_joins.parts_still.Goals as goal

pub returns : goal.returns
returns k = λ rules p c d l e a r g kind place goal held told h b n is s t was. law.part_still rules p c d l e a r g kind place goal held told h b n is s t was
