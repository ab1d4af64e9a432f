use Rattle.idle_places.proofs.KeptBySettle as law
use Rattle.idle_places.proofs.laws.kept_by_settle.Goals as goal

pub returns : goal.returns
returns c = λ rules p q journal c r before waits still now waits_now h own kept in_scope oldest less shut opens left. law.kept_by_settle rules p q journal c r before waits still now waits_now h own kept in_scope oldest less shut opens left
