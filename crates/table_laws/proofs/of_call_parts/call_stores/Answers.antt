use Rattle.table_laws.proofs.CallStores as law
use Rattle.table_laws.proofs.of_call_parts.call_stores.Goals as goal

pub returns : goal.returns
returns c = λ rules force p q journal b r w g f is_home x d. law.call_leaves rules force p q journal b r w g f is_home x d
