use Rattle.rational_unify.proofs.Chains.{BindNew-found}
use Rattle.local_store.proofs.telling.add_found.Goals as goal

pub add-requires-clause-found : goal.add-requires-clause-found
add-requires-clause-found g c = rw c.as_slice.ensures (BindNew-found _ _ c.requires.fresh)
