use Rattle.rational_unify.proofs.Chains.{BindNew-found}
use Rattle.local_store.proofs.Joining.{fresh-all}
use Rattle.entail_test.proofs.outside.told_by.Goals as goal

pub shown-requires-clause-found : goal.shown-requires-clause-found
shown-requires-clause-found g c =
    let t = rw (c.in-None.is, c.new.ensures) at c.in_ok-clash.ensures.taken in
    rw (c.as_slice.ensures, c.in_ok-clash.ensures.known) (BindNew-found _ _ (fresh-all _ _ _ _ t))
