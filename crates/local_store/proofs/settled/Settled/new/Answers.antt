use Rattle.std.proofs.Common.{sym, subst}
use Rattle.local_store.specs.Kept.{IsKept}
use Rattle.local_store.proofs.SettledValues.{kept-nothing}
use Rattle.local_store.proofs.settled.Settled.new.Goals as goal

pub invariant_of-result : goal.invariant_of-result
invariant_of-result c = subst IsKept (sym c.new.ensures) kept-nothing
