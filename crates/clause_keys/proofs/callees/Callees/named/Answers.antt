use Rattle.std.proofs.Common.{refl}
use Rattle.clause_keys.proofs.Indexing.{found_named}
use Rattle.clause_keys.proofs.callees.Callees.named.Goals as goal

pub returns-clause-found : goal.returns-clause-found
returns-clause-found c =
    rw (c.copied.ensures, c.get.ensures.value, ← c.self.view_is)
    (found_named c.self.inside c.self.invariant c.args.symbol.now c.args.arity c.in_ok-symbol.symbol _ c.in_ok-symbol.ensures.distinct c.in_ok-symbol.ensures.found refl)
