use Rattle.std.proofs.Common.{refl}
use Rattle.clause_keys.proofs.Indexing.{found_of, absent_of}
use Rattle.clause_keys.proofs.callees.Callees.lifted.Goals as goal

pub returns-clause-found : goal.returns-clause-found
returns-clause-found c = rw (c.copied.ensures, c.get.ensures.value, ← c.self.view_is) (found_of c.self.invariant.lifted c.args.number c.args.arity _ refl)

pub returns-clause-absent : goal.returns-clause-absent
returns-clause-absent c = rw (c.copied.ensures, c.get.ensures.value, ← c.self.view_is) (absent_of c.self.invariant.lifted c.args.number c.args.arity _ refl)
