use Rattle.clause_keys.specs.Keys.{known}
use Rattle.clause_keys.proofs.callees.Callees.add_collecting.Goals as goal

pub returns-in-Some-clause-ok : goal.returns-in-Some-clause-ok
returns-in-Some-clause-ok c = known c.in-Some.ensures.found
