use Rattle.clause_store.proofs.Defined.{collected_put, collected_none}
use Rattle.clause_store.proofs.definitions.put_collected.Goals as goal

pub returns-in_ok-node-in-Some : goal.returns-in_ok-node-in-Some
returns-in_ok-node-in-Some c = rw c.in-Some.is (collected_put c.in_ok-node-in-Some.ensures)

pub returns-in-None : goal.returns-in-None
returns-in-None c = rw c.in-None.is (collected_none c.args.templates.now)
