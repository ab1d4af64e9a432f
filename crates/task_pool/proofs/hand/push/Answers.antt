use Rattle.task_pool.proofs.hand.push.Goals as goal

pub push_as-requires-clause-pushes : goal.push_as-requires-clause-pushes
push_as-requires-clause-pushes g c = rw c.hand.invariant.port (c.laws.ensures.pushes _ _)
