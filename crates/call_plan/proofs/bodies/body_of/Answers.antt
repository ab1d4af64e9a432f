use Rattle.call_plan.proofs.bodies.body_of.Goals as goal

pub reduce-requires-clause-solved : goal.reduce-requires-clause-solved
reduce-requires-clause-solved c = λ q. rw (c.stores.ensures, c.requires.program) (c.requires.solved q)
