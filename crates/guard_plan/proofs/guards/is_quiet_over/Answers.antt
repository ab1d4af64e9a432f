use Rattle.guard_plan.proofs.guards.is_quiet_over.Goals as goal

pub is_quiet-requires : goal.is_quiet-requires
is_quiet-requires c = rw (c.of_solved-chain.ensures, c.as_slice.ensures.value, c.in_ok-push.ensures.items, c.in_ok-share.ensures) c.requires.apart

pub returns-clause-noise : goal.returns-clause-noise
returns-clause-noise c = rw (c.of_solved-chain.ensures, c.as_slice.ensures.value, c.in_ok-push.ensures.items, c.in_ok-share.ensures) at c.in_ok-holds.ensures.noise
