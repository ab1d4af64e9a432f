use Rattle.idle_plan.proofs.goals.quietness_of.Goals as goal

pub of_solved-chain-requires : goal.of_solved-chain-requires
of_solved-chain-requires c = rw (c.as_slice.ensures.value, c.in_ok-push.ensures.items, c.in_ok-stores.ensures, c.in_ok-share.ensures, c.stores.ensures) c.requires.testable.known

pub quietness-requires : goal.quietness-requires
quietness-requires c = rw (c.of_solved-chain.ensures, c.as_slice.ensures.value, c.in_ok-push.ensures.items, c.in_ok-stores.ensures, c.in_ok-share.ensures, c.stores.ensures) c.requires.testable.apart

pub returns : goal.returns
returns c = rw (c.of_solved-chain.ensures, c.as_slice.ensures.value, c.in_ok-push.ensures.items, c.in_ok-stores.ensures, c.in_ok-share.ensures, c.stores.ensures) at c.quietness.ensures
