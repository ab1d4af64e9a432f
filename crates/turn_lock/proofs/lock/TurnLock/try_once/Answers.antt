use Rattle.std.proofs.Common.{rules}
use Rattle.turn_lock.proofs.Taking.{compares, swaps}
use Rattle.turn_lock.proofs.lock.TurnLock.try_once.Goals as goal

pub swap-requires : goal.swap-requires
swap-requires g c = (search rules, search rules, swaps _ _ _ _ _ _ _ c.requires.idle.0 c.requires.idle.1)

pub compare_exchange-requires : goal.compare_exchange-requires
compare_exchange-requires g c = (search rules, search rules, compares _ _ _ _ _ _ _ c.requires.idle.0 c.requires.idle.1)
