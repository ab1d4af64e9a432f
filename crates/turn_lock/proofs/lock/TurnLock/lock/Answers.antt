use Rattle.turn_lock.specs.Known.{standing_of}
use Rattle.turn_lock.proofs.Whole.{holds_nothing}
use Rattle.turn_lock.proofs.lock.TurnLock.lock.Goals as goal

pub take_turn-requires-clause-idle : goal.take_turn-requires-clause-idle
take_turn-requires-clause-idle g c =
    let pass = c.args.pass.now in
    let free = holds_nothing pass.seat.me pass.whole c.requires.idle in
    (standing_of pass.seat.me pass.whole, free, c.requires.idle)
