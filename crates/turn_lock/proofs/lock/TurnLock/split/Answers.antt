use Rattle.std.proofs.Common.{rules, ap}
use Rattle.turn_lock.specs.Known.{Held}
use Rattle.turn_lock.proofs.Splitting.{splits}
use Rattle.turn_lock.proofs.Whole.{holds_nothing}
use Rattle.turn_lock.proofs.lock.TurnLock.split.Goals as goal

pub split_seat-next-requires : goal.split_seat-next-requires
split_seat-next-requires g c =
    let H : Type 0 = Held g.row.T.Denot g.row.T-Fixed.Denot g.row.T-Entry.Denot in
    let first = c.args.first.now in
    let free = holds_nothing first.seat.me first.whole c.requires.idle in
    let knows = ap (λ (m : H). m.0) free in
    (search rules, search rules, rw knows (splits _ _ _ _ _ _ c.requires.first c.requires.idle))
