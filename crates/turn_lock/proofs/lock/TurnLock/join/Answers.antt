use Rattle.std.proofs.Common.{rules, ap}
use Rattle.turn_lock.specs.Known.{Held}
use Rattle.turn_lock.proofs.Merging.{joins}
use Rattle.turn_lock.proofs.Whole.{holds_nothing}
use Rattle.turn_lock.proofs.lock.TurnLock.join.Goals as goal

pub join_seat-requires : goal.join_seat-requires
join_seat-requires g c =
    let H : Type 0 = Held g.row.T.Denot g.row.T-Fixed.Denot g.row.T-Entry.Denot in
    let first = c.args.first.now in
    let free = holds_nothing first.seat.me first.whole c.requires.idle.0 in
    let other_free = holds_nothing c.args.other.seat.me c.args.other.whole c.requires.idle.1 in
    let knows = ap (λ (m : H). m.0) free in
    let other_knows = ap (λ (m : H). m.0) other_free in
    (search rules, search rules, ap (λ (m : H). m.1) other_free, search rules, rw (knows, other_knows) (joins _ _ _ _ _ _ _ _ c.requires.first c.requires.idle.0 c.requires.idle.1))
