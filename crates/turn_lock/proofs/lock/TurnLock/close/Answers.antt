use Rattle.turn_lock.proofs.Ends.{closed_slot, closed_value}
use Rattle.turn_lock.proofs.lock.TurnLock.close.Goals as goal

pub unreachable-requires : goal.unreachable-requires
unreachable-requires g c =
    let full = closed_slot _ _ _ _ _ _ _ _ _ c.args.first.whole c.close_with-closed.ensures.values.2 c.take-slot.ensures.value c.requires.first c.requires.idle c.requires.alone in
    c.in_default.not-Some full.0 full.1

pub returns-clause-fixed : goal.returns-clause-fixed
returns-clause-fixed g c = (closed_value _ _ g.T.Booked.maker _ _ _ _ _ _ _ c.args.first.whole c.close_with-closed.ensures.values.2 c.take-slot.ensures.value c.requires.first c.requires.idle c.requires.alone c.in-Some.is).fixed_is

pub returns-clause-history : goal.returns-clause-history
returns-clause-history g c = (closed_value _ _ g.T.Booked.maker _ _ _ _ _ _ _ c.args.first.whole c.close_with-closed.ensures.values.2 c.take-slot.ensures.value c.requires.first c.requires.idle c.requires.alone c.in-Some.is).seen_all

pub returns-clause-joined : goal.returns-clause-joined
returns-clause-joined g c = (closed_value _ _ g.T.Booked.maker _ _ _ _ _ _ _ c.args.first.whole c.close_with-closed.ensures.values.2 c.take-slot.ensures.value c.requires.first c.requires.idle c.requires.alone c.in-Some.is).joined

pub returns-clause-makers : goal.returns-clause-makers
returns-clause-makers g c = (closed_value _ _ g.T.Booked.maker _ _ _ _ _ _ _ c.args.first.whole c.close_with-closed.ensures.values.2 c.take-slot.ensures.value c.requires.first c.requires.idle c.requires.alone c.in-Some.is).made
