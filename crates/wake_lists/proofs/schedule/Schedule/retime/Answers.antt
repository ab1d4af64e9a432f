use Rattle.std.proofs.Common.{◌≡◌, ◌≤◌, ◌+◌, Some, ap, ◌∙◌, subst, arith}
use Rattle.std.specs.Map.{lookup}
use Rattle.wake_lists.specs.declared.turn.Opened.{Opened}
use Rattle.wake_lists.specs.Queue.{Places, GetsLast}
use Rattle.wake_lists.specs.Lines.{LinesValue, room_of}
use Rattle.wake_lists.proofs.LinesKept.{gets_last}
use Rattle.wake_lists.proofs.Scheduled.{room_there, scheduled_moved}
use Rattle.wake_lists.proofs.schedule.Schedule.retime.Goals as goal
use lib.Dec.{eqb}

pub leave-requires : goal.leave-requires
leave-requires c =
    let was : lookup (eqb c.args.token) c.self.inside.places ≡ Some c.args.opened = ap (lookup (eqb c.args.token)) c.self.view_is ∙ c.requires in
    let room : room_of c.args.opened.turn.urgency ≤ c.self.inside.lines.reserved = room_there c.self.inside.places c.self.inside.lines c.self.invariant c.args.token c.args.opened was in
    let more : c.enter.new.self.reserved ≡ c.self.inside.lines.reserved + room_of c.args.urgency = ap (λ (l : LinesValue). l.reserved) c.in_ok-turn.ensures.entered in
    omega arith

pub invariant_of-self-2 : goal.invariant_of-self-2
invariant_of-self-2 c =
    let now : Opened = record { place = c.args.opened.place; turn = c.in_ok-turn.turn } in
    scheduled_moved c.self.inside.places c.self.inside.lines c.self.invariant c.args.urgency c.args.token c.enter.new.self c.in_ok-turn.ensures.entered now c.in_ok-turn.ensures.turn c.set.new.self c.set.ensures.put
    c.args.opened (ap (lookup (eqb c.args.token)) c.self.view_is ∙ c.requires) c.leave.new.self c.leave.ensures.thinned c.leave.ensures.reserved

pub returns-clause-entered : goal.returns-clause-entered
returns-clause-entered c =
    subst (λ (os : Places). GetsLast os c.set.new.self c.args.token c.args.opened.place c.args.urgency) c.self.view_is
    (gets_last c.self.inside.places c.self.inside.lines.entries c.self.invariant.lined c.args.token c.args.opened.place c.args.urgency c.in_ok-turn.turn c.in_ok-turn.ensures.turn c.set.new.self c.set.ensures.put)
