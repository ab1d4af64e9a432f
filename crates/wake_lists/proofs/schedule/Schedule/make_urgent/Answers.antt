use Rattle.std.proofs.Common.{◌≡◌, ◌≤◌, Some, Bool, ap, ◌∙◌, subst, arith}
use Rattle.std.specs.Prelude.{cond}
use Rattle.std.specs.Map.{lookup}
use Rattle.wake_lists.specs.declared.turn.Urgency.{Urgency}
use Rattle.wake_lists.specs.declared.turn.Opened.{Opened}
use Rattle.wake_lists.specs.Queue.{Places, GetsLast}
use Rattle.wake_lists.specs.Lines.{room_of}
use Rattle.wake_lists.proofs.LinesKept.{gets_last}
use Rattle.wake_lists.proofs.Scheduled.{room_there, scheduled_urgent}
use Rattle.wake_lists.proofs.schedule.Schedule.make_urgent.Goals as goal
use lib.Dec.{eqb}

pub enter_urgent-turn-requires : goal.enter_urgent-turn-requires
enter_urgent-turn-requires c =
    let was : lookup (eqb c.args.token) c.self.inside.places ≡ Some c.args.opened = ap (lookup (eqb c.args.token)) c.self.view_is ∙ c.requires.open in
    let room : room_of c.args.opened.turn.urgency ≤ c.self.inside.lines.reserved = room_there c.self.inside.places c.self.inside.lines c.self.invariant c.args.token c.args.opened was in
    let one : room_of c.args.opened.turn.urgency ≡ 1 = ap (λ (b : Bool). cond b 1 0) c.requires.calm in
    omega arith

pub invariant_of-self : goal.invariant_of-self
invariant_of-self c =
    let now : Opened = record { place = c.args.opened.place; turn = c.enter_urgent-turn.result } in
    scheduled_urgent c.self.inside.places c.self.inside.lines c.self.invariant c.args.token now c.enter_urgent-turn.ensures.turn c.set.new.self c.set.ensures.put
    c.args.opened (ap (lookup (eqb c.args.token)) c.self.view_is ∙ c.requires.open) c.requires.calm c.enter_urgent-turn.new.self c.thin.new.self c.enter_urgent-turn.ensures.joined c.enter_urgent-turn.ensures.reserved
    c.thin.ensures.thinned c.thin.ensures.reserved

pub returns : goal.returns
returns c =
    subst (λ (os : Places). GetsLast os c.set.new.self c.args.token c.args.opened.place Urgency.Urgent) c.self.view_is
    (gets_last c.self.inside.places c.self.inside.lines.entries c.self.invariant.lined c.args.token c.args.opened.place Urgency.Urgent c.enter_urgent-turn.result c.enter_urgent-turn.ensures.turn c.set.new.self c.set.ensures.put)
