use Rattle.std.proofs.Common.{sym, ap, ◌∙◌, subst}
use Rattle.std.specs.Map.{lookup}
use Rattle.wake_lists.specs.declared.turn.Opened.{Opened}
use Rattle.wake_lists.specs.Queue.{Places, GetsLast}
use Rattle.wake_lists.proofs.WaitsKept.{on_not_err}
use Rattle.wake_lists.proofs.LinesKept.{on_err_so, gets_last}
use Rattle.wake_lists.proofs.Scheduled.{scheduled_back, scheduled_more}
use Rattle.wake_lists.proofs.schedule.Schedule.insert.Goals as goal
use lib.Dec.{eqb}

pub invariant_of-self-then-is_err : goal.invariant_of-self-then-is_err
invariant_of-self-then-is_err c =
    scheduled_back c.self.inside.places c.self.inside.lines c.self.invariant c.args.urgency c.args.token c.enter.new.self c.in_ok-turn.ensures.entered c.insert.new.self
    (on_err_so c.insert.result c.insert.ensures.unchanged (sym c.is_err.ensures.value ∙ c.if-is_err.true)) c.leave.new.self c.leave.ensures.thinned c.leave.ensures.reserved

pub invariant_of-self-else-is_err : goal.invariant_of-self-else-is_err
invariant_of-self-else-is_err c =
    let now : Opened = record { place = c.args.place; turn = c.in_ok-turn.turn } in
    scheduled_more c.self.inside.places c.self.inside.lines c.self.invariant c.args.urgency c.args.token c.enter.new.self c.in_ok-turn.ensures.entered now c.in_ok-turn.ensures.turn c.insert.new.self
    (on_not_err c.insert.result c.insert.ensures.put (sym c.is_err.ensures.value ∙ c.if-is_err.false)) (ap (lookup (eqb c.args.token)) c.self.view_is ∙ c.requires)

pub returns-clause-entered : goal.returns-clause-entered
returns-clause-entered c =
    subst (λ (os : Places). GetsLast os c.insert.new.self c.args.token c.args.place c.args.urgency) c.self.view_is
    (gets_last c.self.inside.places c.self.inside.lines.entries c.self.invariant.lined c.args.token c.args.place c.args.urgency c.in_ok-turn.turn c.in_ok-turn.ensures.turn c.insert.new.self
    (on_not_err c.insert.result c.insert.ensures.put (sym c.is_err.ensures.value ∙ c.if-is_err.false)))
