use Rattle.std.proofs.Common.{sym, ◌∙◌}
use Rattle.wake_lists.proofs.Scheduled.{room_there, scheduled_fewer}
use Rattle.wake_lists.proofs.schedule.Schedule.remove.Goals as goal

pub leave-requires : goal.leave-requires
leave-requires c = room_there c.self.inside.places c.self.inside.lines c.self.invariant c.args.token c.in_ok-opened.opened (sym c.remove.ensures.was ∙ c.in_ok-opened.was)

pub invariant_of-self-2 : goal.invariant_of-self-2
invariant_of-self-2 c =
    scheduled_fewer c.self.inside.places c.self.inside.lines c.self.invariant c.args.token c.in_ok-opened.opened (sym c.remove.ensures.was ∙ c.in_ok-opened.was)
    c.remove.new.self c.remove.ensures.gone c.leave.new.self c.leave.ensures.thinned c.leave.ensures.reserved
