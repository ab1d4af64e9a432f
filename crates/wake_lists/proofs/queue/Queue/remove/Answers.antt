use Rattle.std.proofs.Common.{sym, ◌∙◌}
use Rattle.wake_lists.proofs.QueueKept.{queued_fewer}
use Rattle.wake_lists.proofs.queue.Queue.remove.Goals as goal

pub invariant_of-self-2 : goal.invariant_of-self-2
invariant_of-self-2 c =
    queued_fewer c.self.inside.schedule c.self.inside.tokens c.self.invariant c.args.token c.in_ok-opened.opened (sym c.remove.ensures.was ∙ c.in_ok-opened.was)
    c.remove.new.self c.remove.ensures.gone.finds c.remove-2.new.self c.remove-2.ensures.gone
