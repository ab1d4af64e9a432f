use Rattle.std.proofs.Common.{ap, ◌∙◌}
use Rattle.std.specs.Map.{lookup}
use Rattle.wake_lists.proofs.QueueKept.{queued_moved}
use Rattle.wake_lists.proofs.queue.Queue.retime.Goals as goal
use lib.Dec.{eqb}

pub invariant_of-self : goal.invariant_of-self
invariant_of-self c =
    queued_moved c.self.inside.schedule c.self.inside.tokens c.self.invariant c.args.token c.args.opened (ap (lookup (eqb c.args.token)) c.self.view_is ∙ c.requires)
    c.args.urgency c.retime.new.self c.retime.result c.retime.ensures.entered c.retime.ensures.unchanged
