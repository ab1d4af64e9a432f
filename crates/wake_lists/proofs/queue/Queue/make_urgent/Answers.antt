use Rattle.std.proofs.Common.{ap, ◌∙◌}
use Rattle.std.specs.Map.{lookup}
use Rattle.std.specs.declared.result.Result.TheVariants.{Ok}
use Rattle.wake_lists.specs.declared.turn.Urgency.{Urgency}
use Rattle.wake_lists.proofs.QueueKept.{queued_moved}
use Rattle.wake_lists.proofs.queue.Queue.make_urgent.Goals as goal
use lib.Dec.{eqb}

pub invariant_of-self : goal.invariant_of-self
invariant_of-self c =
    queued_moved c.self.inside.schedule c.self.inside.tokens c.self.invariant c.args.token c.args.opened (ap (lookup (eqb c.args.token)) c.self.view_is ∙ c.requires.open)
    Urgency.Urgent c.make_urgent.new.self {E = Unit {0}} (Ok tt) c.make_urgent.ensures tt
