use Rattle.std.proofs.Common.{ap, ◌∙◌}
use Rattle.wake_lists.specs.Open.{is_busy}
use Rattle.wake_lists.proofs.OpeningsKept.{busy_is}
use Rattle.wake_lists.proofs.open.Open.busy.Goals as goal

pub returns : goal.returns
returns c =
    c.is_some.ensures ∙ busy_is c.args.name c.self.inside.standing c.self.inside.queue c.self.invariant.closed c.first.result c.first.ensures.there c.first.ensures.empty
    ∙ ap (is_busy c.args.name) c.self.view_is
