use Rattle.std.proofs.Common.{ap, ◌∙◌}
use Rattle.wake_lists.specs.Open.{is_busy, closed}
use Rattle.wake_lists.proofs.OpeningsKept.{busy_without_is, openings_out}
use Rattle.wake_lists.proofs.open.Open.busy_without.Goals as goal

pub returns : goal.returns
returns c =
    c.is_some.ensures
    ∙ busy_without_is c.args.name c.self.inside.standing c.args.token c.self.inside.queue c.self.invariant.ordered c.self.invariant.closed c.other.result c.other.ensures.there c.other.ensures.other c.other.ensures.none
    ∙ ap (is_busy c.args.name) (openings_out c.self.inside.standing c.self.inside.queue c.args.token ∙ ap (closed c.args.token) c.self.view_is)
