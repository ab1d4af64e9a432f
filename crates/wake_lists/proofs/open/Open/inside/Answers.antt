use Rattle.std.proofs.Common.{subst}
use Rattle.wake_lists.specs.Open.{Openings, IsInside}
use Rattle.wake_lists.proofs.OpeningsKept.{inside_is}
use Rattle.wake_lists.proofs.open.Open.inside.Goals as goal

pub returns : goal.returns
returns c =
    subst (λ (os : Openings). IsInside c.args.name os c.first.result) c.self.view_is
    (inside_is c.args.name c.self.inside.standing c.self.inside.queue c.self.invariant.closed c.first.result c.first.ensures.there c.first.ensures.empty)
