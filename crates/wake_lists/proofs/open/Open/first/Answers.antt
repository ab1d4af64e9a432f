use Rattle.std.proofs.Common.{subst}
use Rattle.wake_lists.specs.Open.{Openings, IsFirst}
use Rattle.wake_lists.proofs.OpeningsKept.{first_is}
use Rattle.wake_lists.proofs.open.Open.first.Goals as goal

pub returns : goal.returns
returns c = subst (λ (os : Openings). IsFirst os c.first.result) c.self.view_is (first_is c.self.inside.standing c.self.inside.queue c.first.result c.first.ensures)
