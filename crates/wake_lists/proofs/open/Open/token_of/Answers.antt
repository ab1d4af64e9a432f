use Rattle.std.proofs.Common.{subst}
use Rattle.wake_lists.specs.Open.{Openings, IsOpen}
use Rattle.wake_lists.proofs.OpeningsKept.{open_is}
use Rattle.wake_lists.proofs.open.Open.token_of.Goals as goal

pub returns : goal.returns
returns c = subst (λ (os : Openings). IsOpen os c.args.place c.token_of.result) c.self.view_is (open_is c.self.inside.standing c.self.inside.queue c.args.place c.token_of.result c.token_of.ensures)
