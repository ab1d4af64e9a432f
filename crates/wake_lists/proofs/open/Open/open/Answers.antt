use Rattle.std.proofs.Common.{None, Some, refl, subst}
use Rattle.wake_lists.specs.Queue.{IsTokenOf}
use Rattle.wake_lists.specs.Open.{Openings, IsOpen, IsOpened}
use Rattle.wake_lists.proofs.OpeningsKept.{open_is}
use Rattle.wake_lists.proofs.open.Open.open.Goals as goal

pub open_new-requires : goal.open_new-requires
open_new-requires c =
    subst (λ (os : Openings). IsOpen os c.args.place None) c.self.view_is
    (open_is c.self.inside.standing c.self.inside.queue c.args.place None (subst (IsTokenOf c.self.inside.queue c.args.place) c.in-None.is c.token_of.ensures))

pub returns-in_ok-hurry-in-Some-clause-opened : goal.returns-in_ok-hurry-in-Some-clause-opened
returns-in_ok-hurry-in-Some-clause-opened c =
    let known : IsOpen c.args.self.now c.args.place (Some c.in-Some.token) =
    subst (λ (os : Openings). IsOpen os c.args.place (Some c.in-Some.token)) c.self.view_is
    (open_is c.self.inside.standing c.self.inside.queue c.args.place (Some c.in-Some.token) (subst (IsTokenOf c.self.inside.queue c.args.place) c.in-Some.is c.token_of.ensures)) in
    let found = known.back c.in-Some.token refl in
    IsOpened.was_open found.0 found.1 found.2 c.in_ok-hurry-in-Some.ensures.hurried
