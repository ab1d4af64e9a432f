use Rattle.std.proofs.Common.{None, Some, ap, ◌∙◌, subst, refl}
use Rattle.akl_terms.specs.declared.name.Place.{Place}
use Rattle.wake_lists.specs.Queue.{IsTokenOf}
use Rattle.wake_lists.specs.Open.{after_one}
use Rattle.wake_lists.proofs.OpeningsKept.{left_is}
use Rattle.wake_lists.proofs.open.Open.leave_one.Goals as goal

pub returns-in-Some : goal.returns-in-Some
returns-in-Some c =
    left_is c.args.name c.self.inside.standing c.leave.new.self c.exit.new.self c.self.inside.queue c.self.invariant.ordered (Some c.in-Some.token)
    (subst (IsTokenOf c.self.inside.queue (Place.Box c.args.name)) c.in-Some.is c.token_of.ensures) c.leave.ensures c.exit.ensures.boxes
    ∙ ap (after_one c.args.name) c.self.view_is

pub returns-in_default : goal.returns-in_default
returns-in_default c =
    left_is c.args.name c.self.inside.standing c.leave.new.self c.leave.new.self c.self.inside.queue c.self.invariant.ordered None
    (subst (IsTokenOf c.self.inside.queue (Place.Box c.args.name)) c.in_default.is c.token_of.ensures) c.leave.ensures (λ t. refl)
    ∙ ap (after_one c.args.name) c.self.view_is
