use Rattle.std.proofs.Common.{refl, subst}
use Rattle.wake_lists.specs.declared.turn.Urgency.{Urgency}
use Rattle.wake_lists.specs.Open.{IsOpen}
use Rattle.scheduler.proofs.Hurrying.{urgent_now, urgent_still, urgent_none}
use Rattle.scheduler.proofs.turns.make_urgent.Goals as goal

pub returns-in-Some-clause-now : goal.returns-in-Some-clause-now
returns-in-Some-clause-now c =
    urgent_now c.args.open_places.now c.make_urgent.new.self Urgency.Urgent c.in-Some.token c.make_urgent.ensures.hurried refl c.args.place (subst (IsOpen c.args.open_places.now c.args.place) c.in-Some.is c.token_of.ensures)

pub returns-in-Some-clause-still : goal.returns-in-Some-clause-still
returns-in-Some-clause-still c = urgent_still c.args.open_places.now c.make_urgent.new.self Urgency.Urgent c.in-Some.token c.make_urgent.ensures.hurried

pub returns-in_default-clause-now : goal.returns-in_default-clause-now
returns-in_default-clause-now c = urgent_none c.args.open_places.now c.args.place (subst (IsOpen c.args.open_places.now c.args.place) c.in_default.is c.token_of.ensures)
