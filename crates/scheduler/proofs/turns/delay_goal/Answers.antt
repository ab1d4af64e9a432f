use Rattle.std.proofs.Common.{subst}
use Rattle.akl_terms.specs.declared.name.Place.{Place}
use Rattle.wake_lists.specs.declared.turn.Urgency.{Urgency}
use Rattle.wake_lists.specs.Open.{IsOpen}
use Rattle.scheduler.proofs.Hurrying.{boxes_still}
use Rattle.scheduler.proofs.Untimed.{untimed_either}
use Rattle.scheduler.proofs.turns.delay_goal.Goals as goal

pub returns-in-Some-clause-boxes : goal.returns-in-Some-clause-boxes
returns-in-Some-clause-boxes c = boxes_still c.args.open_places.now c.put_last.new.self Urgency.Late c.in-Some.token c.args.goal
    (subst (IsOpen c.args.open_places.now (Place.Goal c.args.goal)) c.in-Some.is c.token_of.ensures) c.put_last.result c.put_last.ensures.put c.put_last.ensures.unchanged

pub returns-in-Some-clause-places : goal.returns-in-Some-clause-places
returns-in-Some-clause-places c = untimed_either c.put_last.result c.args.open_places.now c.put_last.new.self c.put_last.ensures.places c.put_last.ensures.unchanged
