use Rattle.wake_lists.specs.declared.turn.Urgency.{Urgency}
use Rattle.scheduler.proofs.Hurrying.{still_either}
use Rattle.scheduler.proofs.Untimed.{untimed_either}
use Rattle.scheduler.proofs.turns.hurry_goal.Goals as goal

pub returns-then-may_go_on-clause-still : goal.returns-then-may_go_on-clause-still
returns-then-may_go_on-clause-still c = still_either c.hurry.result c.args.open_places.now c.hurry.new.self Urgency.Ordinary c.in-Some.token c.hurry.ensures.hurried c.hurry.ensures.unchanged

pub returns-then-may_go_on-clause-places : goal.returns-then-may_go_on-clause-places
returns-then-may_go_on-clause-places c = untimed_either c.hurry.result c.args.open_places.now c.hurry.new.self c.hurry.ensures.places c.hurry.ensures.unchanged
