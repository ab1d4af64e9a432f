use Rattle.scheduler.proofs.PlacedThose.{put_found, put_nothing}
use Rattle.scheduler.proofs.placing.push_place.Goals as goal

pub returns-in_ok-push-in-Some : goal.returns-in_ok-push-in-Some
returns-in_ok-push-in-Some c =
    put_found c.args.table.now c.args.place c.args.those.now.items c.push.new.self.items c.in_ok-placed.field-0 c.in-Some.placed c.in-Some.is c.in_ok-placed.ensures.place c.in_ok-placed.ensures.around c.in_ok-push-in-Some.ensures.items

pub returns-in-None : goal.returns-in-None
returns-in-None c = put_nothing c.args.table.now c.args.place c.args.those.now.items c.in_ok-placed.field-0 c.in-None.is c.in_ok-placed.ensures.around
