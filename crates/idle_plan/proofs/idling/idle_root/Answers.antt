use Rattle.idle_plan.proofs.RootIdle.{root_idle}
use Rattle.idle_plan.proofs.idling.idle_root.Goals as goal

pub new-requires : goal.new-requires
new-requires c = rw (c.in_ok-push.ensures.items, c.item_of.ensures, c.place.ensures.place, c.new-reads.ensures.items, c.new-on.ensures.items) (root_idle c.args.view.now c.place.ensures.seen c.requires.root c.requires.unready)
