use Rattle.std.proofs.Common.{subst}
use Rattle.wake_lists.specs.Open.{Openings}
use Rattle.scheduler.specs.Opening.{AreOpened}
use Rattle.scheduler.proofs.scheduler.open_placed.Goals as goal

pub returns : goal.returns
returns g c = (
  c.in_ok-open_all.field-0.items,
  subst (λ (os : Openings). AreOpened os c.args.places.now c.open_all.new.open_places c.in_ok-open_all.field-0.items) c.new-open_places.ensures c.in_ok-open_all.ensures.opened,
)
