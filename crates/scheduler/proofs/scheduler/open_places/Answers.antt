use Rattle.std.proofs.Common.{ℕ, List, [], subst}
use Rattle.opened_places.specs.Placed.{PlacedValue}
use Rattle.wake_lists.specs.Open.{Openings}
use Rattle.scheduler.specs.AllPlaces.{AreAllOpen}
use Rattle.scheduler.specs.Opening.{AreOpened}
use Rattle.scheduler.proofs.ListedOthers.{if_ok}
use Rattle.scheduler.proofs.Starting.{opened_all}
use Rattle.scheduler.proofs.scheduler.open_places.Goals as goal

pub returns : goal.returns
returns c =
    if_ok c.open_placed.result (λ (os : Openings). (tokens : List ℕ) × AreOpened [] c.as_slice.result.now os tokens) (AreAllOpen c.args.core.now)
    (λ os o. opened_all c.args.core.now c.in_ok-places.places.items os o.0 c.in_ok-places.ensures (subst (λ (ps : List PlacedValue). AreOpened [] ps os o.0) c.as_slice.ensures.value o.1)) c.open_placed.ensures
