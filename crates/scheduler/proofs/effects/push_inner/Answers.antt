use Rattle.std.proofs.Common.{List, ◌++◌, ap, ◌∙◌}
use Rattle.opened_places.specs.Placed.{PlacedValue, places_of}
use Rattle.scheduler.specs.Listing.{places_but}
use Rattle.scheduler.proofs.ListedOthers.{on_ok}
use Rattle.scheduler.proofs.effects.push_inner.Goals as goal

pub returns : goal.returns
returns c = on_ok c.push_staying.result (λ e. record {
  inside = c.in_ok-inside.inside.items;
  are_inside = c.in_ok-inside.ensures;
  comes = e ∙ ap (λ (ps : List PlacedValue). c.args.places.now.items ++ places_but c.args.gone.now (places_of ps)) c.as_slice.ensures.value;
}) c.push_staying.ensures
