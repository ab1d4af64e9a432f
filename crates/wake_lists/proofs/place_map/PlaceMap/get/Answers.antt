use Rattle.std.proofs.Common.{sym, ap, ◌∙◌}
use Rattle.wake_lists.specs.PlaceMaps.{value_at}
use Rattle.wake_lists.proofs.place_map.PlaceMap.get.Goals as goal

pub returns-in-Goal : goal.returns-in-Goal
returns-in-Goal g c = c.get.ensures ∙ ap (value_at c.args.self.now) (sym c.in-Goal.is)

pub returns-in-Box : goal.returns-in-Box
returns-in-Box g c = c.get-in-Box.ensures ∙ ap (value_at c.args.self.now) (sym c.in-Box.is)
