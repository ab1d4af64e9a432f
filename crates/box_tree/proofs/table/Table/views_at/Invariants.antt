use Rattle.std.proofs.Common.{◌≡◌, map, take}
use Rattle.std.specs.List.{AllByRecursion}
use Rattle.box_tree.specs.Views.{ViewValue}
use Rattle.box_tree.specs.Places.{IsSeenBy}
use Rattle.box_tree.proofs.table.Table.views_at.Given as goal

abbrev pub invariant-loop-place : goal.invariant-loop-place
invariant-loop-place l = (map (λ (v : ViewValue). v.place) l.views.items ≡ take l.place-index l.places) × AllByRecursion (IsSeenBy l.self l.journal.items l.worker) l.views.items
