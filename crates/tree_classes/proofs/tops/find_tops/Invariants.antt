use Rattle.std.proofs.Common.{◌≡◌, map, take}
use Rattle.tree_classes.specs.Keys.{top_key}
use Rattle.tree_classes.proofs.tops.find_tops.Given as goal

abbrev pub invariant-loop-seen : goal.invariant-loop-seen
invariant-loop-seen l = map (λ k. k.items) l.keys.items ≡ map top_key (take l.seen-index l.seens)
