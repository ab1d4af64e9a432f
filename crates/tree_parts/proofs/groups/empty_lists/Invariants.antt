use Rattle.std.proofs.Common.{◌≡◌, ℕ, [], length}
use Rattle.tree_parts.specs.Lists.{list_at}
use Rattle.tree_parts.proofs.Grouping.{items_of}
use Rattle.tree_parts.proofs.groups.empty_lists.Given as goal

abbrev pub invariant-loop : goal.invariant-loop
invariant-loop l = (length l.lists.items ≡ l.counter) × ((g : ℕ) → list_at (items_of l.lists.items) g ≡ [])
