use Rattle.std.proofs.Common.{◌≡◌, take}
use Rattle.tree_models.specs.Made.{given_by}
use Rattle.tree_models.specs.Visiting.{place_by}
use Rattle.tree_models.proofs.made.places_given.Given as goal

abbrev pub invariant-loop-k : goal.invariant-loop-k
invariant-loop-k l = l.given.items ≡ given_by (place_by l.firsts l.order) (take l.k l.variables) (take l.k l.nodes)
