use Rattle.std.proofs.Common.{◌≡◌, ◌++◌, take}
use Rattle.opened_places.specs.Placed.{goals_placed}
use Rattle.opened_places.proofs.Members.{firsts}
use Rattle.opened_places.proofs.places.push_goals.Given as goal

abbrev pub invariant-loop-name : goal.invariant-loop-name
invariant-loop-name g l = l.places.items ≡ l.fn.places.items ++ goals_placed l.around (firsts (take l.name-index l.goals))
