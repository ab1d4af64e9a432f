use Rattle.std.proofs.Common.{take}
use Rattle.opened_places.specs.Copies.{PutsGoals}
use Rattle.opened_places.proofs.Members.{firsts}
use Rattle.opened_places.proofs.copies.put_goals.Given as goal

abbrev pub invariant-loop-name : goal.invariant-loop-name
invariant-loop-name g l = PutsGoals (firsts (take l.name-index l.goals)) l.home l.fn.homes.entries l.homes.entries
